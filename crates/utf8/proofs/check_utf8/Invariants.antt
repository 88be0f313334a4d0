-- `utf8::check_utf8` meets its contract. Invariant: checking the remaining bytes from here gives the verdict on the whole text.
use Rattle.std.proofs.Common.{◌≡◌, Ok}
use Rattle.utf8.specs.Utf8.{first_bad}
use Rattle.utf8.proofs.Steps.{verdict_of}
use Rattle.utf8.proofs.check_utf8.Given as goal

abbrev pub invariant-loop-i : goal.invariant-loop-i
invariant-loop-i l = verdict_of l.text (Ok l.last) l.i ≡ first_bad l.text
