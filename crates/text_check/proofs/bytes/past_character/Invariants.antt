-- `bytes::past_character` meets its contract. Invariant: the check has reached byte i, and a character is open there.
use Rattle.std.proofs.Common.{◌≡◌, ◌<◌, drop, false, Ok}
use Rattle.utf8.specs.Utf8.{first_bad}
use Rattle.text_check.specs.FastCheck.{is_good, none_open}
use Rattle.text_check.proofs.Skips.{AtByte}
use Rattle.text_check.proofs.bytes.past_character.Given as goal

abbrev pub invariant-loop-i : goal.invariant-loop-i
invariant-loop-i l =
    AtByte l.text (is_good (first_bad (drop l.from l.text))) (Ok l.last) l.i × (l.from < l.i → none_open (Ok l.last) ≡ false)
