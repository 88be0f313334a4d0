-- `put::put_each` meets its contract. Invariant: writing the octets from this one on gives all of them written.
use Rattle.ascii_lines.proofs.Page.{ToWrite}
use Rattle.laws.specs.Lists.{nonzero}
use lib.ListN.{length, drop}
use mathlib.Core.Path.{◌≡◌}
use Rattle.text_copy.proofs.put.put_each.Given as goal

abbrev pub invariant-loop-octet : goal.invariant-loop-octet
invariant-loop-octet l = (length l.out ≡ length l.initial.out) × ToWrite l.at l.initial.out (nonzero l.octet-items) l.end l.out (nonzero (drop l.octet-index l.octet-items))
