-- `bytes::is_good` meets its contract. Invariant: the bytes before byte i are whole characters.
use Rattle.std.proofs.Common.{◌-◌, length}
use Rattle.text_check.specs.FastCheck.{Skipped}
use Rattle.text_check.proofs.bytes.is_good.Given as goal

abbrev pub invariant-loop-i : goal.invariant-loop-i
invariant-loop-i l = Skipped l.text 0 l.i

abbrev pub decreases-loop-i : goal.decreases-loop-i
decreases-loop-i l = length l.text - l.i
