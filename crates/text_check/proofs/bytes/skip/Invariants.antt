-- `bytes::skip` meets its contract. Invariant: the bytes before byte i are whole characters.
use Rattle.std.proofs.Common.{◌-◌, length}
use Rattle.text_check.specs.FastCheck.{Skipped}
use Rattle.text_check.proofs.bytes.skip.Given as goal

abbrev pub invariant-loop-i : goal.invariant-loop-i
invariant-loop-i g l = Skipped l.text l.from l.i

abbrev pub decreases-loop-i : goal.decreases-loop-i
decreases-loop-i g l = length l.text - l.i
