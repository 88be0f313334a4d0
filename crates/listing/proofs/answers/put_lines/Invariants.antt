-- `answers::put_lines` meets its contract, by the laws of `Lines` and `Visits` of walking, turn by turn.
use Prim.Native.Nat.{◌-◌}
use lib.ListN.{length}
use Rattle.listing.proofs.Lines.{Going}
use Rattle.listing.proofs.answers.put_lines.Given as goal

abbrev pub invariant-loop-pos : goal.invariant-loop-pos
invariant-loop-pos l = Going l.initial.writer l.words l.writer l.pos

abbrev pub decreases-loop-pos : goal.decreases-loop-pos
decreases-loop-pos l = length l.words - l.pos
