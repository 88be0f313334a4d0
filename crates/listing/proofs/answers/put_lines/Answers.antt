-- `answers::put_lines` meets its contract, by the laws of `Lines` and `Visits` of walking, turn by turn.
use native.Mathlib.Omega.{arith}
use Rattle.listing.proofs.Lines.{going_all, going_turn, going_none}
use Rattle.walking.proofs.Visits.{next_between}
use Rattle.listing.proofs.answers.put_lines.Goals as goal

pub loop-pos-smaller : goal.loop-pos-smaller
loop-pos-smaller c = omega (arith, next_between _ _ _ _ c.loop-pos-test.true c.walk-answer.ensures c.next_of-pos.ensures)

pub loop-pos-init : goal.loop-pos-init
loop-pos-init c = going_all _ _

pub loop-pos-preserved : goal.loop-pos-preserved
loop-pos-preserved c = going_turn _ c.loop-pos.invariant c.loop-pos-test.true c.walk-answer.ensures c.put_line.ensures c.next_of-pos.ensures

pub returns : goal.returns
returns c = going_none c.loop-pos.invariant c.loop-pos-test.false
