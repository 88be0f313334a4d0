-- `rules::first_packet` meets its contract, by the laws of `Search`.
use Rattle.reading.proofs.Search.{found_here, not_here, nowhere}
use Rattle.reading.proofs.rules.first_packet.Goals as goal

pub returns-then-test : goal.returns-then-test
returns-then-test g c t tells = found_here (goal.T-post g c.args.test) _ t tells c.packets_of-p-end.ensures _ (c.loop-p.invariant t tells) c.loop-p-test.true c.head_at.ensures c.test.ensures c.if-test.true

pub loop-p-preserved : goal.loop-p-preserved
loop-p-preserved g c t tells = not_here (goal.T-post g c.args.test) _ t tells c.packets_of-p-end.ensures _ (c.loop-p.invariant t tells) c.loop-p-test.true c.head_at.ensures c.test.ensures c.if-test.false

pub returns : goal.returns
returns g c t tells = nowhere (goal.T-post g c.args.test) _ t tells c.packets_of-p-end.ensures _ (c.loop-p.invariant t tells) c.loop-p-test.false
