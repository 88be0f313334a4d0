-- `by_byte::check_text` meets its contract. Invariant: p packets were read.
use Rattle.std.proofs.Common.{◌∙◌}
use Rattle.std.proofs.Math.Nat.{mul-le-mul_right}
use Rattle.text_check.proofs.ByByte.{read_none, read_all}
use Rattle.text_check.proofs.by_byte.check_text.Goals as goal

pub loop-p-init : goal.loop-p-init
loop-p-init c = rw c.before_text-check.ensures (read_none _ _ _)

pub returns : goal.returns
returns c =
    c.verdict_at_end.ensures ∙ read_all _ _ _ _ _ (mul-le-mul_right _ (rw c.whole_packets-packets.ensures at c.loop-p-test.false)) c.loop-p.invariant
