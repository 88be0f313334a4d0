-- `by_byte::after_packet` meets its contract. Invariant: b bytes of the packet were read.
use Rattle.std.proofs.Common.{◌∙◌, sym, arith}
use Rattle.std.proofs.Math.Nat.{add-zero}
use Rattle.std.proofs.lemmas.Result.{err_from_is_err_and}
use Rattle.text_check.proofs.ByByte.{read_at, packet_end, read_stopped}
use Rattle.text_check.proofs.by_byte.after_packet.Goals as goal

pub loop-b-init : goal.loop-b-init
loop-b-init c = rw add-zero c.requires.before

pub returns-in_err-check : goal.returns-in_err-check
returns-in_err-check c =
    let p = err_from_is_err_and c.from_residual.result c.from_residual.ensures.1 in
    rw (p.1, p.2) (read_stopped _ _ _ _ _ _ (read_at _ _ _ c.loop-b.check _ _ (omega arith) (omega arith) c.requires.in_words c.requires.in_words (omega arith) c.loop-b.invariant (sym c.in_err-check.was ∙ (rw c.text_byte.ensures at c.after_byte.ensures))))

pub loop-b-preserved : goal.loop-b-preserved
loop-b-preserved c =
    read_at _ _ _ c.loop-b.check _ _ (omega arith) (omega arith) c.requires.in_words c.requires.in_words (omega arith) c.loop-b.invariant (sym c.in_ok-check.was ∙ (rw c.text_byte.ensures at c.after_byte.ensures))

pub returns : goal.returns
returns c = packet_end _ _ _ _ _ _ (omega arith) c.loop-b.invariant
