-- `bytes::past_character` meets its contract. Invariant: the check has reached byte i, and a character is open there.
use Rattle.std.proofs.Common.{◌∙◌, sym, refl, Ok, Err, arith}
use Rattle.laws.proofs.Pick.{told}
use Rattle.text_check.proofs.Progress.{answer_start, answer_stopped}
use Rattle.text_check.proofs.Skips.{byte_turn, skip_read, bytes_finish}
use Rattle.text_check.proofs.bytes.past_character.Goals as goal

pub loop-i-init : goal.loop-i-init
loop-i-init c = (rw c.before_text-last.ensures (answer_start _), λ h. absurd (omega arith))

pub returns-in_default : goal.returns-in_default
returns-in_default c =
    sym (answer_stopped _ _ _ _ refl (byte_turn _ _ (λ k. (c.type_inv.text k).fits) (Ok c.loop-i.last) (Err c.in_default.field-0) _ c.loop-i-test.true (sym c.in_default.is ∙ c.after_byte.ensures) c.loop-i.invariant.0))

pub returns-then-none_open : goal.returns-then-none_open
returns-then-none_open c = (
  omega arith,
  skip_read _ (Ok c.in-Ok.next) _ _ (omega arith) (omega arith) (told c.none_open.ensures c.if-none_open.true) (byte_turn _ _ (λ k. (c.type_inv.text k).fits) (Ok c.loop-i.last) (Ok c.in-Ok.next) _ c.loop-i-test.true (sym c.in-Ok.is ∙ c.after_byte.ensures) c.loop-i.invariant.0),
)

pub loop-i-preserved : goal.loop-i-preserved
loop-i-preserved c = (
  byte_turn _ _ (λ k. (c.type_inv.text k).fits) (Ok c.loop-i.last) (Ok c.in-Ok.next) _ c.loop-i-test.true (sym c.in-Ok.is ∙ c.after_byte.ensures) c.loop-i.invariant.0,
  λ h. told c.none_open.ensures c.if-none_open.false,
)

pub returns : goal.returns
returns c = sym (bytes_finish _ _ _ _ c.loop-i-test.false c.loop-i.invariant.0) ∙ c.loop-i.invariant.1 (omega arith)
