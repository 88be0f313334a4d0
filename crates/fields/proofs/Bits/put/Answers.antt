-- `Bits::put` meets its contract, by the laws of `Puts`.
use mathlib.Core.Path.{sym, ◌∙◌}
use native.Mathlib.Omega.{arith}
use borrow.Author.Tests.{leb-true, leb-false}
use Rattle.fields.proofs.Puts.{put_fitting, put_outside, put_too_large, put_is, put_in_word}
use borrow.Author.Rules.{rules}
use Rattle.fields.proofs.Bits.put.Goals as goal
use Rattle.fields.proofs.Bits.put.Goals.{then-self-gt32-via-then-self-gt32, then-self-gt32-via-else-self-gt32+then-self, then-self-gt32-via-else-self-gt32+else-self+then-too_large}

pub returns-then-self-gt32 : goal.returns-then-self-gt32
returns-then-self-gt32 c =
    elim c.then-self-gt32.branch [
      | then-self-gt32-via-then-self-gt32 w ↦ put_outside _ _ _ _ (omega (arith, w.if-self-gt32.true))
      | then-self-gt32-via-else-self-gt32+then-self w ↦ put_outside _ _ _ _ (omega (arith, w.if-self.true))
      | then-self-gt32-via-else-self-gt32+else-self+then-too_large w ↦ put_too_large _ _ _ _ (omega (arith, w.if-self.false, w.if-self-gt32.false)) (leb-true _ _ (sym w.too_large.ensures ∙ w.if-too_large.true))
    ]

pub overflow_cast-result-2 : goal.overflow_cast-result-2
overflow_cast-result-2 c = omega (arith, put_in_word (record { lowest = c.power_of_two-low.ensures; above = c.power_of_two-top.ensures; within = omega arith }) c.args.w c.args.v (search rules) (leb-false _ _ (sym c.too_large.ensures ∙ c.if-too_large.false)))

pub returns : goal.returns
returns c = put_is (record { lowest = c.power_of_two-low.ensures; above = c.power_of_two-top.ensures; within = omega arith }) _ _ ∙ sym (put_fitting _ _ _ _ (omega arith) (leb-false _ _ (sym c.too_large.ensures ∙ c.if-too_large.false)))
