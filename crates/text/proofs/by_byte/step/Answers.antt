-- `text::by_byte::step` meets its contract. Invariant: the step from the current place is the step from the given place.
use mathlib.Core.Path.{sym, ◌∙◌}
use native.Mathlib.Omega.{arith}
use Rattle.text.proofs.Place.{byte_in, next_low, step_past, step_over, step_zero, step_byte}
use Rattle.text.proofs.by_byte.step.Goals as goal

pub returns-then-offset-ge14 : goal.returns-then-offset-ge14
returns-then-offset-ge14 c = c.end_at.ensures ∙ sym (step_over _ _ c.args.at (omega arith))

pub returns-then-offset-at : goal.returns-then-offset-at
returns-then-offset-at c = c.end_at-then-offset-at.ensures ∙ sym (step_over _ _ c.args.at (omega arith))

pub returns-then-x-ne0 : goal.returns-then-x-ne0
returns-then-x-ne0 c =
    let l = c.loop-place in
    let h = rw c.packets_of-packets.ensures at c.loop-place-test.true in
    let is = c.text_byte-x.ensures ∙ byte_in _ _ l.place h l.invariant.low in
    rw (is, c.next_place-place.ensures) (sym (l.invariant.same ∙ step_byte _ _ l.place h l.invariant.low (λ e. c.if-x-ne0.true (is ∙ e))))

pub loop-place-preserved : goal.loop-place-preserved
loop-place-preserved c =
    let l = c.loop-place in
    let h = rw c.packets_of-packets.ensures at c.loop-place-test.true in
    rw c.next_place-place.ensures
    (record {
      low = next_low _ l.place (omega arith);
      same = l.invariant.same ∙ step_zero _ _ l.place h l.invariant.low (sym (c.text_byte-x.ensures ∙ byte_in _ _ l.place h l.invariant.low) ∙ c.if-x-ne0.false);
    })

pub returns : goal.returns
returns c = c.end_at-2.ensures ∙ sym (c.loop-place.invariant.same ∙ step_past _ _ _ (rw c.packets_of-packets.ensures at c.loop-place-test.false))
