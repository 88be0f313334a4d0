-- The packets of a message, packet by packet.
use Prim.Native.Nat.{◌+◌, ◌*◌}
use mathlib.Core.Path.{◌≡◌, ◌∙◌, sym, ap}
use native.Mathlib.Numerals.{add-one}
use native.Mathlib.Omega.{arith}
use Rattle.standard.specs.Walk.{step_of}
use Rattle.walking.proofs.Turns.{turn_short, turn_type, turn_status, turn_step, frame_end}
use Rattle.walking.proofs.frame.Goals as goal

pub returns-then-words-at-lt4 : goal.returns-then-words-at-lt4
returns-then-words-at-lt4 c = turn_short _ _ _ _ c.loop-p-test.true c.loop-p.invariant.1 c.if-words-at-lt4.true

pub returns-then-type_of-ne15 : goal.returns-then-type_of-ne15
returns-then-type_of-ne15 c = turn_type _ _ _ _ c.loop-p-test.true c.loop-p.invariant.1 c.if-words-at-lt4.false (λ e. c.if-type_of-ne15.true (c.type_of.ensures ∙ e))

pub returns-then-status_of-status : goal.returns-then-status_of-status
returns-then-status_of-status c = turn_status _ _ _ _ c.loop-p-test.true c.loop-p.invariant.1 c.if-words-at-lt4.false (sym c.type_of.ensures ∙ c.if-type_of-ne15.false) (λ e. c.if-status_of-status.true (c.status_of.ensures ∙ e))

pub returns-in-Ends : goal.returns-in-Ends
returns-in-Ends c = rw add-one (turn_step _ _ _ _ c.loop-p-test.true c.loop-p.invariant.1 c.if-words-at-lt4.false (sym c.type_of.ensures ∙ c.if-type_of-ne15.false) (sym c.status_of.ensures ∙ c.if-status_of-status.false) (c.in-Ends.ensures ∙ ap (step_of _) c.format_of.ensures))

pub returns-in-Wrong : goal.returns-in-Wrong
returns-in-Wrong c = turn_step _ _ _ _ c.loop-p-test.true c.loop-p.invariant.1 c.if-words-at-lt4.false (sym c.type_of.ensures ∙ c.if-type_of-ne15.false) (sym c.status_of.ensures ∙ c.if-status_of-status.false) (c.in-Wrong.ensures ∙ ap (step_of _) c.format_of.ensures)

pub loop-p-preserved : goal.loop-p-preserved
loop-p-preserved c =
    let next : c.args.pos + (c.loop-p.p + 1) * 4 ≡ c.args.pos + c.loop-p.p * 4 + 4 = omega arith in
    (omega arith, rw next (turn_step _ _ _ _ c.loop-p-test.true c.loop-p.invariant.1 c.if-words-at-lt4.false (sym c.type_of.ensures ∙ c.if-type_of-ne15.false) (sym c.status_of.ensures ∙ c.if-status_of-status.false) (c.in-Goes.ensures ∙ ap (step_of _) c.format_of.ensures)))

pub returns : goal.returns
returns c = frame_end _ _ _ _ c.loop-p-test.false c.loop-p.invariant.1
