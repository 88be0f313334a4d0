-- `by_slot::put_numbers` meets its contract, by the laws of `BySlot`, turn by turn.
use Prim.Native.Nat.{◌+◌, ◌-◌}
use mathlib.Core.Path.{refl, sym, ap, ◌∙◌}
use native.Mathlib.Omega.{arith}
use lib.ListN.{length, get_or}
use Rattle.kinds.specs.Layout.{layout}
use Rattle.table.specs.Places.{slot_at}
use Rattle.numbers.specs.BySlot.{put_slot}
use Rattle.numbers.proofs.BySlot.{put_last, put_turn, placed}
use borrow.Author.Rules.{rules}
use Rattle.numbers.proofs.by_slot.put_numbers.Goals as goal

pub loop-i-init : goal.loop-i-init
loop-i-init c = (omega arith, refl, sym (put_last _ _ _ (length c.args.numbers.now) _ (omega arith)))

pub loop-i-preserved : goal.loop-i-preserved
loop-i-preserved c =
    let l = c.loop-i in
    let v = get_or c.args.numbers.now (l.i - 1) 0 in
    (omega arith, search rules, c.put_field.ensures ∙ placed v _ c.place_of-place.ensures ∙ ap (put_slot (slot_at (layout c.args.kind).fields (c.args.first + (l.i - 1))) v) l.invariant.2 ∙ put_turn _ _ _ _ l.i c.loop-i-test.true l.invariant.0)
