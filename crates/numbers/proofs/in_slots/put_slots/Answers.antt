-- `in_slots::put_slots` meets its contract, by the laws of `Computed`.
use mathlib.Core.Path.{sym, ◌∙◌}
use lib.Seq.{length-take-le}
use Rattle.numbers.proofs.Computed.{few, slots_put}
use Rattle.numbers.proofs.in_slots.put_slots.Goals as goal

pub slice_bounds-ns-end : goal.slice_bounds-ns-end
slice_bounds-ns-end c = few c.args.kind _ c.row_of-row.ensures c.slot_numbers-ns.ensures

pub slice_bounds-put_numbers-end : goal.slice_bounds-put_numbers-end
slice_bounds-put_numbers-end c = sym (length-take-le _ _ (few c.args.kind _ c.row_of-row.ensures c.slot_numbers-ns.ensures))

pub returns : goal.returns
returns c = c.put_numbers.ensures ∙ rw (c.row_of-row.ensures.slots, c.slot_numbers-ns.ensures) (slots_put c.args.kind _ _)
