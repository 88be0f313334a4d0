-- `places::place_of` meets its contract, by the laws of `PlaceLaws`.
use native.Mathlib.Omega.{arith}
use Rattle.table.proofs.PlaceLaws.{place_told}
use Rattle.table.proofs.places.place_of.Goals as goal

pub returns : goal.returns
returns c = place_told c.args.kind c.args.slot (omega (arith, c.row_of-row.ensures.slots, c.if-row-slot.false)) c.row_of-row.ensures.first c.nth_place.ensures
