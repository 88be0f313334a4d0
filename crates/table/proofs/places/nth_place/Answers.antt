-- `places::nth_place` meets its contract past the last slot.
use Prim.Native.Nat.{◌≤◌}
use native.Mathlib.Omega.{arith}
use Rattle.laws.specs.Lists.{each}
use Rattle.kinds.specs.Layout.{layout}
use Rattle.table.specs.Places.{every_slot}
use Rattle.table.proofs.PlaceLaws.{past}
use borrow.Author.Rules.{rules}
use Rattle.table.proofs.places.nth_place.Goals as goal

pub returns-in_default : goal.returns-in_default
unfolding each layout
returns-in_default c = let h : 36 ≤ c.args.n = omega arith in past every_slot h (search rules)
