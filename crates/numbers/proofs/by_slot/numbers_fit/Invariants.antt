-- `by_slot::numbers_fit` meets its contract, by the laws of `BySlot`, turn by turn.
use Prim.Native.Nat.{◌+◌, ◌-◌, ◌≤◌}
use mathlib.Core.Path.{◌≡◌}
use lib.ListN.{length, drop}
use Rattle.kinds.specs.Layout.{layout}
use Rattle.numbers.specs.BySlot.{fit_from}
use Rattle.numbers.proofs.by_slot.numbers_fit.Given as goal

abbrev pub invariant-loop-i : goal.invariant-loop-i
invariant-loop-i l = (l.i ≤ length l.numbers) × (fit_from (layout l.kind).fields (l.first + l.i) (drop l.i l.numbers) ≡ fit_from (layout l.kind).fields l.first l.numbers)

abbrev pub decreases-loop-i : goal.decreases-loop-i
decreases-loop-i l = length l.numbers - l.i
