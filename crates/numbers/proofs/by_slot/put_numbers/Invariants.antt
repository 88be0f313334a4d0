-- `by_slot::put_numbers` meets its contract, by the laws of `BySlot`, turn by turn.
use Prim.Native.Nat.{◌+◌, ◌≤◌}
use mathlib.Core.Path.{◌≡◌}
use lib.ListN.{length, drop}
use Rattle.kinds.specs.Layout.{layout}
use Rattle.numbers.specs.BySlot.{put_from}
use Rattle.numbers.proofs.by_slot.put_numbers.Given as goal

abbrev pub invariant-loop-i : goal.invariant-loop-i
invariant-loop-i l = (l.i ≤ length l.numbers) × (length l.words ≡ length l.initial.words) × (l.words ≡ put_from (layout l.kind).fields (l.first + l.i) (drop l.i l.numbers) l.initial.words)

abbrev pub decreases-loop-i : goal.decreases-loop-i
decreases-loop-i l = l.i
