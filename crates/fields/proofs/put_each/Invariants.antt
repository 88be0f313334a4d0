-- `put_each` meets its contract, by the laws of `Filled`, turn by turn.
use Prim.Native.Nat.{◌≤◌, ◌*◌, ◌/◌}
use lib.ListN.{length}
use Rattle.fields.specs.Puts.{put_if_fits}
use Rattle.fields.proofs.Filled.{Filled, firsts}
use Rattle.fields.proofs.put_each.Given as goal

abbrev pub invariant-loop-p : goal.invariant-loop-p
invariant-loop-p l = (l.fn.packets.0 ≤ length l.initial.words / 4) × (l.p ≤ l.fn.packets.0) × Filled (l.p * 4) (firsts (λ w. put_if_fits w l.bits.low l.bits.width l.v) l.initial.words) l.initial.words l.words
