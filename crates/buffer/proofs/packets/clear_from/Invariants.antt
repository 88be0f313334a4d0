-- `packets::clear_from` meets its contract, by the laws of `Turns`, turn by turn.
use Prim.Native.Nat.{◌≤◌, ◌*◌, ◌/◌}
use mathlib.Core.Path.{◌≡◌}
use lib.ListN.{length, get_or}
use lib.Dec.{ltb}
use Rattle.laws.specs.Pick.{pick}
use Rattle.fields.proofs.Filled.{Filled}
use Rattle.buffer.proofs.packets.clear_from.Given as goal

abbrev pub invariant-loop-k : goal.invariant-loop-k
invariant-loop-k l = (l.k-end ≡ length l.initial.words / 4 * 4) × (l.initial.k ≤ l.k) × (l.k ≤ l.k-end) × Filled l.k (λ i. pick (ltb i l.initial.k) (get_or l.initial.words i 0) 0) l.initial.words l.words
