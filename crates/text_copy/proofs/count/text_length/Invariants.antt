-- `count::text_length` meets its contract. Invariant: the count, and the length of the text from packet p on, are the text's length.
use Prim.Native.Nat.{◌+◌, ◌-◌, ◌*◌, ◌/◌, ◌≤◌}
use mathlib.Core.Path.{◌≡◌}
use lib.ListN.{length}
use Rattle.text.specs.Bytes.{text_of}
use Rattle.text_copy.proofs.Packets.{left}
use Rattle.text_copy.proofs.count.text_length.Given as goal

abbrev pub invariant-loop-p : goal.invariant-loop-p
invariant-loop-p l = (l.count ≤ l.p * 16) × (l.count + length (left l.words l.offset l.p) ≡ length (text_of l.words (14 - l.offset) (length l.words / 4)))
