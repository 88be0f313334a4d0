-- `put::put_packets` meets its contract. Invariant: writing the text of the packets from p on gives the whole text written.
use Prim.Native.Nat.{◌-◌, ◌/◌}
use mathlib.Core.Path.{◌≡◌}
use lib.ListN.{length}
use Rattle.text.specs.Bytes.{text_of}
use Rattle.ascii_lines.proofs.Page.{ToWrite}
use Rattle.text_copy.proofs.Packets.{left}
use Rattle.text_copy.proofs.put.put_packets.Given as goal

abbrev pub invariant-loop-p : goal.invariant-loop-p
invariant-loop-p l = (length l.out ≡ length l.initial.out) × ToWrite 0 l.initial.out (text_of l.words (14 - l.offset) (length l.words / 4)) l.at l.out (left l.words l.offset l.p)
