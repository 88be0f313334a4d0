-- `one_pass::headed_packets` meets its contract. The invariant: what is to be answered is what the packets from p on give.
use Prim.Native.Nat.{◌-◌}
use mathlib.Core.Path.{◌≡◌}
use Rattle.reading.specs.OnePass.{headed_from}
use Rattle.reading.proofs.one_pass.headed_packets.Given as goal

abbrev pub invariant-loop-p : goal.invariant-loop-p
invariant-loop-p l = headed_from 64 l.words l.offset 0 ≡ headed_from (64 - l.p) l.words l.offset l.p
