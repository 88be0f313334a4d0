-- The packets of a message. The loop's invariant: what framing gives from packet p on is what it gives from packet 0 on.
use Prim.Native.Nat.{◌+◌, ◌-◌, ◌*◌, ◌≤◌}
use mathlib.Core.Path.{◌≡◌}
use lib.ListN.{length}
use Rattle.standard.specs.Walk.{frame_from, frame_of}
use Rattle.walking.proofs.frame.Given as goal

abbrev pub invariant-loop-p : goal.invariant-loop-p
invariant-loop-p l = (l.pos + l.p * 4 ≤ length l.words) × (frame_from (64 - l.p) l.words l.status l.p (l.pos + l.p * 4) ≡ frame_of l.words l.pos)
