-- The next position is larger than the given one, and at most the length. By induction on the packets that may still come.
use Rattle.std.specs.Prelude.{Result, Ok, Err}
use Prim.Native.Nat.{ℕ, zero, suc, ◌+◌, ◌-◌, ◌*◌, ◌≤◌, ◌<◌}
use mathlib.Core.Path.{◌≡◌, refl, sym}
use mathlib.Core.List.{List}
use native.Mathlib.Omega.{arith}
use lib.ListN.{length, get_or}
use lib.Dec.{ltb, leb, leb→le}
use borrow.Author.Tests.{ltb-false, leb-true, le-leb}
use Rattle.laws.specs.Pick.{differ}
use Rattle.laws.proofs.Lists.{every_at}
use Rattle.laws.proofs.Pick.{picked, here}
use Rattle.counts.specs.declared.PacketNumber.{PacketNumber}
use Rattle.records.specs.declared.answers.Walked.TheVariants as W
use Rattle.standard.specs.declared.Step.{Step}
use Rattle.standard.specs.declared.Step.TheVariants.{Ends, Goes, Wrong}
use Rattle.standard.specs.declared.Framed.{Framed}
use Rattle.standard.specs.declared.Framed.TheVariants.{Whole, Short, Broken}
use Rattle.standard.specs.Heads.{type_of, format_of, status_of, stream_type}
use Rattle.standard.specs.Reading.{read_of}
use Rattle.standard.specs.Walk.{sizes, size_of, step_of, after_step, frame_packet, frame_from, frame_of, walked_of, part, framed_of, other_of, walk_of, Onward}
use Rattle.records.specs.declared.message.Message.{Message}
use Rattle.kinds.specs.declared.refusal.Refusal.{Refusal}

-- ---- framing
-- the packets of a framed message lie within the words; a broken message has at least one whole packet
abbrev pub Room : List ℕ → ℕ → Framed → Type 0
Room ws pos (Whole n) = (1 ≤ n.0) × (n.0 ≤ 64) × (pos + n.0 * 4 ≤ length ws)
Room ws pos Short = Unit
Room ws pos (Broken r) = pos + 4 ≤ length ws

step_room : (t : Step) (ws : List ℕ) (pos p : ℕ) (rest : Framed) → p < 64 → pos + p * 4 + 4 ≤ length ws → Room ws pos rest → Room ws pos (after_step t p rest)
step_room Ends ws pos p rest l h r = (omega arith, omega arith, omega arith)
step_room Goes ws pos p rest l h r = r
step_room Wrong ws pos p rest l h r = omega arith

packet_room : (ws : List ℕ) (status pos p at : ℕ) (rest : Framed) → p < 64 → at ≡ pos + p * 4 → (at + 4 ≤ length ws → Room ws pos rest) → Room ws pos (frame_packet ws status p at rest)
unfolding frame_packet
packet_room ws status pos p at rest l e h =
    picked (Room ws pos) (ltb (length ws - at) 4) _ _ (λ t. tt) (λ t.
    let long : 4 ≤ length ws - at = ltb-false _ _ t in
    picked (Room ws pos) (differ (type_of (get_or ws at 0)) stream_type) _ _ (λ u. omega arith) (λ u.
    picked (Room ws pos) (differ (status_of (get_or ws at 0)) status) _ _ (λ v. omega arith) (λ v.
    step_room (step_of p (format_of (get_or ws at 0))) ws pos p rest l (omega arith) (h (omega arith)))))

from_room : (left : ℕ) (ws : List ℕ) (status pos p at : ℕ) → p + left ≡ 64 → at ≡ pos + p * 4 → (1 ≤ p → at ≤ length ws) → Room ws pos (frame_from left ws status p at)
unfolding frame_from
from_room zero ws status pos p at f e h = omega (arith, h (omega arith))
from_room (suc left) ws status pos p at f e h =
    packet_room ws status pos p at _ (omega arith) e (λ l. from_room left ws status pos (suc p) (at + 4) (omega arith) (omega arith) (λ z. omega arith))

pub frame_room : (ws : List ℕ) (pos : ℕ) → Room ws pos (frame_of ws pos)
unfolding frame_of
frame_room ws pos = from_room 64 ws (status_of (get_or ws pos 0)) pos 0 pos refl (omega arith) (λ z. omega arith)

pub whole_room : {f : Framed} (ws : List ℕ) (pos : ℕ) {n : PacketNumber} → f ≡ frame_of ws pos → f ≡ Whole n → Room ws pos (Whole n)
whole_room ws pos e q = rw (← e, q) at (frame_room ws pos)

-- ---- the walk
-- a packet of any type has one to four words
pub size_some : (t : ℕ) → 1 ≤ size_of t
unfolding size_of
size_some t = leb→le _ _ (every_at (leb 1) sizes 4 tt tt t)

pub size_most : (t : ℕ) → size_of t ≤ 4
unfolding size_of
size_most t = leb→le _ _ (every_at (λ n. leb n 4) sizes 4 tt tt t)

read_onward : (r : (Result Message Refusal)) (pos end next : ℕ) → pos < next → next ≤ end → Onward pos end (walked_of r next)
read_onward (Ok m) pos end next a b = (a, b)
read_onward (Err r) pos end next a b = (a, b)

framed_onward : (f : Framed) (ws : List ℕ) (pos : ℕ) → pos < length ws → Room ws pos f → Onward pos (length ws) (framed_of f ws pos)
unfolding framed_of
framed_onward Short ws pos h r = (h, omega arith)
framed_onward (Broken b) ws pos h r = (omega arith, omega (arith, r))
framed_onward (Whole n) ws pos h r = read_onward (read_of (part ws pos n.0)) pos (length ws) (pos + n.0 * 4) (omega arith) r.2

other_onward : (t : ℕ) (ws : List ℕ) (pos : ℕ) → pos < length ws → Onward pos (length ws) (other_of t ws pos)
unfolding other_of
other_onward t ws pos h =
    picked (Onward pos (length ws)) (ltb (length ws - pos) (size_of t)) _ _ (λ q. (h, omega arith)) (λ q.
    let l : size_of t ≤ length ws - pos = ltb-false _ _ q in
    (omega (arith, size_some t), omega arith))

-- before the end, an answer has a next position, larger than the given one and at most the length
pub walk_onward : (ws : List ℕ) (pos : ℕ) → pos < length ws → Onward pos (length ws) (walk_of ws pos)
unfolding walk_of
walk_onward ws pos h =
    picked (Onward pos (length ws)) (leb (length ws) pos) _ _ (λ q. let l : length ws ≤ pos = leb-true _ _ q in omega arith) (λ q.
    picked (Onward pos (length ws)) (differ (type_of (get_or ws pos 0)) stream_type) _ _ (λ u. other_onward _ ws pos h) (λ u. framed_onward (frame_of ws pos) ws pos h (frame_room ws pos)))

-- at or past the length, the answer is the end
pub walk_end : (ws : List ℕ) (pos : ℕ) → length ws ≤ pos → walk_of ws pos ≡ W.End
unfolding walk_of
walk_end ws pos h = sym (here _ (le-leb _ _ h) refl)
