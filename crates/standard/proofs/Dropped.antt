-- The walk looks at no word before its position: with the earlier words dropped it answers the same, counted from there. Proved by framing the same packets in both streams.
use Rattle.std.specs.Prelude.{Result, Ok, Err}
use Prim.Native.Nat.{ℕ, zero, suc, ◌+◌, ◌-◌, ◌*◌, ◌≤◌, ◌<◌}
use mathlib.Core.Path.{◌≡◌, refl, ◌∙◌}
use mathlib.Core.Bool.{Bool, true, false}
use mathlib.Core.Logic.{⊎_elim}
use mathlib.Core.List.{List}
use native.Mathlib.Omega.{arith}
use lib.ListN.{length, get_or, drop, length-drop}
use lib.Seq.{get_or-drop, drop-drop}
use lib.Dec.{ltb}
use borrow.Author.Tests.{lt-leb}
use Rattle.laws.specs.Pick.{pick, differ}
use Rattle.laws.proofs.Pick.{split, below}
use Rattle.records.specs.declared.answers.Walked.{Walked}
use Rattle.standard.specs.declared.Framed.{Framed}
use Rattle.standard.specs.declared.Framed.TheVariants.{Whole, Short, Broken}
use Rattle.standard.specs.Heads.{type_of, status_of, stream_type}
use Rattle.standard.specs.Reading.{read_of}
use Rattle.standard.specs.Walk.{size_of, frame_packet, frame_from, frame_of, walked_of, part, framed_of, other_of, walk_of}
use Rattle.standard.specs.Live.{later}
use Rattle.standard.proofs.Next.{walk_end}
use Rattle.records.specs.declared.message.Message.{Message}
use Rattle.kinds.specs.declared.refusal.Refusal.{Refusal}

read_later : (d next : ℕ) (r : (Result Message Refusal)) → later d (walked_of r next) ≡ walked_of r (d + next)
read_later d next (Ok m) = refl
read_later d next (Err r) = refl

later_picked : (d : ℕ) (t : Bool) (x y x' y' : Walked) → later d x ≡ x' → later d y ≡ y' → later d (pick t x y) ≡ pick t x' y'
later_picked d true x y x' y' a b = a
later_picked d false x y x' y' a b = b

module _ (d : ℕ) (ws : List ℕ) where
  left_same : (at : ℕ) → length (drop d ws) - at ≡ length ws - (d + at)
  left_same at = omega (arith, length-drop d ws)

  from_dropped : (left status p at : ℕ) → frame_from left (drop d ws) status p at ≡ frame_from left ws status p (d + at)
  unfolding frame_from frame_packet
  from_dropped zero status p at = refl
  from_dropped (suc left) status p at =
      let next : d + (at + 4) ≡ d + at + 4 = omega arith in
      rw (left_same at, get_or-drop d ws at 0, from_dropped left status (suc p) (at + 4), next)

  part_dropped : (pos n : ℕ) → part (drop d ws) pos n ≡ part ws (d + pos) n
  part_dropped pos n = rw (drop-drop pos d ws)

  framed_dropped : (f : Framed) (pos : ℕ) → d ≤ length ws → later d (framed_of f (drop d ws) pos) ≡ framed_of f ws (d + pos)
  unfolding framed_of
  framed_dropped Short pos h = let e : d + length (drop d ws) ≡ length ws = omega (arith, length-drop d ws) in rw e
  framed_dropped (Broken r) pos h = let e : d + (pos + 4) ≡ d + pos + 4 = omega arith in rw e
  framed_dropped (Whole n) pos h =
      let e : d + (pos + n.0 * 4) ≡ d + pos + n.0 * 4 = omega arith in
      read_later d (pos + n.0 * 4) (read_of (part (drop d ws) pos n.0)) ∙ rw (part_dropped pos n.0, e)

  other_dropped : (t pos : ℕ) → d ≤ length ws → later d (other_of t (drop d ws) pos) ≡ other_of t ws (d + pos)
  unfolding other_of
  other_dropped t pos h =
      let e : d + length (drop d ws) ≡ length ws = omega (arith, length-drop d ws) in
      let n : d + (pos + size_of t) ≡ d + pos + size_of t = omega arith in
      rw (left_same pos) (split (ltb (length ws - (d + pos)) (size_of t)) (λ q. rw (q, e)) (λ q. rw (q, n)))

  -- THE WORDS BEFORE A POSITION MAY BE DROPPED: the walk answers the same there
  pub walk_dropped : (pos : ℕ) → d ≤ length ws → later d (walk_of (drop d ws) pos) ≡ walk_of ws (d + pos)
  unfolding walk_of frame_of
  walk_dropped pos h =
      ⊎_elim
      (λ (l : d + pos < length ws).
      rw (lt-leb (length (drop d ws)) pos (omega (arith, length-drop d ws)), lt-leb (length ws) (d + pos) l, get_or-drop d ws pos 0, from_dropped 64 (status_of (get_or ws (d + pos) 0)) 0 pos)
      (later_picked d (differ (type_of (get_or ws (d + pos) 0)) stream_type) _ _ _ _ (other_dropped (type_of (get_or ws (d + pos) 0)) pos h) (framed_dropped _ pos h)))
      (λ (l : length ws ≤ d + pos). rw (walk_end (drop d ws) pos (omega (arith, length-drop d ws)), walk_end ws (d + pos) l)) (below (d + pos) (length ws))
