-- A final answer of the walk stays the same when words are appended. Proved by framing the same packets in both streams.
use Prim.Native.Nat.{ℕ, zero, suc, ◌+◌, ◌-◌, ◌*◌, ◌≤◌, ◌<◌}
use mathlib.Core.Path.{◌≡◌, refl, sym, ap}
use mathlib.Core.Bool.{Bool, true, false}
use mathlib.Core.List.{List, ◌++◌}
use native.Mathlib.Omega.{arith}
use lib.ListN.{length, get_or, drop, length-append, length-drop, get_or-append}
use lib.Seq.{take-append-le, drop-append-le}
use lib.Dec.{ltb, leb}
use borrow.Author.Tests.{ltb-false, le-ltb, lt-leb, leb-false}
use Rattle.laws.specs.Pick.{pick, differ}
use Rattle.laws.proofs.Pick.{picked, true_false}
use Rattle.records.specs.declared.answers.Walked.{Walked}
use Rattle.standard.specs.declared.Step.{Step}
use Rattle.standard.specs.declared.Step.TheVariants.{Ends, Goes, Wrong}
use Rattle.standard.specs.declared.Framed.{Framed}
use Rattle.standard.specs.declared.Framed.TheVariants.{Whole, Short, Broken}
use Rattle.standard.specs.Heads.{type_of, format_of, status_of, stream_type}
use Rattle.standard.specs.Reading.{read_of}
use Rattle.standard.specs.Walk.{size_of, step_of, after_step, frame_packet, frame_from, frame_of, walked_of, part, framed_of, other_of, walk_of}
use Rattle.standard.specs.Live.{final}
use Rattle.standard.proofs.Next.{Room, frame_room}

-- where both cases stay, the picked one does
final_picked : (t : Bool) (x y x' y' : Walked) → (final x ≡ true → x' ≡ x) → (final y ≡ true → y' ≡ y) → final (pick t x y) ≡ true → pick t x' y' ≡ pick t x y
final_picked true x y x' y' a b e = a e
final_picked false x y x' y' a b e = b e

-- ---- framing: what is not short stays
abbrev Stays : Framed → Framed → Type 0
Stays Short g = Unit
Stays (Whole n) g = g ≡ Whole n
Stays (Broken r) g = g ≡ Broken r

stays_same : (f : Framed) → Stays f f
stays_same Short = tt
stays_same (Whole n) = refl
stays_same (Broken r) = refl

stays_picked : (t : Bool) (x f g : Framed) → Stays f g → Stays (pick t x f) (pick t x g)
stays_picked true x f g s = stays_same x
stays_picked false x f g s = s

step_stays : (t : Step) (p : ℕ) (f g : Framed) → Stays f g → Stays (after_step t p f) (after_step t p g)
step_stays Ends p f g s = refl
step_stays Goes p f g s = s
step_stays Wrong p f g s = refl

module _ (ws more : List ℕ) where
  longer : length ws ≤ length (ws ++ more)
  longer = omega (arith, length-append ws more)

  packet_stays : (status p at : ℕ) (f g : Framed) → Stays f g → Stays (frame_packet ws status p at f) (frame_packet (ws ++ more) status p at g)
  unfolding frame_packet
  packet_stays status p at f g s =
      picked (λ h. Stays h (frame_packet (ws ++ more) status p at g)) (ltb (length ws - at) 4) _ _ (λ t. tt) (λ t.
      let l : 4 ≤ length ws - at = ltb-false _ _ t in
      rw (le-ltb (length (ws ++ more) - at) 4 (omega (arith, longer)), get_or-append ws more 0 at (omega arith))
      (stays_picked (differ (type_of (get_or ws at 0)) stream_type) _ _ _
      (stays_picked (differ (status_of (get_or ws at 0)) status) _ _ _ (step_stays (step_of p (format_of (get_or ws at 0))) p f g s))))

  from_stays : (left status p at : ℕ) → Stays (frame_from left ws status p at) (frame_from left (ws ++ more) status p at)
  unfolding frame_from
  from_stays zero status p at = refl
  from_stays (suc left) status p at = packet_stays status p at _ _ (from_stays left status (suc p) (at + 4))

  frame_stays : (pos : ℕ) → pos < length ws → Stays (frame_of ws pos) (frame_of (ws ++ more) pos)
  unfolding frame_of
  frame_stays pos h = rw (get_or-append ws more 0 pos h) (from_stays 64 (status_of (get_or ws pos 0)) 0 pos)

  -- the words of a framed message are the same
  part_stays : (pos n : ℕ) → pos + n * 4 ≤ length ws → part (ws ++ more) pos n ≡ part ws pos n
  part_stays pos n h =
      rw (drop-append-le pos ws more (omega arith)) (take-append-le (n * 4) (drop pos ws) more (omega (arith, length-drop pos ws)))

  -- ---- the walk
  framed_final : (f g : Framed) (pos : ℕ) → Room ws pos f → Stays f g → final (framed_of f ws pos) ≡ true → framed_of g (ws ++ more) pos ≡ framed_of f ws pos
  unfolding framed_of
  framed_final Short g pos r s e = true_false (sym e)
  framed_final (Broken b) g pos r s e = rw s
  framed_final (Whole n) g pos r s e = rw s (ap (λ (l : List ℕ). walked_of (read_of l) (pos + n.0 * 4)) (part_stays pos n.0 r.2))

  other-final : (t pos : ℕ) → final (other_of t ws pos) ≡ true → other_of t (ws ++ more) pos ≡ other_of t ws pos
  unfolding other_of
  other-final t pos =
      picked (λ a. final a ≡ true → other_of t (ws ++ more) pos ≡ a) (ltb (length ws - pos) (size_of t)) _ _ (λ q e. true_false (sym e)) (λ q e.
      let l : size_of t ≤ length ws - pos = ltb-false _ _ q in
      rw (le-ltb (length (ws ++ more) - pos) (size_of t) (omega (arith, longer))))

  -- EVERY ANSWER BUT THE END AND REFUSAL 1 STAYS when words are appended
  pub walk_final : (pos : ℕ) → final (walk_of ws pos) ≡ true → walk_of (ws ++ more) pos ≡ walk_of ws pos
  unfolding walk_of
  walk_final pos =
      picked (λ a. final a ≡ true → walk_of (ws ++ more) pos ≡ a) (leb (length ws) pos) _ _ (λ q e. true_false (sym e)) (λ q.
      let l : pos < length ws = leb-false _ _ q in
      rw (lt-leb (length (ws ++ more)) pos (omega (arith, longer)), get_or-append ws more 0 pos l)
      (final_picked (differ (type_of (get_or ws pos 0)) stream_type) _ _ _ _ (other-final (type_of (get_or ws pos 0)) pos) (framed_final (frame_of ws pos) (frame_of (ws ++ more) pos) pos (frame_room ws pos) (frame_stays pos l))))
