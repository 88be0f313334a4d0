-- Another type's message by its size alone: the walk's answer follows from it. Closed by the cases of the walk.
use Rattle.std.specs.Prelude.{Some, None, Result, Ok, Err}
use Prim.Native.Nat.{ℕ, ◌+◌, ◌-◌, ◌*◌, ◌≤◌, ◌<◌}
use mathlib.Core.Path.{◌≡◌, refl, sym, ap, ◌∙◌}
use mathlib.Core.List.{List}
use native.Mathlib.Omega.{arith}
use lib.ListN.{length, get_or}
use lib.Dec.{ltb, leb}
use borrow.Author.Tests.{leb-false, ltb-false, lt-ltb, le-ltb, lt-leb}
use Rattle.laws.specs.Pick.{differ}
use Rattle.laws.proofs.Pick.{picked, eq_differ, ne_differ}
use Rattle.counts.specs.Counts.{word}
use Rattle.counts.specs.declared.WordNumber.{WordNumber}
use Rattle.records.specs.declared.answers.Walked.{Walked}
use Rattle.records.specs.declared.answers.Walked.TheVariants as W
use Rattle.standard.specs.declared.Framed.{Framed}
use Rattle.standard.specs.declared.Framed.TheVariants.{Whole, Short, Broken}
use Rattle.standard.specs.Heads.{type_of, stream_type}
use Rattle.standard.specs.Reading.{read_of}
use Rattle.standard.specs.Walk.{size_of, frame_of, walked_of, part, framed_of, other_of, walk_of}
use Rattle.standard.proofs.Next.{walk_end}
use Rattle.walking.specs.Other.{size_in, other_size}
use Rattle.records.specs.declared.message.Message.{Message}
use Rattle.kinds.specs.declared.refusal.Refusal.{Refusal}

-- ---- the type of the seven kinds has four words
not_stream : (t : ℕ) → size_of t ≡ 1 → t ≡ stream_type → ⊥
unfolding size_of
not_stream t e q = let z : size_of stream_type ≡ 1 = rw q at e in omega arith

-- ---- a message of the seven kinds' type has no such size
read_none : (r : (Result Message Refusal)) (next : ℕ) → None ≡ size_in (walked_of r next)
read_none (Ok m) next = refl
read_none (Err r) next = refl

framed_none : (f : Framed) (ws : List ℕ) (pos : ℕ) → None ≡ size_in (framed_of f ws pos)
unfolding framed_of
framed_none Short ws pos = refl
framed_none (Broken r) ws pos = refl
framed_none (Whole n) ws pos = read_none (read_of (part ws pos n.0)) (pos + n.0 * 4)

-- ---- the size, case by case
module _ (ws : List ℕ) (pos : ℕ) where
  pub size_end : length ws ≤ pos → None ≡ other_size ws pos
  unfolding other_size
  size_end h = rw (walk_end ws pos h)

  module _ (h : pos < length ws) where
    pub size_stream : type_of (get_or ws pos 0) ≡ stream_type → None ≡ other_size ws pos
    unfolding other_size walk_of
    size_stream t = rw (lt-leb (length ws) pos h, eq_differ (type_of (get_or ws pos 0)) stream_type t) (framed_none (frame_of ws pos) ws pos)

    module _ (t : type_of (get_or ws pos 0) ≡ stream_type → ⊥) where
      pub size_short : length ws - pos < size_of (type_of (get_or ws pos 0)) → None ≡ other_size ws pos
      unfolding other_size walk_of other_of
      size_short s = rw (lt-leb (length ws) pos h, ne_differ (type_of (get_or ws pos 0)) stream_type t, lt-ltb (length ws - pos) (size_of (type_of (get_or ws pos 0))) s)

      pub size_whole : size_of (type_of (get_or ws pos 0)) ≤ length ws - pos → Some (word (size_of (type_of (get_or ws pos 0)))) ≡ other_size ws pos
      unfolding other_size walk_of other_of
      size_whole s = rw (lt-leb (length ws) pos h, ne_differ (type_of (get_or ws pos 0)) stream_type t, le-ltb (length ws - pos) (size_of (type_of (get_or ws pos 0))) s)

    pub size_one : size_of (type_of (get_or ws pos 0)) ≡ 1 → Some (word 1) ≡ other_size ws pos
    size_one e = ap (λ (n : ℕ). Some (word n)) (sym e) ∙ size_whole (not_stream _ e) (omega arith)

-- ---- WHERE THERE IS A SIZE THE WALK ANSWERS ANOTHER TYPE OF THAT SIZE
module _ (ws : List ℕ) (pos : ℕ) (n : WordNumber) where
  -- its words are there, and this is the answer
  abbrev Is : Walked → Type 0
  Is a = Some n ≡ size_in a → (pos + n.0 ≤ length ws) × (W.Other (type_of (get_or ws pos 0)) n (word (pos + n.0)) ≡ a)

  pub size_found : Some n ≡ other_size ws pos → (pos + n.0 ≤ length ws) × (W.Other (type_of (get_or ws pos 0)) n (word (pos + n.0)) ≡ walk_of ws pos)
  unfolding other_size walk_of other_of
  size_found e =
      picked Is (leb (length ws) pos) _ _ (λ t q. absurd (cc)) (λ t.
      picked Is (differ (type_of (get_or ws pos 0)) stream_type) _ _
      (λ u. picked Is (ltb (length ws - pos) (size_of (type_of (get_or ws pos 0)))) _ _ (λ v q. absurd (cc)) (λ v q.
      let h : pos < length ws = leb-false _ _ t in
      let l : size_of (type_of (get_or ws pos 0)) ≤ length ws - pos = ltb-false _ _ v in
      let s : n ≡ word (size_of (type_of (get_or ws pos 0))) = cc in
      let z : n.0 ≡ size_of (type_of (get_or ws pos 0)) = ap (λ (x : WordNumber). x.0) s in
      (omega (arith, z), rw s)))
      (λ u q. let z : Some n ≡ None = q ∙ sym (framed_none (frame_of ws pos) ws pos) in absurd (cc))) e
