-- A field put by products and remainders, and when an act changes the buffer. From `put_lt`, by cases on the tests, and by induction on the table.
use Prim.Native.Nat.{ℕ, ◌+◌, ◌*◌, ◌/◌, ◌%◌, ◌^◌, ◌<◌, ◌≤◌}
use mathlib.Core.Path.{◌≡◌, refl, ap, ◌∙◌, fun_ext}
use mathlib.Core.Bool.{true}
use mathlib.Core.List.{List, [], ◌∷◌}
use lib.ListN.{length, get_or, set}
use lib.Pow.{pow_pos}
use borrow.Author.Tests.{lt-ltb, le-ltb, ltb-true, leb-true}
use Rattle.laws.proofs.Pick.{both_left, both_right}
use Rattle.laws.specs.Bits.{put_field}
use Rattle.laws.proofs.Bits.{put_lt}
use Rattle.text.specs.Written.{each_first}
use Rattle.slots.specs.Slots.{Slot, put, put_all, fits, bits_within}
use Rattle.fields.specs.Puts.{put_if_fits, put_in, put_ins, put_each}

module _ (w at span v : ℕ) where
  pub put_fitting : at + span ≤ 32 → v < 2 ^ span → put_if_fits w at span v ≡ put_field w at span v
  unfolding put_if_fits
  put_fitting h hv = rw (le-ltb 32 (at + span) h, lt-ltb v (2 ^ span) hv)

  pub put_outside : 32 < at + span → w ≡ put_if_fits w at span v
  unfolding put_if_fits
  put_outside h = rw (lt-ltb 32 (at + span) h)

  pub put_too_large : at + span ≤ 32 → 2 ^ span ≤ v → w ≡ put_if_fits w at span v
  unfolding put_if_fits
  put_too_large h hv = rw (le-ltb 32 (at + span) h, le-ltb v (2 ^ span) hv)

-- the powers of two that a put is computed with
pub record Powers (at span low top : ℕ) : Type 0 where
  pub lowest : low ≡ 2 ^ at
  pub above : top ≡ 2 ^ (at + span)
  pub within : at + span ≤ 32

module _ {at span low top : ℕ} (p : Powers at span low top) where
  pub low_pos : 0 < low
  low_pos = rw p.lowest (pow_pos at)

  pub top_pos : 0 < top
  top_pos = rw p.above (pow_pos (at + span))

  module _ (w v : ℕ) where
    pub put_is : w / top * top + v * low + w % low ≡ put_field w at span v
    put_is = rw (p.lowest, p.above)

    pub put_in_word : w < 2 ^ 32 → v < 2 ^ span → w / top * top + v * low + w % low < 2 ^ 32
    put_in_word hw hv = rw put_is (put_lt w at span v hw p.within hv)

-- a put into one word of a buffer is a put into the slot
pub in_put : {K : Type 0} (s : Slot K) (v : ℕ) (ws : List ℕ) → s.at + s.span ≤ 32 → v < 2 ^ s.span → put_in s.word s.at s.span v ws ≡ put s v ws
unfolding put_in put
in_put s v ws h hv = ap (set ws s.word) (put_fitting (get_or ws s.word 0) s.at s.span v h hv)

-- ---- a table put slot by slot
pub ins_put : {K : Type 0} (ss : List (Slot K)) (v : K → ℕ) (ws : List ℕ) → bits_within 32 ss ≡ true → fits ss v ≡ true → put_ins ss v ws ≡ put_all ss v ws
unfolding put_ins bits_within put_all fits
ins_put [] v ws w f = refl
ins_put (s ∷ ss) v ws w f =
    ap (put_in s.word s.at s.span (v s.key)) (ins_put ss v ws (both_right _ _ w) (both_right _ _ f)) ∙ in_put s (v s.key) (put_all ss v ws) (leb-true _ _ (both_left _ _ w)) (ltb-true _ _ (both_left _ _ f))

-- ---- a number in each packet
pub each_put_lem : (n at span v : ℕ) (ws : List ℕ) → n ≤ length ws / 4 → at + span ≤ 32 → v < 2 ^ span → put_each n at span v ws ≡ each_first n (λ w. put_field w at span v) ws
unfolding put_each
each_put_lem n at span v ws l h hv =
    rw (le-ltb (length ws / 4) n l) (ap (λ (f : ℕ → ℕ). each_first n f ws) (fun_ext (λ w. put_fitting w at span v h hv)))
