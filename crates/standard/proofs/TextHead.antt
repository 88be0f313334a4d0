-- The first word of a text packet: the head, with the first text bytes in its low bits. From the one law of the first word, for every octet at which text can start.
use Prim.Native.Nat.{ℕ, ◌+◌, ◌-◌, ◌*◌, ◌/◌, ◌%◌, ◌^◌, ◌<◌, ◌≤◌}
use mathlib.Core.Path.{◌≡◌, sym, ap, ◌∙◌}
use mathlib.Core.Bool.{true}
use mathlib.Core.List.{List, []}
use native.Mathlib.Omega.{arith}
use native.Mathlib.Nat.{lt_of_lt_of_le, zero-add, mod-eq_of_lt, div-eq_of_lt, div-one}
use lib.ListN.{get_or}
use lib.Pow.{pow_pos, pow_mono, shr_lt, mod-mod-pow}
use Rattle.laws.specs.Bits.{put_field, word_of}
use Rattle.laws.proofs.Bits.{put_back}
use Rattle.slots.specs.Slots.{Slot, fits, apart_from_all, words_below, bits_within}
use Rattle.text.specs.Octets.{due_format}
use Rattle.text.specs.Written.{word_in}
use Rattle.text.proofs.Needed.{due_format_small}
use Rattle.text.proofs.First.{first-word}
use Rattle.kinds.specs.Layout.{Part, text_slot}
use Rattle.standard.specs.Heads.{head_word}
use Rattle.standard.specs.Words.{put_word}
use Rattle.standard.proofs.OneWord.{word_small, put_head}

module _ (text : List ℕ) (small : (i : ℕ) → get_or text i 0 < 256) (n p : ℕ) where
  -- the text bytes in the first word
  abbrev pub low_text : ℕ → ℕ
  low_text from =
      word_of (get_or text (p * (16 - from) + 0) 0) (get_or text (p * (16 - from) + 1) 0) (get_or text (p * (16 - from) + 2) 0) (get_or text (p * (16 - from) + 3) 0) / 2 ^ (from * 8)

  pub low_small : (from : ℕ) → low_text from < 2 ^ (32 - from * 8)
  low_small from =
      let f : (i : ℕ) → get_or text (p * (16 - from) + i) 0 < 256 = λ i. small _ in
      let l : word_of (get_or text (p * (16 - from) + 0) 0) (get_or text (p * (16 - from) + 1) 0) (get_or text (p * (16 - from) + 2) 0) (get_or text (p * (16 - from) + 3) 0) < 2 ^ 32 = omega (arith, f 0, f 1, f 2, f 3) in
      shr_lt (32 - from * 8) (from * 8) (lt_of_lt_of_le l (pow_mono (let m : 32 ≤ 32 - from * 8 + from * 8 = omega arith in m)))

  -- the first word is the head with the text put into its low bits
  pub first_splits : (head : ℕ → ℕ) → head (due_format n p) < 2 ^ 32 → (from : ℕ) → from ≤ 15 → word_in text head (16 - from) n p 0 ≡ put_field (head (due_format n p)) 0 (32 - from * 8) (low_text from)
  first_splits head s from hi =
      let e : 16 - (16 - from) ≡ from = omega arith in
      first-word text small head (16 - from) n p s ∙ rw e (whole _ _ _)
    where
      whole : (w v s : ℕ) → w / 2 ^ s * 2 ^ s + v ≡ put_field w 0 s v
      whole w v s = rw (zero-add s) (omega arith)

-- a head word is below 2 ^ 32
pub head_small : (st f : ℕ) → st < 0x400 → f < 4 → head_word st f < 2 ^ 32
head_small st f hs hf = omega arith

-- THE FIRST WORD: the fields of its head may be put before the text or after it
module _ (text : List ℕ) (small : (i : ℕ) → get_or text i 0 < 256) (n p from st : ℕ) (lo : 2 ≤ from) (hi : from ≤ 15) (hs : st < 0x400) (t : List (Slot Part)) (c : apart_from_all (text_slot from) t ≡ true) (i : bits_within 32 t ≡ true) (l : words_below 1 t ≡ true) where
  bare : head_word st (due_format n p) < 2 ^ 32
  bare = head_small st (due_format n p) hs (due_format_small n p)

  pub head_first : (v : Part → ℕ) → fits t v ≡ true → word_in text (λ f. put_word t v (head_word st f)) (16 - from) n p 0 ≡ put_word t v (word_in text (head_word st) (16 - from) n p 0)
  head_first v f =
      first_splits text small n p (λ g. put_word t v (head_word st g)) (word_small t v (head_word st (due_format n p)) i l f bare) from hi
      ∙ sym (put_head t v (head_word st (due_format n p)) from (low_text text small n p from) c f (low_small text small n p from))
      ∙ ap (put_word t v) (sym (first_splits text small n p (head_word st) bare from hi))

-- without text the first word is the head
pub no_small : (i : ℕ) → get_or [] i 0 < 256
no_small i = omega arith

module _ (st n p : ℕ) (hs : st < 0x400) where
  abbrev word : ℕ
  word = head_word st (due_format n p)

  -- its last sixteen bits are 0
  low_zero : (k : ℕ) → k ≤ 16 → word % 2 ^ k ≡ 0
  low_zero k h =
      let e : 16 - k + k ≡ 16 = omega arith in
      let z : word % 2 ^ 16 ≡ 0 = omega arith in
      sym (mod-mod-pow word (16 - k) k) ∙ rw (e, z) (mod-eq_of_lt (pow_pos k))

  pub empty_first : (from : ℕ) → 2 ≤ from → from ≤ 15 → word_in [] (head_word st) (16 - from) n p 0 ≡ word
  empty_first from lo hi =
      first_splits [] no_small n p (head_word st) (head_small st (due_format n p) hs (due_format_small n p)) from hi
      ∙ ap (put_field word 0 (32 - from * 8)) (div-eq_of_lt (pow_pos (from * 8)))
      ∙ put_back word 0 (32 - from * 8) 0 (rw div-one (low_zero (32 - from * 8) (omega arith)))
