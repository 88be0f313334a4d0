-- Laws of reading and writing a part of a word, for any stride and span. They follow from the laws of a field at the part's lowest bit.
use Prim.Native.Nat.{ℕ, ◌+◌, ◌*◌, ◌/◌, ◌^◌, ◌<◌, ◌≤◌}
use mathlib.Core.Bool.{Bool, true, false}
use mathlib.Core.Path.{◌≡◌, refl, sym, ap, ◌∙◌}
use mathlib.Core.Logic.{inl, inr, ⊎_elim}
use native.Mathlib.Omega.{arith}
use native.Mathlib.Nat.{mod-lt, mul-le-mul_left, mul-div-le}
use lib.Pow.{pow_pos}
use mir.Val.{bool_byte}
use borrow.Author.Tests.{lt-ltb, le-ltb}
use Rattle.laws.specs.Bits.{field_of, put_field}
use Rattle.laws.proofs.Pick.{below}
use Rattle.laws.proofs.Bits as bits
use Rattle.bit_ops.specs.Parts.{parts_of, lowest_bit, part_in, put_part, bit_of}

-- ---- where a part is
pub in_word : (stride i : ℕ) → i < parts_of stride → stride * (i + 1) ≤ 32
in_word stride i h =
    let m : stride * (i + 1) ≤ stride * (32 / stride) = mul-le-mul_left stride (omega arith) in
    omega (arith, mul-div-le 32 stride)

-- a later part lies at least one stride lower
lower : (stride span i k : ℕ) → span ≤ stride → i < k → k < parts_of stride → lowest_bit stride k + span ≤ lowest_bit stride i
lower stride span i k s h hk =
    let m : stride * (i + 2) ≤ stride * (k + 1) = mul-le-mul_left stride (omega arith) in
    omega (arith, in_word stride k hk)

parts-apart : (stride span i k : ℕ) → span ≤ stride → i < parts_of stride → k < parts_of stride → (i ≡ k → ⊥) → bits.Apart (lowest_bit stride i) span (lowest_bit stride k) span
parts-apart stride span i k s hi hk n =
    ⊎_elim (λ (h : i < k). inr (lower stride span i k s h hk))
    (λ (h : k ≤ i). inl (lower stride span k i s (omega arith) hi))
    (below i k)

-- a bool cast to a number
pub bit_byte : (b : Bool) → bool_byte b ≡ bit_of b
bit_byte true = refl
bit_byte false = refl

-- ---- one law for each case
module _ (stride span w i : ℕ) where
  part_in_lem : i < parts_of stride → part_in stride span w i ≡ field_of w (lowest_bit stride i) span
  unfolding part_in
  part_in_lem h = rw (lt-ltb _ _ h)

  pub part_out : parts_of stride ≤ i → part_in stride span w i ≡ 0
  unfolding part_in
  part_out h = rw (le-ltb _ _ h)

  put_in : (v : ℕ) → i < parts_of stride → v < 2 ^ span → put_part stride span w i v ≡ put_field w (lowest_bit stride i) span v
  unfolding put_part
  put_in v h hv = rw (lt-ltb _ _ h, lt-ltb _ _ hv)

  pub put_out : (v : ℕ) → parts_of stride ≤ i → put_part stride span w i v ≡ w
  unfolding put_part
  put_out v h = rw (le-ltb _ _ h)

  pub put_large : (v : ℕ) → i < parts_of stride → 2 ^ span ≤ v → put_part stride span w i v ≡ w
  unfolding put_part
  put_large v h hv = rw (lt-ltb _ _ h, le-ltb _ _ hv)

  -- a part fits its span
  part_lt : part_in stride span w i < 2 ^ span
  part_lt =
      ⊎_elim (λ (h : i < parts_of stride). rw (part_in_lem h) (mod-lt (w / 2 ^ lowest_bit stride i) (pow_pos span)))
      (λ (h : parts_of stride ≤ i). rw (part_out h) (pow_pos span))
      (below i (parts_of stride))

  -- the field at a part's lowest bit is the part
  pub part_at : (at r : ℕ) → i < parts_of stride → at ≡ lowest_bit stride i → r ≡ field_of w at span → (r ≡ part_in stride span w i) × (r < 2 ^ span)
  part_at at r h e g =
      let q : r ≡ part_in stride span w i = g ∙ ap (λ (a : ℕ). field_of w a span) e ∙ sym (part_in_lem h) in
      (q, rw q part_lt)

  pub put_at : (v at r : ℕ) → i < parts_of stride → v < 2 ^ span → at ≡ lowest_bit stride i → r ≡ put_field w at span v → r ≡ put_part stride span w i v
  put_at v at r h hv e p = p ∙ ap (λ (a : ℕ). put_field w a span v) e ∙ sym (put_in v h hv)

-- ---- what a put changes, and what it keeps
module _ (stride span w i v : ℕ) where
  -- a property of the word with the field put, and of the unchanged word, is a property of the word with the part put
  either : (P : ℕ → Type 0) → (i < parts_of stride → v < 2 ^ span → P (put_field w (lowest_bit stride i) span v)) → P w → P (put_part stride span w i v)
  either P f k =
      ⊎_elim
      (λ (h : i < parts_of stride).
      ⊎_elim (λ (hv : v < 2 ^ span). rw (put_in stride span w i v h hv) (f h hv)) (λ (hv : 2 ^ span ≤ v). rw (put_large stride span w i v h hv) k) (below v (2 ^ span)))
      (λ (h : parts_of stride ≤ i). rw (put_out stride span w i v h) k)
      (below i (parts_of stride))

  -- reading a part gives what was put there
  pub part_put : i < parts_of stride → v < 2 ^ span → part_in stride span (put_part stride span w i v) i ≡ v
  part_put h hv = rw (put_in stride span w i v h hv, part_in_lem stride span _ i h) (bits.get_put w (lowest_bit stride i) span v hv)

  -- a field that shares no bit with the part is unchanged
  pub put_apart : (at' span' : ℕ) → bits.Apart (lowest_bit stride i) span at' span' → field_of (put_part stride span w i v) at' span' ≡ field_of w at' span'
  put_apart at' span' a = either (λ (x : ℕ). field_of x at' span' ≡ field_of w at' span') (λ h hv. bits.get_other w (lowest_bit stride i) span v at' span' hv a) refl

  -- every other part is unchanged
  pub part-other : (k : ℕ) → span ≤ stride → (i ≡ k → ⊥) → part_in stride span (put_part stride span w i v) k ≡ part_in stride span w k
  part-other k s n =
      either (λ (x : ℕ). part_in stride span x k ≡ part_in stride span w k)
      (λ hi hv.
      ⊎_elim
      (λ (hk : k < parts_of stride). part_in_lem stride span _ k hk ∙ bits.get_other w (lowest_bit stride i) span v _ span hv (parts-apart stride span i k s hi hk n) ∙ sym (part_in_lem stride span w k hk))
      (λ (hk : parts_of stride ≤ k). part_out stride span _ k hk ∙ sym (part_out stride span w k hk))
      (below k (parts_of stride)))
      refl

  -- the result is a word
  pub put_word : span ≤ stride → w < 2 ^ 32 → put_part stride span w i v < 2 ^ 32
  put_word s hw = either (λ (x : ℕ). x < 2 ^ 32) (λ h hv. bits.put_lt w (lowest_bit stride i) span v hw (omega (arith, in_word stride i h)) hv) hw

-- putting back what a part holds changes nothing
pub part_back : (stride span w i : ℕ) → put_part stride span w i (part_in stride span w i) ≡ w
part_back stride span w i =
    ⊎_elim
    (λ (h : i < parts_of stride). put_in stride span w i _ h (part_lt stride span w i) ∙ bits.put_back w (lowest_bit stride i) span _ (sym (part_in_lem stride span w i h)))
    (λ (h : parts_of stride ≤ i). put_out stride span w i _ h)
    (below i (parts_of stride))

-- the last put into a part wins
pub part_over : (stride span w i u v : ℕ) → v < 2 ^ span → put_part stride span (put_part stride span w i u) i v ≡ put_part stride span w i v
part_over stride span w i u v hv =
    either stride span w i u (λ (x : ℕ). put_part stride span x i v ≡ put_part stride span w i v)
    (λ h hu. put_in stride span _ i v h hv ∙ bits.put_over w (lowest_bit stride i) span u v hu ∙ sym (put_in stride span w i v h hv))
    refl
