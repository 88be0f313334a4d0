-- The first word of a text packet: the first octets of the head, then the text. One law for every octet at which the text can start.
use Prim.Native.Nat.{ℕ, zero, suc, ◌+◌, ◌-◌, ◌*◌, ◌/◌, ◌%◌, ◌^◌, ◌<◌, ◌≤◌}
use mathlib.Core.Path.{◌≡◌, ◌∙◌}
use mathlib.Core.List.{List}
use native.Mathlib.Omega.{arith}
use native.Mathlib.Nat.{div-eq_of_lt, lt_of_lt_of_le}
use lib.ListN.{get_or}
use lib.Pow.{pow_mono, shr-shr}
use borrow.Author.Tests.{lt-ltb}
use Rattle.laws.specs.Bits.{word_of}
use Rattle.text.specs.Octets.{octet_of, due_format}
use Rattle.text.specs.Written.{head_octet, octet_at, word_in}
use Rattle.text.proofs.Written.{octet_head, octet_text}
use Rattle.text.proofs.Back.{octet_small}

-- a word from its octets
pub octets_of : (w : ℕ) → w < 2 ^ 32 → word_of (octet_of w 0) (octet_of w 1) (octet_of w 2) (octet_of w 3) ≡ w
unfolding octet_of
octets_of w h =
    let p : w / 256 / 256 ≡ w / 65536 = shr-shr w 8 8 in
    let q : w / 65536 / 256 ≡ w / 16777216 = shr-shr w 16 8 in
    sum (w / 16777216 % 256) (w / 65536 % 256) (w / 256 % 256) (w / 1 % 256) (w / 16777216) (w / 65536) (w / 256) (omega arith) (omega arith) (omega arith) (omega arith)
  where
    sum : (a b c d x y z : ℕ) → x ≡ a → y ≡ x * 256 + b → z ≡ y * 256 + c → w ≡ z * 256 + d → word_of a b c d ≡ w
    sum a b c d x y z p q r s = omega arith

-- the first `from` octets of w, then the first of four bytes; none of them from octet 4 on
module _ (w : ℕ) (h : w < 2 ^ 32) (o t : ℕ → ℕ) (small : (i : ℕ) → t i < 256) where
  four_small : word_of (t 0) (t 1) (t 2) (t 3) < 2 ^ 32
  four_small = omega (arith, small 0, small 1, small 2, small 3)

  pub joined_word : (from : ℕ) → ((j : ℕ) → j < 4 → j < from → o j ≡ octet_of w j) → ((j : ℕ) → j < 4 → from ≤ j → o j ≡ t (j - from)) → word_of (o 0) (o 1) (o 2) (o 3) ≡ w / 2 ^ (32 - from * 8) * 2 ^ (32 - from * 8) + word_of (t 0) (t 1) (t 2) (t 3) / 2 ^ (from * 8)
  joined_word zero a b = rw (b 0 (omega arith) (omega arith), b 1 (omega arith) (omega arith), b 2 (omega arith) (omega arith), b 3 (omega arith) (omega arith)) (omega arith)
  joined_word (suc zero) a b =
      rw (a 0 (omega arith) (omega arith), b 1 (omega arith) (omega arith), b 2 (omega arith) (omega arith), b 3 (omega arith) (omega arith))
      (omega (arith, octets_of w h, octet_small w 1, octet_small w 2, octet_small w 3, small 3))
  joined_word (suc (suc zero)) a b =
      rw (a 0 (omega arith) (omega arith), a 1 (omega arith) (omega arith), b 2 (omega arith) (omega arith), b 3 (omega arith) (omega arith))
      (omega (arith, octets_of w h, octet_small w 2, octet_small w 3, small 2, small 3))
  joined_word (suc (suc (suc zero))) a b =
      rw (a 0 (omega arith) (omega arith), a 1 (omega arith) (omega arith), a 2 (omega arith) (omega arith), b 3 (omega arith) (omega arith))
      (omega (arith, octets_of w h, octet_small w 3, small 1, small 2, small 3))
  joined_word (suc (suc (suc (suc m)))) a b =
      let none : 32 - suc (suc (suc (suc m))) * 8 ≡ 0 = omega arith in
      let no_byte : word_of (t 0) (t 1) (t 2) (t 3) / 2 ^ (suc (suc (suc (suc m))) * 8) ≡ 0 = div-eq_of_lt (lt_of_lt_of_le four_small (pow_mono (let l : 32 ≤ suc (suc (suc (suc m))) * 8 = omega arith in l))) in
      rw (none, no_byte, a 0 (omega arith) (omega arith), a 1 (omega arith) (omega arith), a 2 (omega arith) (omega arith), a 3 (omega arith) (omega arith)) (octets_of w h ∙ omega arith)

pub head_octet_lem : (head j : ℕ) → j < 4 → head_octet head j ≡ octet_of head j
unfolding head_octet
head_octet_lem head j h = simp (lt-ltb j 4 h)

-- THE FIRST WORD of a packet whose text starts at octet 16 - cap
module _ (text : List ℕ) (bytes : (k : ℕ) → get_or text k 0 < 256) (head : ℕ → ℕ) (cap n p : ℕ) (small : head (due_format n p) < 2 ^ 32) where
  pub first-word : word_in text head cap n p 0 ≡ head (due_format n p) / 2 ^ (32 - (16 - cap) * 8) * 2 ^ (32 - (16 - cap) * 8) + word_of (get_or text (p * cap + 0) 0) (get_or text (p * cap + 1) 0) (get_or text (p * cap + 2) 0) (get_or text (p * cap + 3) 0) / 2 ^ ((16 - cap) * 8)
  unfolding word_in
  first-word = joined_word (head (due_format n p)) small (octet_at text head cap n p) (λ i. get_or text (p * cap + i) 0) (λ i. bytes _) (16 - cap)
      (λ j l i. octet_head text head cap n p j i ∙ head_octet_lem (head (due_format n p)) j l)
      (λ j l i. octet_text text head cap n p j i)
