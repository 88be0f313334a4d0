-- The words of a text packet as the code computes them: octet by octet, or the first from head and text and the others from a part of the text. Proved by arithmetic on the byte numbers.
use Prim.Native.Nat.{ℕ, ◌+◌, ◌-◌, ◌*◌, ◌/◌, ◌^◌, ◌<◌, ◌≤◌}
use mathlib.Core.Path.{◌≡◌, refl, sym, ap, subst, ◌∙◌}
use mathlib.Core.List.{List}
use native.Mathlib.Omega.{arith}
use native.Mathlib.Nat.{mul-le-mul, add-zero}
use lib.ListN.{length, get_or, take, drop}
use lib.Pow.{pow-add, shr_lt}
use lib.Arith.{digits_lt}
use Rattle.laws.specs.Bits.{word_of}
use Rattle.text.specs.Octets.{octet_of, due_format}
use Rattle.text.specs.BigEndian.{big_endian_at}
use Rattle.text.specs.Written.{octet_at, word_in}
use Rattle.text.proofs.BigEndian.{big_endian_part}
use Rattle.text.proofs.Written.{octet_head, octet_text}
use Rattle.text.proofs.Rewritten.{head_zero}
use Rattle.text.proofs.First.{head_octet_lem, first-word}

-- a text byte's number is at most 882
pub product : {p cap : ℕ} → p < 64 → cap ≤ 14 → p * cap ≤ 882
product {p} {cap} hp hc = let h : p ≤ 63 = omega arith in mul-le-mul h hc

-- the first octets of a word and the first of four bytes fit a word
pub joined_small : (w b k : ℕ) → w < 2 ^ 32 → b < 2 ^ 32 → k ≤ 4 → w / 2 ^ (32 - k * 8) * 2 ^ (32 - k * 8) + b / 2 ^ (k * 8) < 2 ^ 32
joined_small w b k hw hb hk =
    let e : k * 8 + (32 - k * 8) ≡ 32 = omega arith in
    let f : 32 - k * 8 + k * 8 ≡ 32 = omega arith in
    subst (λ (x : ℕ). w / 2 ^ (32 - k * 8) * 2 ^ (32 - k * 8) + b / 2 ^ (k * 8) < x) (sym (pow-add 2 (k * 8) (32 - k * 8)) ∙ ap (λ (x : ℕ). 2 ^ x) e)
    (digits_lt (shr_lt (k * 8) (32 - k * 8) (rw e hw)) (shr_lt (32 - k * 8) (k * 8) (rw f hb)))

module _ (text : List ℕ) (head : ℕ → ℕ) (offset n p : ℕ) (room : offset < 14) where
  start : 16 - (14 - offset) ≡ 2 + offset
  start = omega arith

  pub in_text : (j : ℕ) → 2 + offset ≤ j → get_or text (p * (14 - offset) + (j - (2 + offset))) 0 ≡ octet_at text head (14 - offset) n p j
  in_text j h = sym (octet_text text head (14 - offset) n p j (rw start h) ∙ ap (λ (x : ℕ). get_or text (p * (14 - offset) + (j - x)) 0) start)

  -- octets before the text and after the head word are 0
  pub before_text : (j : ℕ) → j < 2 + offset → 4 ≤ j → 0 ≡ octet_at text head (14 - offset) n p j
  before_text j h l = sym (octet_head text head (14 - offset) n p j (rw start h) ∙ head_zero _ j l)

  -- octets before the text and in the head word are those of the head
  pub in_head : (j : ℕ) → j < 2 + offset → j < 4 → octet_of (head (due_format n p)) j ≡ octet_at text head (14 - offset) n p j
  in_head j h l = sym (octet_head text head (14 - offset) n p j (rw start h) ∙ head_octet_lem _ j l)

  -- a word after the first whose octets are all text
  shifted : (a b s i : ℕ) → s ≤ b → a + (b - s) + i ≡ a + (b + i - s)
  shifted a b s i h = omega arith

  module _ (q : ℕ) (h : 2 + offset ≤ q * 4) where
    byte_of : (i : ℕ) → get_or text (p * (14 - offset) + (q * 4 - (2 + offset)) + i) 0 ≡ octet_at text head (14 - offset) n p (q * 4 + i)
    byte_of i = ap (λ (x : ℕ). get_or text x 0) (shifted (p * (14 - offset)) (q * 4) (2 + offset) i h) ∙ in_text (q * 4 + i) (omega arith)

    pub word_of_text : (at : ℕ) → at ≡ p * (14 - offset) + (q * 4 - (2 + offset)) → word_of (get_or text at 0) (get_or text (at + 1) 0) (get_or text (at + 2) 0) (get_or text (at + 3) 0) ≡ word_in text head (14 - offset) n p q
    unfolding word_in
    word_of_text at e = rw (e, in_text (q * 4) h, byte_of 1, byte_of 2, byte_of 3)

-- of the head a packet has only the word for its own format
pub same_head : (text : List ℕ) (head : ℕ → ℕ) (cap n p q h : ℕ) → h ≡ head (due_format n p) → word_in text (λ f. h) cap 0 p q ≡ word_in text head cap n p q
unfolding word_in octet_at
same_head text head cap n p q h e = rw e

-- ---- the words of a packet, if the text starts within the first or right after it
module _ (text : List ℕ) (head : ℕ → ℕ) (offset n p : ℕ) (near : offset ≤ 2) where
  place : (a q i : ℕ) → i + 4 ≡ q * 4 → a + (2 - offset) + i ≡ a + (q * 4 - (2 + offset))
  place a q i e = omega arith

  module _ (at : ℕ) (here : at ≡ p * (14 - offset) + 0) where
    -- a word after the first
    pub later_text : (q i from : ℕ) → i + 4 ≡ q * 4 → from ≡ at + (2 - offset) + i → word_of (get_or text from 0) (get_or text (from + 1) 0) (get_or text (from + 2) 0) (get_or text (from + 3) 0) ≡ word_in text head (14 - offset) n p q
    later_text q i from e ef = word_of_text text head offset n p (omega arith) q (omega arith) from (ef ∙ place at q i e ∙ ap (λ (x : ℕ). x + (q * 4 - (2 + offset))) (here ∙ add-zero _))

    pub later-part : (q i len : ℕ) → i + 4 ≡ q * 4 → i + 4 ≤ len → at + (2 - offset) + len ≤ length text → big_endian_at (take len (drop (at + (2 - offset)) text)) i ≡ word_in text head (14 - offset) n p q
    later-part q i len e h l = big_endian_part text (at + (2 - offset)) len l i h ∙ later_text q i (at + (2 - offset) + i) e refl

    -- the first word: head and text joined
    pub first_text : (h w : ℕ) → h ≡ head (due_format n p) → h < 2 ^ 32 → ((k : ℕ) → get_or text k 0 < 256) → w ≡ word_of (get_or text at 0) (get_or text (at + 1) 0) (get_or text (at + 2) 0) (get_or text (at + 3) 0) → h / 2 ^ (32 - (2 + offset) * 8) * 2 ^ (32 - (2 + offset) * 8) + w / 2 ^ ((2 + offset) * 8) ≡ word_in text head (14 - offset) n p 0
    first_text h w e small bytes ew =
        let s : 16 - (14 - offset) ≡ 2 + offset = omega arith in
        rw (ew, here, add-zero, e) (sym (rw (s, add-zero) at (first-word text bytes head (14 - offset) n p (rw e at small))))
