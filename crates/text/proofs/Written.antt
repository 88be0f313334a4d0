-- Each word of a buffer that text was written into. Proved from the laws of `up_to`.
use Prim.Native.Nat.{ℕ, ◌+◌, ◌-◌, ◌*◌, ◌/◌, ◌%◌, ◌<◌, ◌≤◌}
use mathlib.Core.Path.{◌≡◌, ◌∙◌}
use mathlib.Core.List.{List}
use native.Mathlib.Omega.{arith}
use lib.ListN.{length, get_or}
use borrow.Author.Tests.{lt-ltb, le-ltb, ne_eqb}
use Rattle.laws.proofs.Lists.{length-up_to, up_to_below, up_to_rest}
use Rattle.text.specs.Octets.{due_format}
use Rattle.text.specs.Written.{head_octet, octet_at, word_in, word_new, whole_words, written, blank}

module _ (text : List ℕ) (head : ℕ → ℕ) (cap n : ℕ) where
  pub octet_head : (p j : ℕ) → j < 16 - cap → octet_at text head cap n p j ≡ head_octet (head (due_format n p)) j
  unfolding octet_at
  octet_head p j h = simp (lt-ltb j (16 - cap) h)

  pub octet_text : (p j : ℕ) → 16 - cap ≤ j → octet_at text head cap n p j ≡ get_or text (p * cap + (j - (16 - cap))) 0
  unfolding octet_at
  octet_text p j h = simp (le-ltb j (16 - cap) h)

  pub word_text : (k : ℕ) → k < n * 4 → word_new text head cap n k ≡ word_in text head cap n (k / 4) (k % 4)
  unfolding word_new
  word_text k h = simp (lt-ltb k (n * 4) h)

  -- word q of packet p
  pub word-packet : (p q : ℕ) → p < n → q < 4 → word_new text head cap n (p * 4 + q) ≡ word_in text head cap n p q
  word-packet p q hp hq =
      let e : (p * 4 + q) / 4 ≡ p = omega arith in
      let m : (p * 4 + q) % 4 ≡ q = omega arith in
      word_text (p * 4 + q) (omega arith) ∙ rw (e, m)

  pub word_zero : (k : ℕ) → n * 4 ≤ k → word_new text head cap n k ≡ 0
  unfolding word_new
  word_zero k h = simp (le-ltb k (n * 4) h)

  module _ (ws : List ℕ) where
    pub length-written : length (written ws text head cap n) ≡ length ws
    unfolding written
    length-written = length-up_to _ _ ws

    pub at_whole : (k : ℕ) → k < whole_words ws → get_or (written ws text head cap n) k 0 ≡ word_new text head cap n k
    unfolding written
    at_whole k h = up_to_below _ _ ws k h (omega arith)

    pub at_rest : (k : ℕ) → whole_words ws ≤ k → get_or (written ws text head cap n) k 0 ≡ get_or ws k 0
    unfolding written
    at_rest k h = up_to_rest _ _ ws k h

    -- the one to three words after the last whole packet are kept
    pub tail_kept : (m r : ℕ) → length ws ≡ m * 4 + r → r < 4 → (i : ℕ) → get_or (written ws text head cap n) (m * 4 + i) 0 ≡ get_or ws (m * 4 + i) 0
    tail_kept m r e h i = at_rest (m * 4 + i) (omega (arith, e))

    pub word_at_lem : (p q : ℕ) → n * 4 ≤ length ws → p < n → q < 4 → get_or (written ws text head cap n) (p * 4 + q) 0 ≡ word_in text head cap n p q
    word_at_lem p q hw hp hq = at_whole (p * 4 + q) (omega arith) ∙ word-packet p q hp hq

pub length-blank : (head : ℕ) (ws : List ℕ) → length (blank head ws) ≡ length ws
unfolding blank
length-blank head ws = length-up_to _ _ ws

pub blank_kept : (head : ℕ) (ws : List ℕ) (m r : ℕ) → length ws ≡ m * 4 + r → r < 4 → (i : ℕ) → get_or (blank head ws) (m * 4 + i) 0 ≡ get_or ws (m * 4 + i) 0
unfolding blank
blank_kept head ws m r e h i = up_to_rest _ _ ws (m * 4 + i) (omega (arith, e))

pub blank-first : (head : ℕ) (ws : List ℕ) → 4 ≤ length ws → get_or (blank head ws) 0 0 ≡ head
unfolding blank
blank-first head ws l = up_to_below _ _ ws 0 (omega arith) (omega arith)

-- its other words: zero in the whole packets, kept after them
pub blank_zero : (head : ℕ) (ws : List ℕ) (k : ℕ) → 1 ≤ k → k < whole_words ws → get_or (blank head ws) k 0 ≡ 0
unfolding blank
blank_zero head ws k h l = up_to_below _ _ ws k (omega arith) (omega arith) ∙ rw (ne_eqb k 0 (λ e. omega arith))

pub blank_rest : (head : ℕ) (ws : List ℕ) (k : ℕ) → whole_words ws ≤ k → get_or (blank head ws) k 0 ≡ get_or ws k 0
unfolding blank
blank_rest head ws k h = up_to_rest _ _ ws k (omega arith)
