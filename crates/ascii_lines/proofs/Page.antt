-- The laws of a page: one text after another, and the invariant of a loop that writes. By induction on the text.
use Prim.Native.Nat.{ℕ, ◌+◌, ◌<◌, ◌≤◌}
use mathlib.Core.Path.{◌≡◌, refl, sym, ap, ◌∙◌}
use mathlib.Core.List.{List, [], ◌∷◌, ◌++◌}
use lib.ListN.{length, set}
use borrow.Author.Tests.{lt-ltb, le-ltb}
use Rattle.ascii_lines.specs.Page.{Page, page, put_byte, put_bytes, Wrote}

-- a text put in two parts gives the same page as the whole
pub puts_append : (s : Page) (a b : List ℕ) → put_bytes s (a ++ b) ≡ put_bytes (put_bytes s a) b
unfolding put_bytes
puts_append s [] b = refl
puts_append s (x ∷ a) b = puts_append (put_byte s x) a b

-- ONE TEXT AND THEN ANOTHER is both joined; every line is built this way
infixl 65 ◌⨾◌
pub ◌⨾◌ : {i j k : ℕ} {o p q a b : List ℕ} → Wrote i o a j p → Wrote j p b k q → Wrote i o (a ++ b) k q
◌⨾◌ {i} {o = o} {a = a} {b} v w = record { is = w.is ∙ ap (λ (x : Page). put_bytes x b) v.is ∙ sym (puts_append (page i o) a b) }

pub nothing : (i : ℕ) (o : List ℕ) → Wrote i o [] i o
unfolding put_bytes
nothing i o = record { is = refl }

-- the same text in other terms
pub says : {i j : ℕ} {o p a b : List ℕ} → Wrote i o a j p → a ≡ b → Wrote i o b j p
says w e = rw (← e) w

module _ (i : ℕ) (o : List ℕ) (b : ℕ) where
  pub put_here : i < length o → Wrote i o (b ∷ []) (i + 1) (set o i b)
  unfolding put_byte put_bytes
  put_here h = record { is = simp (lt-ltb i (length o) h) }

  pub put_full : length o ≤ i → Wrote i o (b ∷ []) i o
  unfolding put_byte put_bytes
  put_full h = record { is = simp (le-ltb i (length o) h) }

-- ANY TWO OUTCOMES are equal
pub same_outcome : {i j k : ℕ} {o a p q : List ℕ} → Wrote i o a j p → Wrote i o a k q → page j p ≡ page k q
same_outcome v w = v.is ∙ sym w.is

-- ---- the loop invariant: writing the remaining text from here gives the whole text written from the start
pub record ToWrite (i : ℕ) (o text : List ℕ) (j : ℕ) (p left : List ℕ) : Type 0 where
  pub is : put_bytes (page j p) left ≡ put_bytes (page i o) text

pub to_write_all : (i : ℕ) (o text : List ℕ) → ToWrite i o text i o text
to_write_all i o text = record { is = refl }

-- a turn writes the first part of the remaining text
pub to_write_turn : {i j k : ℕ} {o text p q left a b : List ℕ} → ToWrite i o text j p left → Wrote j p a k q → left ≡ a ++ b → ToWrite i o text k q b
to_write_turn {j = j} {p = p} {a = a} {b} l w e =
    record { is = ap (λ (x : Page). put_bytes x b) w.is ∙ sym (puts_append (page j p) a b) ∙ rw (← e) l.is }

pub to_write_none : {i j : ℕ} {o text p left : List ℕ} → ToWrite i o text j p left → left ≡ [] → Wrote i o text j p
unfolding put_bytes
to_write_none l e = record { is = rw e at l.is }
