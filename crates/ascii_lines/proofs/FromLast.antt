-- Digits put from the last to the first give the same buffer as digits put in order. By induction on the text and on the digits.
use Prim.Native.Nat.{ℕ, zero, suc, ◌+◌, ◌/◌, ◌%◌, ◌<◌, ◌≤◌, min}
use mathlib.Core.Path.{◌≡◌, refl, sym, ap, ◌∙◌}
use mathlib.Core.Logic.{⊎_elim}
use mathlib.Core.List.{List, [], ◌∷◌, ◌++◌}
use native.Mathlib.Omega.{arith}
use native.Mathlib.Numerals.{add-one}
use lib.ListN.{length, set, length-append, length-set}
use lib.Seq.{sets, length-sets}
use borrow.Author.Tests.{lt-ltb, le-ltb}
use Rattle.laws.proofs.Pick.{below}
use Rattle.laws.proofs.Lists.{sets_last, sets_out}
use Rattle.ascii_lines.specs.Page.{page, put_byte, put_bytes, Wrote}
use Rattle.ascii_lines.specs.Numbers.{digit, decimal}
use Rattle.ascii_lines.proofs.Numbers.{decimal_one, decimal_more}
use Rattle.ascii_lines.proofs.Room.{puts_sets}

-- ---- the last k digits of a number
unfoldable pub last_digits : ℕ → ℕ → List ℕ
last_digits zero n = []
last_digits (suc k) n = last_digits k (n / 10) ++ digit (n % 10) ∷ []

last_length : (k n : ℕ) → length (last_digits k n) ≡ k
unfolding last_digits
last_length zero n = refl
last_length (suc k) n = rw (length-append, last_length k (n / 10)) (add-one k)

-- all its digits, if k is their number
last_in : (k n : ℕ) → n ≤ k → last_digits (length (decimal n)) n ≡ decimal n
unfolding last_digits
last_in zero n h = let e : n ≡ 0 = omega arith in rw (e, decimal_one 0 (omega arith))
last_in (suc k) n h =
    ⊎_elim (λ l. let e : n % 10 ≡ n = omega arith in rw (decimal_one n l) (ap (λ (d : ℕ). digit d ∷ []) e))
    (λ g. rw (decimal_more n g, length-append, add-one) (ap (λ (x : List ℕ). x ++ digit (n % 10) ∷ []) (last_in k (n / 10) (omega arith))))
    (below n 10)

pub last_all : (n : ℕ) → last_digits (length (decimal n)) n ≡ decimal n
last_all n = last_in n n (omega arith)

-- A TURN stores the last of the remaining digits
pub digit_turn : (o : List ℕ) (at k m : ℕ) {i : ℕ} → suc k ≡ i → sets (set o (at + k) (digit (m % 10))) at (last_digits k (m / 10)) ≡ sets o at (last_digits i m)
unfolding last_digits
digit_turn o at k m e =
    rw (← e) (sym (sets_last (last_digits k (m / 10)) o at (digit (m % 10)) ∙ ap (λ (n : ℕ). sets (set o (at + n) (digit (m % 10))) at (last_digits k (m / 10))) (last_length k (m / 10))))

-- at the end none remain
pub stored : {o p : List ℕ} (at i m : ℕ) → i ≤ 0 → sets p at (last_digits i m) ≡ o → p ≡ o
unfolding last_digits
stored at zero m h e = e
stored at (suc i) m h e = absurd (omega arith)

-- ---- the stores as a text put, as far as there is room
puts_stay : (a o : List ℕ) (i : ℕ) → length o ≤ i → put_bytes (page i o) a ≡ page i o
unfolding put_bytes put_byte
puts_stay [] o i h = refl
puts_stay (b ∷ a) o i h = rw (le-ltb i (length o) h) (puts_stay a o i h)

puts_cut : (a o : List ℕ) (i : ℕ) → i ≤ length o → length o ≤ i + length a → put_bytes (page i o) a ≡ page (length o) (sets o i a)
unfolding put_bytes put_byte
puts_cut [] o i l h = let e : i ≡ length o = omega arith in ap (λ (n : ℕ). page n o) e
puts_cut (b ∷ a) o i l h =
    ⊎_elim (λ g. let e = length-set o i b in rw (lt-ltb i (length o) g, add-one) (puts_cut a (set o i b) (suc i) (omega (arith, e)) (omega (arith, e)) ∙ ap (λ (n : ℕ). page n (sets (set o i b) (suc i) a)) e))
    (λ g. let e : i ≡ length o = omega arith in puts_stay (b ∷ a) o i g ∙ rw (sets_out (b ∷ a) o i g) (ap (λ (n : ℕ). page n o) e))
    (below i (length o))

module _ (o a : List ℕ) (i : ℕ) where
  pub stayed : length o ≤ i → Wrote i o a i o
  stayed h = record { is = sym (puts_stay a o i h) }

  pub cut : {p : List ℕ} → p ≡ sets o i a → i ≤ length o → length o ≤ i + length a → Wrote i o a (length p) p
  cut e l h = record { is = rw (e, length-sets) (sym (puts_cut a o i l h)) }

  pub whole : {p : List ℕ} → p ≡ sets o i a → i + length a ≤ length o → Wrote i o a (i + length a) p
  whole e h = record { is = rw e (sym (puts_sets a o i h)) }

  -- all are stored as far as there is room, and the place is after them or at the end
  pub filled : {j : ℕ} {p : List ℕ} → p ≡ sets o i a → i ≤ length o → j ≡ min (length o) (i + length a) → Wrote i o a j p
  filled {j} {p} e l m =
      let kept : length p ≡ length o = ap length e ∙ length-sets o i a in
      ⊎_elim
      (λ (h : i + length a < length o). let q : j ≡ i + length a = omega arith in rw q (whole e (omega arith)))
      (λ (h : length o ≤ i + length a). let q : j ≡ length p = omega arith in rw q (cut e l h))
      (below (i + length a) (length o))
