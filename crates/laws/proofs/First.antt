-- The first number that passes a test: its properties, and how a loop finds it. By induction on the numbers left to try.
use Prim.Native.Nat.{ℕ, zero, suc, ◌+◌, ◌-◌, ◌≤◌, ◌<◌}
use mathlib.Core.Bool.{Bool, true, false}
use mathlib.Core.Path.{◌≡◌, sym, ◌∙◌}
use native.Mathlib.Numerals.{add-one}
use native.Mathlib.Decide.{dec_lt}
use native.Mathlib.Omega.{arith}
use lib.Dec.{ltb}
use borrow.Author.Tests.{le-ltb, ltb-false}
use Rattle.laws.specs.Pick.{pick}
use Rattle.laws.specs.First.{first_from, first, IsFirst}
use Rattle.laws.proofs.Pick.{true_false, split}

later : (t : ℕ → Bool) (from to r : ℕ) → t from ≡ false → IsFirst t (suc from) to r → IsFirst t from to r
later t from to r e h = record { low = omega (arith, h.low); high = h.high; before = λ k a b. at k a b; found = h.found }
  where
    at : (k : ℕ) → from ≤ k → k < r → t k ≡ false
    at k a b = go (dec_lt from k)
      where
        go : Dec (from < k) → t k ≡ false
        go (yes l) = h.before k l b
        go (no l) = let q : k ≡ from = omega arith in rw q e

from_is : (t : ℕ → Bool) (n i : ℕ) → IsFirst t i (i + n) (first_from t n i)
unfolding first_from
from_is t zero i = record { low = omega arith; high = omega arith; before = λ k a b. absurd (omega arith); found = λ h. absurd (omega arith) }
from_is t (suc n) i = split (t i) held (missed (from_is t n (suc i)))
  where
    held : t i ≡ true → IsFirst t i (i + suc n) (pick (t i) i (first_from t n (suc i)))
    held e = rw e (record { low = omega arith; high = omega arith; before = λ k a b. absurd (omega arith); found = λ h. e })

    missed : IsFirst t (suc i) (suc i + n) (first_from t n (suc i)) → t i ≡ false → IsFirst t i (i + suc n) (pick (t i) i (first_from t n (suc i)))
    missed h e =
        let q : suc i + n ≡ i + suc n = omega arith in
        rw e (later t i _ _ e (rw q at h))

pub first_is : (t : ℕ → Bool) (n : ℕ) → IsFirst t 0 n (first t n)
unfolding first
first_is t n = let q : 0 + n ≡ n = omega arith in rw q at (from_is t n 0)

-- no number is found exactly if the test fails for all
pub none_first : (t : ℕ → Bool) (n : ℕ) → ltb (first t n) n ≡ false → (k : ℕ) → k < n → t k ≡ false
none_first t n e k h = let l : n ≤ first t n = ltb-false _ _ e in (first_is t n).before k (omega arith) (omega arith)

pub first-none : (t : ℕ → Bool) (n : ℕ) → ((k : ℕ) → k < n → t k ≡ false) → ltb (first t n) n ≡ false
first-none t n h = le-ltb _ _ (go (dec_lt (first t n) n))
  where
    go : Dec (first t n < n) → n ≤ first t n
    go (yes l) = true_false (sym ((first_is t n).found l) ∙ h (first t n) l)
    go (no l) = omega arith

-- ---- the loop invariant: the rest of the search gives the result of the whole search
module _ (t : ℕ → Bool) (n i : ℕ) where
  pub first_turn : i < n → t i ≡ false → first_from t (n - (i + 1)) (i + 1) ≡ first_from t (n - i) i
  unfolding first_from
  first_turn h e = let m : n - i ≡ suc (n - suc i) = omega arith in rw (m, e, add-one)

  pub first_hit : i < n → t i ≡ true → i ≡ first_from t (n - i) i
  unfolding first_from
  first_hit h e = let m : n - i ≡ suc (n - suc i) = omega arith in rw (m, e)

  pub first_end : n ≤ i → i ≡ first_from t (n - i) i
  unfolding first_from
  first_end h = let m : n - i ≡ 0 = omega arith in rw m
