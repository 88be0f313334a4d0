-- Numbers as text: the digits of n from those of n / 10, and reading the digits gives the number back. By induction on the steps.
use Prim.Native.Nat.{ℕ, zero, suc, ◌+◌, ◌-◌, ◌*◌, ◌/◌, ◌%◌, ◌<◌, ◌≤◌}
use mathlib.Core.Path.{◌≡◌, refl, ap}
use mathlib.Core.Logic.{⊎_elim}
use mathlib.Core.List.{List, [], ◌∷◌, ◌++◌}
use native.Mathlib.Omega.{arith}
use lib.Dec.{ltb}
use borrow.Author.Tests.{lt-ltb, le-ltb}
use Rattle.laws.specs.Pick.{pick}
use Rattle.laws.proofs.Pick.{below}
use Rattle.ascii_lines.specs.Numbers.{digit, decimal, decimal_in}

-- a decimal digit
pub digit_small : (d : ℕ) → d < 10 → digit d ≡ 48 + d
digit_small d h = rw (lt-ltb d 10 h)

-- any number of steps from n on gives the same digits
enough : (j k n : ℕ) → n ≤ j → n ≤ k → decimal_in j n ≡ decimal_in k n
unfolding decimal_in
enough zero zero n h l = refl
enough zero (suc k) n h l = simp (lt-ltb n 10 (omega arith))
enough (suc j) zero n h l = simp (lt-ltb n 10 (omega arith))
enough (suc j) (suc k) n h l =
    ap (λ (x : List ℕ). pick (ltb n 10) (digit n ∷ []) (x ++ digit (n % 10) ∷ [])) (enough j k (n / 10) (omega arith) (omega arith))

pub decimal_one : (n : ℕ) → n < 10 → decimal n ≡ digit n ∷ []
unfolding decimal decimal_in
decimal_one zero h = refl
decimal_one (suc n) h = simp (lt-ltb (suc n) 10 h)

pub decimal_more : (n : ℕ) → 10 ≤ n → decimal n ≡ decimal (n / 10) ++ digit (n % 10) ∷ []
unfolding decimal decimal_in
decimal_more zero h = absurd (omega arith)
decimal_more (suc n) h =
    simp (le-ltb (suc n) 10 h)
    (ap (λ (x : List ℕ). x ++ digit (suc n % 10) ∷ []) (enough n (suc n / 10) (suc n / 10) (omega arith) (omega arith)))

-- ---- the number that decimal digits mean, appended to a number read before
unfoldable pub read_on : ℕ → List ℕ → ℕ
read_on n [] = n
read_on n (d ∷ ds) = read_on (n * 10 + (d - 48)) ds

read_append : (n : ℕ) (a b : List ℕ) → read_on n (a ++ b) ≡ read_on (read_on n a) b
unfolding read_on
read_append n [] b = refl
read_append n (d ∷ a) b = read_append (n * 10 + (d - 48)) a b

read_in : (k n : ℕ) → n ≤ k → read_on 0 (decimal_in k n) ≡ n
unfolding decimal_in read_on
read_in zero n h = rw (digit_small n (omega arith)) (omega arith)
read_in (suc k) n h =
    ⊎_elim (λ l. rw (lt-ltb n 10 l) (omega arith))
    (λ l. rw (le-ltb n 10 l, read_append 0 (decimal_in k (n / 10)) (digit (n % 10) ∷ []), read_in k (n / 10) (omega arith), digit_small (n % 10) (omega arith)) (omega arith))
    (below n 10)

-- READING THE DIGITS OF A NUMBER gives the number
pub decimal_read : (n : ℕ) → read_on 0 (decimal n) ≡ n
unfolding decimal
decimal_read n = read_in n n (omega arith)
