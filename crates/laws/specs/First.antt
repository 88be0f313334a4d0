-- The first number below n that passes a test; n if there is none.
use Rattle.std.specs.Prelude.{ℕ, zero, suc, ◌≤◌, ◌<◌, ◌≡◌, Bool, true, false}
use Rattle.laws.specs.Pick.{pick}

-- the first of the n numbers from i on
unfoldable pub first_from : (ℕ → Bool) → ℕ → ℕ → ℕ
first_from t zero i = i
first_from t (suc n) i = pick (t i) i (first_from t n (suc i))

-- the first of the numbers below n
unfoldable pub first : (ℕ → Bool) → ℕ → ℕ
first t n = first_from t n 0

-- r is the first number that passes t, from `from` to below `to`; `to` if there is none
pub record IsFirst (t : ℕ → Bool) (from to r : ℕ) : Type 0 where
  pub low : from ≤ r
  pub high : r ≤ to
  pub before : (k : ℕ) → from ≤ k → k < r → t k ≡ false
  pub found : r < to → t r ≡ true
