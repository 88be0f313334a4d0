-- Lists of numbers.
use Rattle.std.specs.Prelude.{ℕ, zero, suc, List, [], ◌∷◌, ◌++◌, eqb}
use Rattle.laws.specs.Pick.{pick}

-- the list f 0, f 1, .., of n numbers
unfoldable pub tabulate : ℕ → (ℕ → ℕ) → List ℕ
tabulate zero f = []
tabulate (suc n) f = f zero ∷ tabulate n (λ i. f (suc i))

-- the list with its first i elements replaced by f 0, f 1, ..
unfoldable pub up_to : ℕ → (ℕ → ℕ) → List ℕ → List ℕ
up_to zero f ws = ws
up_to (suc i) f [] = []
up_to (suc i) f (w ∷ ws) = f zero ∷ up_to i (λ k. f (suc k)) ws

-- a list without its zeros, in the same order
unfoldable pub nonzero : List ℕ → List ℕ
nonzero [] = []
nonzero (x ∷ xs) = pick (eqb x 0) (nonzero xs) (x ∷ nonzero xs)

-- a function applied to each element
unfoldable pub map : {A B : Type 0} → (A → B) → List A → List B
map f [] = []
map f (x ∷ xs) = f x ∷ map f xs

-- the lists f x of all elements x, joined
unfoldable pub each : {A B : Type 0} → (A → List B) → List A → List B
each f [] = []
each f (x ∷ xs) = f x ++ each f xs
