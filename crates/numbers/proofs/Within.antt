-- Numbers held to their limits, pair by pair. Closed by induction on both lists.
use Prim.Native.Nat.{ℕ, ◌<◌, ◌≤◌}
use mathlib.Core.Path.{◌≡◌, refl}
use mathlib.Core.Bool.{Bool, true, false, ◌&&◌}
use mathlib.Core.List.{List, [], ◌∷◌}
use native.Mathlib.Omega.{arith}
use lib.Dec.{ltb}
use lib.ListN.{length, take}
use Rattle.std.specs.List.{list_all, zip}
use Rattle.laws.specs.Pick.{pick, both}
use Rattle.laws.proofs.Pick.{both_false}
use Rattle.numbers.specs.FromNumbers.{within}

abbrev pub below_limit : ℕ × ℕ → Bool
below_limit p = ltb p.0 p.1

pub within_pairs : (ns ls : List ℕ) → length ls ≤ length ns → list_all below_limit (zip ns ls) ≡ within ns ls
unfolding within both
within_pairs [] [] h = refl
within_pairs (n ∷ ns) [] h = refl
within_pairs [] (l ∷ ls) h = absurd (omega arith)
within_pairs (n ∷ ns) (l ∷ ls) h = rw (within_pairs ns ls (omega arith)) (go (ltb n l))
  where
    go : (b : Bool) → (b && within ns ls) ≡ pick b (within ns ls) false
    go true = refl
    go false = refl

pub within_short : (ns ls : List ℕ) → length ns < length ls → within ns ls ≡ false
unfolding within both
within_short ns [] h = absurd (omega arith)
within_short [] (l ∷ ls) h = refl
within_short (n ∷ ns) (l ∷ ls) h = rw (within_short ns ls (omega arith)) (both_false (ltb n l))

-- as many numbers as there are limits are looked at
pub within_first : (ns ls : List ℕ) → within (take (length ls) ns) ls ≡ within ns ls
unfolding within
within_first ns [] = refl
within_first [] (l ∷ ls) = refl
within_first (n ∷ ns) (l ∷ ls) = rw (within_first ns ls)
