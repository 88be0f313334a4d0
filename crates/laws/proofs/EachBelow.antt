-- Facts about every number below n, proved by a test that antt computes; tests joined by `&&`; and the last arm of a match. By induction on n.
use Prim.Native.Nat.{ℕ, zero, suc, ◌<◌, ◌≤◌}
use mathlib.Core.Path.{◌≡◌, refl, sym, subst}
use mathlib.Core.Bool.{Bool, true, false, ◌&&◌}
use native.Mathlib.Nat.{not-suc-le-zero}
use native.Mathlib.Decide.{ℕ_discrete}
use native.Mathlib.Omega.{arith}
use lib.Dec.{T}
use Rattle.laws.proofs.Pick.{true_false}

-- the test holds for each number below n
abbrev pub each_below : (ℕ → Bool) → ℕ → Bool
each_below f zero = true
each_below f (suc n) = f n && each_below f n

pub and_left : (a b : Bool) → T (a && b) → T a
and_left true b t = tt
and_left false b t = t

pub and_right : (a b : Bool) → T (a && b) → T b
and_right true b t = t
and_right false b t = absurd t

pub and_l : (a b : Bool) → a && b ≡ true → a ≡ true
and_l true b e = refl
and_l false b e = e

pub and_r : (a b : Bool) → a && b ≡ true → b ≡ true
and_r true b e = e
and_r false b e = true_false (sym e)

-- several tests that all hold
pub three_hold : (a b c : Bool) → a && (b && c) ≡ true → (a ≡ true) × (b ≡ true) × (c ≡ true)
three_hold a b c e = let r = and_r a (b && c) e in (and_l a (b && c) e, and_l b c r, and_r b c r)

pub four_hold : (a b c d : Bool) → a && (b && (c && d)) ≡ true → (a ≡ true) × (b ≡ true) × (c ≡ true) × (d ≡ true)
four_hold a b c d e = let r = three_hold b c d (and_r a (b && (c && d)) e) in (and_l a (b && (c && d)) e, r.0, r.1, r.2)

pub five_hold : (a b c d f : Bool) → a && (b && (c && (d && f))) ≡ true → (a ≡ true) × (b ≡ true) × (c ≡ true) × (d ≡ true) × (f ≡ true)
five_hold a b c d f e = let r = four_hold b c d f (and_r a (b && (c && (d && f))) e) in (and_l a (b && (c && (d && f))) e, r.0, r.1, r.2, r.3)

pub six_hold : (a b c d f g : Bool) → a && (b && (c && (d && (f && g)))) ≡ true → (a ≡ true) × (b ≡ true) × (c ≡ true) × (d ≡ true) × (f ≡ true) × (g ≡ true)
six_hold a b c d f g e = let r = five_hold b c d f g (and_r a (b && (c && (d && (f && g)))) e) in (and_l a (b && (c && (d && (f && g)))) e, r.0, r.1, r.2, r.3, r.4)

pub each_at : (f : ℕ → Bool) (n : ℕ) → T (each_below f n) → (k : ℕ) → k < n → T (f k)
each_at f zero t k h = absurd (not-suc-le-zero h)
each_at f (suc n) t k h = go (each_at f n (and_right (f n) (each_below f n) t) k) (ℕ_discrete k n)
  where
    go : (k < n → T (f k)) → Dec (k ≡ n) → T (f k)
    go ih (yes e) = subst (λ (m : ℕ). T (f m)) (sym e) (and_left (f n) (each_below f n) t)
    go ih (no e) = ih (omega arith)

-- ---- a test that matters only if another one holds
abbrev pub implied : Bool → Bool → Bool
implied true b = b
implied false b = true

pub implied_holds : (a b : Bool) → a ≡ true → T (implied a b) → T b
implied_holds true b e t = t
implied_holds false b e t = absurd (subst T (sym e) tt)

-- ---- a number that is none of 0 .. k - 1, as the last arm of a match knows it
abbrev pub Missed : ℕ → ℕ → Type 0
Missed zero n = Unit
Missed (suc k) n = Missed k n × (n ≡ k → ⊥)

pub missed : (k n : ℕ) → Missed k n → k ≤ n
missed zero n m = omega arith
missed (suc k) n m = let h = missed k n m.0 in let d = m.1 in omega arith
