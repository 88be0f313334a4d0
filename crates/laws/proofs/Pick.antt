-- How to prove facts about `pick`, and what follows from such facts. By cases on the tests.
use Prim.Native.Nat.{ℕ, ◌<◌, ◌≤◌}
use mathlib.Core.Bool.{Bool, true, false, not}
use mathlib.Core.Logic.{◌⊎◌, inl, inr}
use mathlib.Core.Path.{◌≡◌, refl, sym, ap, ◌∙◌}
use native.Mathlib.Omega.{arith}
use native.Mathlib.Decide.{dec_lt}
use borrow.Author.Tests.{eq-eqb, ne_eqb, eqb-true, not-false}
use Rattle.laws.specs.Pick.{pick, both, differ}

-- anything follows from 0 ≡ 1
pub never : {A : Type 0} → ◌≡◌ {A = ℕ} 0 1 → A
never e = absurd (omega arith)

pub true_false : {A : Type 0} → true ≡ false → A
true_false e = never (cc)

-- `here` if the test holds, `past` if it does not
pub here : {A : Type 0} {t : Bool} {x z : A} (y : A) → t ≡ true → z ≡ x → z ≡ pick t x y
here {t = true} y e q = q
here {t = false} y e q = true_false (sym e)

pub past : {A : Type 0} {t : Bool} {y z : A} (x : A) → t ≡ false → z ≡ y → z ≡ pick t x y
past {t = true} x e q = true_false e
past {t = false} x e q = q

-- if the result is not the first case, it is the second
pub passed : {A : Type 0} (t : Bool) (x y z : A) → (x ≡ z → ⊥) → pick t x y ≡ z → (t ≡ false) × (y ≡ z)
passed true x y z n e = absurd (n e)
passed false x y z n e = (refl, e)

-- case analysis: the test holds, or it does not
pub split : {A : Type 0} (b : Bool) → (b ≡ true → A) → (b ≡ false → A) → A
split true f g = f refl
split false f g = g refl

-- a property of both cases is a property of the picked one
pub picked : {A : Type 0} (P : A → Type 0) (t : Bool) (x y : A) → (t ≡ true → P x) → (t ≡ false → P y) → P (pick t x y)
picked P true x y f g = f refl
picked P false x y f g = g refl

-- the known value of a test, for an equal test
pub told : {a b d : Bool} → a ≡ b → a ≡ d → b ≡ d
told e t = sym e ∙ t

-- a test as a picked case
pub is_picked : (b : Bool) → b ≡ pick b true false
is_picked true = refl
is_picked false = refl

-- of two tests, the first or the second holds
pub either : (a b : Bool) → pick a true b ≡ true → (a ≡ true) ⊎ (b ≡ true)
either true b e = inl refl
either false b e = inr e

-- a number is below another, or not
pub below : (a b : ℕ) → (a < b) ⊎ (b ≤ a)
below a b = go (dec_lt a b)
  where
    go : Dec (a < b) → (a < b) ⊎ (b ≤ a)
    go (yes h) = inl h
    go (no h) = inr (omega arith)

-- ---- two tests
pub both_left : (a b : Bool) → both a b ≡ true → a ≡ true
unfolding both
both_left true b e = refl
both_left false b e = e

pub both_right : (a b : Bool) → both a b ≡ true → b ≡ true
unfolding both
both_right true b e = e
both_right false b e = true_false (sym e)

pub both_true : (a b : Bool) → a ≡ true → b ≡ true → both a b ≡ true
unfolding both
both_true a b p q = rw (p, q)

pub both_false : (a : Bool) → both a false ≡ false
unfolding both
both_false true = refl
both_false false = refl

-- `both` with a second test that holds
pub both_alone : (a : Bool) → both a true ≡ a
unfolding both
both_alone true = refl
both_alone false = refl

-- ---- two numbers
pub eq_differ : (a b : ℕ) → a ≡ b → differ a b ≡ false
eq_differ a b e = ap not (eq-eqb a b e)

pub ne_differ : (a b : ℕ) → (a ≡ b → ⊥) → differ a b ≡ true
ne_differ a b n = ap not (ne_eqb a b n)

pub differ_false : (a b : ℕ) → differ a b ≡ false → a ≡ b
differ_false a b e = eqb-true a b (not-false _ e)
