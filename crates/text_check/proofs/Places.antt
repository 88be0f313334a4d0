-- Whether a verdict is Ok does not depend on the places that a check keeps. By induction on the bytes.
use Rattle.std.specs.Prelude.{Result, Ok, Err}
use Prim.Native.Nat.{ℕ, suc}
use mathlib.Core.Path.{◌≡◌, refl, sym}
use mathlib.Core.Bool.{Bool, true, false}
use mathlib.Core.Option.{Option, none, some}
use mathlib.Core.List.{List, [], ◌∷◌}
use Rattle.laws.specs.Pick.{pick}
use Rattle.laws.proofs.Pick.{true_false}
use Rattle.utf8.specs.Utf8.{Range, inside, due_after, State, going, stopped, start_char, verdict_from}
use Rattle.text_check.specs.FastCheck.{is_good}
use Rattle.counts.specs.declared.TextByteNumber.{TextByteNumber}

-- for two checks that differ in where the character started and in the number of the next byte
pub any_start : (xs : List ℕ) (o : Option (List Range)) (n m at k : ℕ) → is_good (verdict_from (start_char o n) at xs) ≡ is_good (verdict_from (start_char o m) k xs)
any_start [] none n m at k = refl
any_start [] (some []) n m at k = refl
any_start [] (some (d ∷ ds)) n m at k = refl
any_start (x ∷ xs) none n m at k = any_start xs none n m (suc at) (suc k)
any_start (x ∷ xs) (some []) n m at k = any_start xs (due_after x) at k (suc at) (suc k)
any_start (x ∷ xs) (some (d ∷ ds)) n m at k = go (inside d x) (any_start xs (some ds) n m (suc at) (suc k)) (any_start xs none n m (suc at) (suc k))
  where
    go : (t : Bool) → is_good (verdict_from (going ds n) (suc at) xs) ≡ is_good (verdict_from (going ds m) (suc k) xs) → is_good (verdict_from (stopped n) (suc at) xs) ≡ is_good (verdict_from (stopped m) (suc k) xs) → is_good (verdict_from (pick t (going ds n) (stopped n)) (suc at) xs) ≡ is_good (verdict_from (pick t (going ds m) (stopped m)) (suc k) xs)
    go true y z = y
    go false y z = z

-- for one state and any number of the next byte
pub any_place : (s : State) (xs : List ℕ) (at k : ℕ) → is_good (verdict_from s at xs) ≡ is_good (verdict_from s k xs)
any_place (going ds n) xs at k = any_start xs (some ds) n n at k
any_place (stopped n) xs at k = any_start xs none n n at k

pub good_is : (u : Result (Unit {0}) TextByteNumber) → is_good u ≡ true → (Ok tt) ≡ u
good_is (Ok tt) e = refl
good_is (Err n) e = true_false (sym e)
