-- The choices of a function block by their codes: which codes name none, and the choice of every other. By cases on the two tests.
use Rattle.std.specs.Prelude.{Result, Ok, Err}
use Prim.Native.Nat.{ℕ, ◌<◌}
use mathlib.Core.Path.{◌≡◌, refl}
use mathlib.Core.Bool.{Bool, true, false}
use native.Mathlib.Omega.{arith}
use lib.Dec.{ltb, eqb}
use borrow.Author.Tests.{le-ltb}
use Rattle.laws.specs.Pick.{pick}
use Rattle.kinds.specs.declared.choices.NoChoice.{NoChoice}
use Rattle.kinds.specs.declared.choices.Midi1Port.{Midi1Port}
use Rattle.kinds.specs.declared.choices.Direction.{Direction}
use Rattle.kinds.specs.Choices.{port_of, no_port, port_from_code, direction_of, no_direction, direction_from_code}

-- a code is no choice by one of two tests, or names the choice c
module _ {A : Type 0} (c : A) (e : NoChoice) where
  abbrev tried : Bool → Bool → Result A NoChoice
  tried t u = pick t (Err e) (pick u (Err e) (Ok c))

  named : (t u : Bool) (x : A) → Ok x ≡ tried t u → (u ≡ false) × (x ≡ c)
  named true u x q = absurd (cc)
  named false true x q = absurd (cc)
  named false false x q = let s : x ≡ c = cc in (refl, s)

  none_named : (t u : Bool) (d : NoChoice) → t ≡ false → Err d ≡ tried t u → u ≡ true
  none_named true u d f q = absurd (cc)
  none_named false true d f q = refl
  none_named false false d f q = absurd (cc)

module _ (n : ℕ) where
  pub port_named : {p : Midi1Port} → Ok p ≡ port_from_code n → (eqb n no_port ≡ false) × (p ≡ port_of n)
  port_named {p} q = named (port_of n) (record {}) (ltb 3 n) (eqb n no_port) p q

  pub no_port_named : {e : NoChoice} → n < 4 → Err e ≡ port_from_code n → eqb n no_port ≡ true
  no_port_named {e} few q = none_named (port_of n) (record {}) (ltb 3 n) (eqb n no_port) e (le-ltb 3 n (omega arith)) q

  pub direction_named : {d : Direction} → Ok d ≡ direction_from_code n → (eqb n no_direction ≡ false) × (d ≡ direction_of n)
  direction_named {d} q = named (direction_of n) (record {}) (ltb 3 n) (eqb n no_direction) d q

  pub no_direction_named : {e : NoChoice} → n < 4 → Err e ≡ direction_from_code n → eqb n no_direction ≡ true
  no_direction_named {e} few q = none_named (direction_of n) (record {}) (ltb 3 n) (eqb n no_direction) e (le-ltb 3 n (omega arith)) q
