-- Choosing by a test: the only "if" used in definitions.
use Rattle.std.specs.Prelude.{ℕ, Bool, true, false, not, eqb}

-- the first if the test holds, otherwise the second
abbrev pub pick : {A : Type 0} → Bool → A → A → A
pick true a b = a
pick false a b = b

-- both tests hold
unfoldable pub both : Bool → Bool → Bool
both a b = pick a b false

-- two numbers differ
abbrev pub differ : ℕ → ℕ → Bool
differ a b = not (eqb a b)
