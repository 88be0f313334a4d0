-- From an equation for an `Outcome` to the two clauses of a contract.
use Rattle.std.specs.Prelude.{Result}
use Prim.Native.Nat.{ℕ}
use mathlib.Core.Path.{◌≡◌, sym, ap}
use mathlib.Core.List.{List}
use Rattle.standard.specs.Words.{Outcome, outcome}
use Rattle.kinds.specs.declared.refusal.Refusal.{Refusal}

-- the answer and the words of an outcome
pub said : {l : Outcome} {a : (Result (Unit {0}) Refusal)} {ws : List ℕ} → l ≡ outcome a ws → (a ≡ l.answer) × (ws ≡ l.words)
said e = (ap (λ (x : Outcome). x.answer) (sym e), ap (λ (x : Outcome). x.words) (sym e))

-- the clauses of a call that has the outcome of another
pub said_as : {k l : Outcome} {a : (Result (Unit {0}) Refusal)} {ws : List ℕ} → l ≡ k → (a ≡ k.answer) × (ws ≡ k.words) → (a ≡ l.answer) × (ws ≡ l.words)
said_as e h = rw e h
