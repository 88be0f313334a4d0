-- How to prove facts about `if_bad`, and what follows from such facts. By cases on the verdict.
use Rattle.std.proofs.Common.{◌≡◌, refl, Result, Ok, Err}
use Rattle.counts.specs.declared.TextByteNumber.{TextByteNumber}
use Rattle.utf8.specs.Utf8.{if_bad}

-- case analysis: the text is bad at a byte, or good
pub by_verdict : {A : Type 0} (v : Result (Unit {0}) TextByteNumber) → ((n : TextByteNumber) → v ≡ Err n → A) → (v ≡ Ok tt → A) → A
by_verdict (Err n) f g = f n refl
by_verdict (Ok tt) f g = g refl

-- a good text is gone past
pub past_good : {A : Type 0} {v : Result (Unit {0}) TextByteNumber} {next z : A} (bad : TextByteNumber → A) → v ≡ Ok tt → z ≡ next → z ≡ if_bad v bad next
past_good bad e q = rw e q

module _ {A : Type 0} (v : Result (Unit {0}) TextByteNumber) (bad : TextByteNumber → A) (next : A) where
  -- a property of both cases is a property of what follows
  pub if_bad_has : (P : A → Type 0) → ((n : TextByteNumber) → v ≡ Err n → P (bad n)) → (v ≡ Ok tt → P next) → P (if_bad v bad next)
  if_bad_has P f g = by_verdict v (λ n e. rw e (f n e)) (λ e. rw e (g e))

  -- what is no refusal of a bad text comes after a good one
  pub good_passed : (z : A) → ((n : TextByteNumber) → bad n ≡ z → ⊥) → if_bad v bad next ≡ z → (v ≡ Ok tt) × (next ≡ z)
  good_passed z other e = by_verdict v (λ n q. absurd (other n (rw q at e))) (λ q. (q, rw q at e))
