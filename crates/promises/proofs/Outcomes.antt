-- ANY TWO OUTCOMES that a contract allows are equal: one law for each form of contract, and its use for each kind of call.
use Rattle.std.specs.Prelude.{Option, Result}
use Prim.Native.Nat.{ℕ}
use mathlib.Core.Path.{◌≡◌, sym, ◌∙◌}
use mathlib.Core.List.{List}
use Rattle.text.specs.declared.TextPlace.{TextPlace}
use Rattle.kinds.specs.Fields.{Setting}
use Rattle.records.specs.declared.message.Message.{Message}
use Rattle.records.specs.declared.answers.Walked.{Walked}
use Rattle.standard.specs.Place.{next_byte}
use Rattle.standard.specs.Reading.{read_of}
use Rattle.standard.specs.Walk.{walk_of}
use Rattle.standard.specs.Words.{Outcome, fresh_on, set_on, write_on}
use Rattle.kinds.specs.declared.refusal.Refusal.{Refusal}

-- a call that only answers
pub one_answer : {A : Type 0} (x : A) {a b : A} → a ≡ x → b ≡ x → a ≡ b
one_answer x p q = p ∙ sym q

-- a call that answers and changes lent words
pub one_outcome : (l : Outcome) {a b : (Result (Unit {0}) Refusal)} {ws us : List ℕ} → (a ≡ l.answer) × (ws ≡ l.words) → (b ≡ l.answer) × (us ≡ l.words) → (a ≡ b) × (ws ≡ us)
one_outcome l p q = (one_answer l.answer p.0 q.0, one_answer l.words p.1 q.1)

-- ---- for each kind of call
pub read_once : (ws : List ℕ) {a b : (Result Message Refusal)} → a ≡ read_of ws → b ≡ read_of ws → a ≡ b
read_once ws = one_answer (read_of ws)

pub walk_once : (ws : List ℕ) (pos : ℕ) {a b : Walked} → a ≡ walk_of ws pos → b ≡ walk_of ws pos → a ≡ b
walk_once ws pos = one_answer (walk_of ws pos)

-- the lent text place: the step and the place
pub step_once : (ws : List ℕ) (at : TextPlace) {a b : (Option ℕ)} {p q : TextPlace} → (a ≡ (next_byte ws at).step) × (p ≡ (next_byte ws at).place) → (b ≡ (next_byte ws at).step) × (q ≡ (next_byte ws at).place) → (a ≡ b) × (p ≡ q)
step_once ws at p q = (one_answer (next_byte ws at).step p.0 q.0, one_answer (next_byte ws at).place p.1 q.1)

module _ (ws : List ℕ) {a b : (Result (Unit {0}) Refusal)} {us vs : List ℕ} where
  pub fresh_once : (status : ℕ) → (a ≡ (fresh_on status ws).answer) × (us ≡ (fresh_on status ws).words) → (b ≡ (fresh_on status ws).answer) × (vs ≡ (fresh_on status ws).words) → (a ≡ b) × (us ≡ vs)
  fresh_once status = one_outcome (fresh_on status ws)

  pub set_once : (s : Setting) → (a ≡ (set_on s ws).answer) × (us ≡ (set_on s ws).words) → (b ≡ (set_on s ws).answer) × (vs ≡ (set_on s ws).words) → (a ≡ b) × (us ≡ vs)
  set_once s = one_outcome (set_on s ws)

  pub write_once : (m : Message) → (a ≡ (write_on m ws).answer) × (us ≡ (write_on m ws).words) → (b ≡ (write_on m ws).answer) × (vs ≡ (write_on m ws).words) → (a ≡ b) × (us ≡ vs)
  write_once m = one_outcome (write_on m ws)
