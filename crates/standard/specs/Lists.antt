-- LISTS OF SETTINGS on words, each applied to the result of the one before.
use Rattle.std.specs.Prelude.{ℕ, Bool, true, false, List, [], ◌∷◌, Result, Ok, Err}
use Rattle.laws.specs.Pick.{pick, both}
use Rattle.kinds.specs.declared.kind.Kind.{Kind}
use Rattle.kinds.specs.Fields.{Field, Setting, field_in, value_in, same}
use Rattle.kinds.specs.Layout.{layout}
use Rattle.standard.specs.Words.{set_on, answer_to}
use Rattle.kinds.specs.declared.refusal.Refusal.{Refusal}

-- the words after a list of settings
unfoldable pub set_all : List Setting → List ℕ → List ℕ
set_all [] ws = ws
set_all (s ∷ ss) ws = set_all ss (set_on s ws).words

-- a setting with its answer
pub record SettingAnswer : Type 0 where
  pub setting : Setting
  pub answer : Result (Unit {0}) Refusal

abbrev pub with_answer : Setting → Result (Unit {0}) Refusal → SettingAnswer
with_answer s a = record { setting = s; answer = a }

-- each setting of a list with its answer
unfoldable pub answer_all : List Setting → List ℕ → List SettingAnswer
answer_all [] ws = []
answer_all (s ∷ ss) ws = with_answer s (set_on s ws).answer ∷ answer_all ss (set_on s ws).words

-- the setting was accepted
abbrev pub is_done : Result (Unit {0}) Refusal → Bool
is_done (Ok tt) = true
is_done (Err r) = false

-- a field's value after a setting: the new one if the setting is of this field and accepted
abbrev pub value_after : Kind → ℕ → Setting → Field → List ℕ → List ℕ
value_after k room s f v = pick (both (is_done (answer_to (layout k) room s)) (same f (field_in s))) (value_in s) v

-- the last accepted value of a field; v if there is none
unfoldable pub last_accepted : Kind → ℕ → Field → List ℕ → List Setting → List ℕ
last_accepted k room f v [] = v
last_accepted k room f v (s ∷ ss) = last_accepted k room f (value_after k room s f v) ss

-- the elements for one field, in order
unfoldable pub only_field : {A : Type 0} → (A → Field) → Field → List A → List A
only_field of f [] = []
only_field of f (x ∷ xs) = pick (same f (of x)) (x ∷ only_field of f xs) (only_field of f xs)
