-- Lists of settings, given the law of one setting; and a field's last accepted value. By induction on the list.
use Rattle.std.specs.Prelude.{Result}
use Prim.Native.Nat.{ℕ}
use mathlib.Core.Path.{◌≡◌, refl, sym, ap, ◌∙◌}
use mathlib.Core.Bool.{Bool, true, false}
use mathlib.Core.List.{List, [], ◌∷◌}
use Rattle.laws.specs.Pick.{pick, both}
use Rattle.laws.specs.Lists.{map}
use Rattle.laws.proofs.Pick.{both_false}
use Rattle.kinds.specs.declared.kind.Kind.{Kind}
use Rattle.kinds.specs.Fields.{Field, Setting, field_in, value_in, same}
use Rattle.kinds.specs.Layout.{layout}
use Rattle.standard.specs.Heads.{packets_of}
use Rattle.standard.specs.Words.{Outcome, outcome, set_on, answer_to, encode}
use Rattle.standard.specs.Lists.{set_all, SettingAnswer, with_answer, answer_all, is_done, last_accepted, only_field}
use Rattle.promises.specs.Values.{changed, field_answered}
use Rattle.kinds.specs.declared.refusal.Refusal.{Refusal}

-- ---- a field's last value depends on its own settings only
module _ (k : Kind) (room : ℕ) (f : Field) where
  last_only : (v : List ℕ) (ss : List Setting) → last_accepted k room f v (only_field field_in f ss) ≡ last_accepted k room f v ss
  unfolding last_accepted only_field both
  last_only v [] = refl
  last_only v (s ∷ ss) = go (same f (field_in s)) refl (λ w. last_only w ss)
    where
      go : (b : Bool) → same f (field_in s) ≡ b → ((w : List ℕ) → last_accepted k room f w (only_field field_in f ss) ≡ last_accepted k room f w ss) → last_accepted k room f v (pick b (s ∷ only_field field_in f ss) (only_field field_in f ss)) ≡ last_accepted k room f (pick (both (is_done (answer_to (layout k) room s)) b) (value_in s) v) ss
      go true e ih = ap (λ (b : Bool). last_accepted k room f (pick (both (is_done (answer_to (layout k) room s)) b) (value_in s) v) (only_field field_in f ss)) e ∙ ih _
      go false e ih = ih v ∙ ap (λ (b : Bool). last_accepted k room f (pick b (value_in s) v) ss) (sym (both_false (is_done (answer_to (layout k) room s))))

  pub last_mixed : (v : List ℕ) (ss ts : List Setting) → only_field field_in f ss ≡ only_field field_in f ts → last_accepted k room f v ss ≡ last_accepted k room f v ts
  last_mixed v ss ts e = sym (last_only v ss) ∙ ap (last_accepted k room f v) e ∙ last_only v ts

-- ---- a field's answers depend on its own settings only
pub only_answered : (h : Setting → (Result (Unit {0}) Refusal)) (f : Field) (ss : List Setting) → only_field field_answered f (map (λ s. with_answer s (h s)) ss) ≡ map (λ s. with_answer s (h s)) (only_field field_in f ss)
unfolding only_field map
only_answered h f [] = refl
only_answered h f (s ∷ ss) = go (same f (field_in s)) (only_answered h f ss)
  where
    go : (b : Bool) → only_field field_answered f (map (λ s. with_answer s (h s)) ss) ≡ map (λ s. with_answer s (h s)) (only_field field_in f ss) → pick b (with_answer s (h s) ∷ only_field field_answered f (map (λ s. with_answer s (h s)) ss)) (only_field field_answered f (map (λ s. with_answer s (h s)) ss)) ≡ map (λ s. with_answer s (h s)) (pick b (s ∷ only_field field_in f ss) (only_field field_in f ss))
    go true e = ap (λ (l : List SettingAnswer). with_answer s (h s) ∷ l) e
    go false e = e

-- ---- given the law of one setting
module _ (k : Kind) (ws : List ℕ) (Good : (Field → List ℕ) → Type 0)
    (law : (v : Field → List ℕ) → Good v → (s : Setting) → set_on s (encode k ws v) ≡ outcome (answer_to (layout k) (packets_of ws) s) (encode k ws (changed k (packets_of ws) s v)))
    (keep : (v : Field → List ℕ) → Good v → (s : Setting) → Good (changed k (packets_of ws) s v)) where
  pub all_set : (ss : List Setting) (v : Field → List ℕ) → Good v → set_all ss (encode k ws v) ≡ encode k ws (λ f. last_accepted k (packets_of ws) f (v f) ss)
  unfolding set_all last_accepted
  all_set [] v g = refl
  all_set (s ∷ ss) v g = ap (λ (r : Outcome). set_all ss r.words) (law v g s) ∙ all_set ss (changed k (packets_of ws) s v) (keep v g s)

  pub all_answered : (ss : List Setting) (v : Field → List ℕ) → Good v → answer_all ss (encode k ws v) ≡ map (λ s. with_answer s (answer_to (layout k) (packets_of ws) s)) ss
  unfolding answer_all map
  all_answered [] v g = refl
  all_answered (s ∷ ss) v g =
      ap (λ (r : Outcome). with_answer s r.answer ∷ answer_all ss r.words) (law v g s)
      ∙ ap (λ (l : List SettingAnswer). with_answer s (answer_to (layout k) (packets_of ws) s) ∷ l) (all_answered ss (changed k (packets_of ws) s v) (keep v g s))

  -- the last accepted values are good
  pub all_good : (ss : List Setting) (v : Field → List ℕ) → Good v → Good (λ f. last_accepted k (packets_of ws) f (v f) ss)
  unfolding last_accepted
  all_good [] v g = g
  all_good (s ∷ ss) v g = all_good ss (changed k (packets_of ws) s v) (keep v g s)
