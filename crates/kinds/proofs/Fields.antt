-- One field or two, and what a text field is among the others. Closed by the decision of two fields, and cases on the setting.
use Prim.Native.Nat.{ℕ}
use mathlib.Core.Path.{◌≡◌, refl, sym, ap, ◌∙◌}
use mathlib.Core.Bool.{true, false}
use mathlib.Core.List.{List}
use Rattle.laws.proofs.Pick.{true_false, split}
use Rattle.kinds.specs.Fields.{Flag-discrete, Number-discrete, Pair-discrete, Text-discrete, Field-discrete, Text, Field, Setting, decided, same, field_in, value_in, text_in, part_of}

-- ---- one field, or two
decided_true : {A : Type 0} (d : Dec A) → decided d ≡ true → A
unfolding decided
decided_true (yes a) e = a
decided_true (no a) e = true_false (sym e)

decided_yes : {A : Type 0} (d : Dec A) → A → decided d ≡ true
unfolding decided
decided_yes (yes a) b = refl
decided_yes (no a) b = absurd (a b)

-- a test of two fields that holds, or does not
pub same_true : (f g : Field) → same f g ≡ true → f ≡ g
unfolding same
same_true f g e = decided_true (Field-discrete Flag-discrete Number-discrete Pair-discrete Text-discrete f g) e

pub same_refl : (f : Field) → same f f ≡ true
unfolding same
same_refl f = decided_yes (Field-discrete Flag-discrete Number-discrete Pair-discrete Text-discrete f f) refl

pub same_swap : (f g : Field) → same f g ≡ false → same g f ≡ false
same_swap f g e = split (same g f) (λ t. true_false (sym (ap (same f) (same_true g f t) ∙ same_refl f) ∙ e)) (λ t. t)

-- ---- text
-- it stands in no slot
pub part_text : (t : Text) (x y : List ℕ) (i : ℕ) → part_of (Field.text t) x i ≡ part_of (Field.text t) y i
unfolding part_of
part_text t x y i = refl

-- a setting of it has its bytes for value
pub value_text : (t : Text) (s : Setting) → same (Field.text t) (field_in s) ≡ true → text_in s ≡ value_in s
unfolding same decided
value_text t (Setting.flag f b) e = true_false (sym e)
value_text t (Setting.number n x) e = true_false (sym e)
value_text t (Setting.pair p x) e = true_false (sym e)
value_text t (Setting.ui_hint h) e = true_false (sym e)
value_text t (Setting.midi1_port p) e = true_false (sym e)
value_text t (Setting.direction d) e = true_false (sym e)
value_text t (Setting.device_manufacturer a b c) e = true_false (sym e)
value_text t (Setting.software_version a b c d) e = true_false (sym e)
value_text t (Setting.text u x) e = refl
