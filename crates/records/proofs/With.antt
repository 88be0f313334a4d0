-- Values of which one field's is changed: what is put of them, which text, and that a choice stays a named one. Closed by cases on whether a field is the one changed.
use Prim.Native.Nat.{ℕ}
use mathlib.Core.Path.{◌≡◌, refl, fun_ext}
use mathlib.Core.Bool.{Bool, true, false}
use mathlib.Core.Logic.{◌≢◌}
use mathlib.Core.List.{List}
use lib.ListN.{get_or}
use Rattle.laws.specs.Pick.{pick}
use Rattle.laws.proofs.Pick.{split}
use Rattle.kinds.specs.Choices.{no_port, no_direction}
use Rattle.kinds.specs.Fields.{Text, Field, Setting, decided, same, field_in, value_in, text_in, part_of}
use Rattle.kinds.specs.Layout.{Part, parts}
use Rattle.kinds.proofs.Fields.{same_true, part_text, value_text}
use Rattle.kinds.proofs.Codes.{no_code_port, no_code_direction}
use Rattle.records.specs.Settings.{with}

-- ---- what is put of changed values
part-with : (f : Field) (x : List ℕ) (v : Field → List ℕ) (p : Part) → pick (same p.field f) (parts (λ g. x) p) (parts v p) ≡ parts (with f x v) p
part-with f x v p = go (same p.field f)
  where
    go : (b : Bool) → pick b (part_of p.field x p.index) (part_of p.field (v p.field) p.index) ≡ part_of p.field (pick b x (v p.field)) p.index
    go true = refl
    go false = refl

pub parts-with : (f : Field) (x : List ℕ) (v : Field → List ℕ) → (λ p. pick (same p.field f) (parts (λ g. x) p) (parts v p)) ≡ parts (with f x v)
parts-with f x v = fun_ext (part-with f x v)

pub parts_text : (t : Text) (x : List ℕ) (v : Field → List ℕ) → parts (with (Field.text t) x v) ≡ parts v
parts_text t x v = fun_ext (λ p. split (same p.field (Field.text t)) (changed p) (λ e. rw e))
  where
    changed : (p : Part) → same p.field (Field.text t) ≡ true → parts (with (Field.text t) x v) p ≡ parts v p
    changed p e = rw (same_true p.field (Field.text t) e) (part_text t _ _ p.index)

-- ---- the text among changed values: the setting's, or the one that was
pub text_with : (P : List ℕ → Type 0) (t : Text) (s : Setting) (v : Field → List ℕ) → P (text_in s) → P (v (Field.text t)) → P (with (field_in s) (value_in s) v (Field.text t))
text_with P t s v new old = split (same (Field.text t) (field_in s)) (λ e. rw (e, ← value_text t s e) new) (λ e. rw e old)

-- ---- a named choice is never the barred code
pub port_kept : (s : Setting) (v : Field → List ℕ) → get_or (v Field.midi1_port) 0 0 ≢ no_port → get_or (with (field_in s) (value_in s) v Field.midi1_port) 0 0 ≢ no_port
unfolding same decided
port_kept (Setting.flag f b) v h = h
port_kept (Setting.number n x) v h = h
port_kept (Setting.pair p x) v h = h
port_kept (Setting.ui_hint x) v h = h
port_kept (Setting.midi1_port p) v h = no_code_port p
port_kept (Setting.direction d) v h = h
port_kept (Setting.device_manufacturer a b c) v h = h
port_kept (Setting.software_version a b c d) v h = h
port_kept (Setting.text t x) v h = h

pub direction_kept : (s : Setting) (v : Field → List ℕ) → get_or (v Field.direction) 0 0 ≢ no_direction → get_or (with (field_in s) (value_in s) v Field.direction) 0 0 ≢ no_direction
unfolding same decided
direction_kept (Setting.flag f b) v h = h
direction_kept (Setting.number n x) v h = h
direction_kept (Setting.pair p x) v h = h
direction_kept (Setting.ui_hint x) v h = h
direction_kept (Setting.midi1_port p) v h = h
direction_kept (Setting.direction d) v h = no_code_direction d
direction_kept (Setting.device_manufacturer a b c) v h = h
direction_kept (Setting.software_version a b c d) v h = h
direction_kept (Setting.text t x) v h = h
