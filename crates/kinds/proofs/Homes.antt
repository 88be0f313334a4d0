-- A field is of one kind, and every other kind lacks it. Closed by computing the table once, row by row.
use Rattle.std.specs.Prelude.{Some}
use Prim.Native.Nat.{ℕ}
use mathlib.Core.Path.{◌≡◌, refl, sym, ap, ◌∙◌}
use mathlib.Core.Bool.{Bool, true, false}
use mathlib.Core.List.{List, [], ◌∷◌}
use lib.Dec.{eqb}
use borrow.Author.Tests.{eqb-true}
use Rattle.laws.specs.Pick.{pick, both}
use Rattle.laws.proofs.Pick.{true_false, both_left, both_right, split}
use Rattle.slots.specs.Slots.{Slot, those}
use Rattle.kinds.specs.declared.kind.Kind.{Kind}
use Rattle.kinds.specs.Fields.{Field, same, decided}
use Rattle.kinds.specs.Layout.{Part, layout, kinds, kind_of, none, slots_of}
use Rattle.kinds.proofs.Rows.{status_kind, every_kind, at_kind}
use Rattle.kinds.proofs.Fields.{same_true}

-- ---- a test that each field of a table passes, a field of the table passes
unfoldable pub each_field : (Field → Bool) → List (Slot Part) → Bool
each_field p [] = true
each_field p (s ∷ ss) = both (p s.key.field) (each_field p ss)

pub each-field : (p : Field → Bool) (t : List (Slot Part)) (f : Field) → each_field p t ≡ true → none (slots_of f t) ≡ false → p f ≡ true
unfolding each_field those
each-field p [] f h e = true_false e
each-field p (s ∷ ss) f h e = go (same s.key.field f) refl e (each-field p ss f (both_right _ _ h))
  where
    go : (b : Bool) → same s.key.field f ≡ b → none (pick b (s ∷ slots_of f ss) (slots_of f ss)) ≡ false → (none (slots_of f ss) ≡ false → p f ≡ true) → p f ≡ true
    go true q e' ih = ap p (sym (same_true _ _ q)) ∙ both_left _ _ h
    go false q e' ih = ih e'

-- ---- the status of the first of some kinds that has a field
home : List Kind → Field → ℕ
home [] f = 0
home (k ∷ ks) f = pick (none (slots_of f (layout k).fields)) (home ks f) (layout k).status

rows_home : (k : Kind) → each_field (λ f. eqb (home kinds f) (layout k).status) (layout k).fields ≡ true
unfolding every_kind each_field home layout those same decided both
rows_home k = at_kind (λ j. each_field (λ f. eqb (home kinds f) (layout j).status) (layout j).fields) refl k

home_is : (k : Kind) (f : Field) → none (slots_of f (layout k).fields) ≡ false → home kinds f ≡ (layout k).status
home_is k f h = eqb-true _ _ (each-field (λ g. eqb (home kinds g) (layout k).status) (layout k).fields f (rows_home k) h)

-- a status is of one kind
pub one_status : (j k : Kind) → (layout j).status ≡ (layout k).status → j ≡ k
one_status j k e = let q : Some j ≡ Some k = sym (status_kind j) ∙ ap kind_of e ∙ status_kind k in cc

-- two kinds that have a field are one
one_kind : (j k : Kind) (f : Field) → none (slots_of f (layout j).fields) ≡ false → none (slots_of f (layout k).fields) ≡ false → j ≡ k
one_kind j k f a b = one_status j k (sym (home_is j f a) ∙ home_is k f b)

-- so every other kind lacks it
pub elsewhere : (k j : Kind) (f : Field) → none (slots_of f (layout k).fields) ≡ false → (j ≡ k → ⊥) → none (slots_of f (layout j).fields) ≡ true
elsewhere k j f h n = split (none (slots_of f (layout j).fields)) (λ e. e) (λ e. absurd (n (one_kind j k f e h)))
