-- What a kind's row tells of its packets, its text and its fields. Closed by cases on the body, and by tests computed over every row.
use Prim.Native.Nat.{ℕ, ◌-◌, ◌≤◌, ◌<◌}
use mathlib.Core.Path.{◌≡◌, refl, sym, ap, ◌∙◌}
use mathlib.Core.Bool.{Bool, true, false}
use mathlib.Core.List.{List, [], ◌∷◌}
use native.Mathlib.Omega.{arith}
use lib.ListN.{get_or}
use lib.Dec.{ltb, leb, eqb}
use borrow.Author.Tests.{lt-ltb, le-ltb, leb-true, eqb-true}
use Rattle.laws.specs.Pick.{pick, both}
use Rattle.laws.specs.Lists.{map}
use Rattle.laws.proofs.Pick.{true_false, both_left, both_right}
use Rattle.slots.specs.Slots.{Slot, those}
use Rattle.kinds.specs.declared.kind.Kind.{Kind}
use Rattle.kinds.specs.declared.kind.Kind.TheVariants as K
use Rattle.kinds.specs.Choices.{no_port, no_direction}
use Rattle.kinds.specs.Fields.{Field, same, decided, start}
use Rattle.kinds.specs.Layout.{Part, Body, fixed, texts, layout, capacity_in, capacity_of, most_in, has_text, none, slots_of, held, values_in, right_body}
use Rattle.kinds.proofs.Rows.{every_kind, at_kind, row_right}
use Rattle.kinds.proofs.Homes.{one_status}
use Rattle.table.specs.declared.rows.Row.{Row}
use Rattle.table.specs.Rows.{RowIs, offset_in, table_row}
use Rattle.standard.specs.Reading.{code_at}
use Rattle.reading.specs.Bodies.{offset_of}

none_nil : {A : Type 0} (xs : List A) → none xs ≡ true → xs ≡ []
none_nil [] e = refl
none_nil (x ∷ xs) e = true_false (sym e)

-- ---- a body
one_fixed : (b : Body) → most_in b ≡ 1 → has_text b ≡ false
one_fixed fixed e = refl
one_fixed (texts t from) e = absurd (omega arith)

several_texts : (b : Body) → (most_in b ≡ 1 → ⊥) → has_text b ≡ true
several_texts fixed n = absurd (n refl)
several_texts (texts t from) n = refl

pub fixed_capacity : (b : Body) → has_text b ≡ false → capacity_in b ≡ 0
fixed_capacity fixed e = refl
fixed_capacity (texts t from) e = true_false e

pub fixed_most : (b : Body) → has_text b ≡ false → most_in b ≡ 1
fixed_most fixed e = refl
fixed_most (texts t from) e = true_false e

pub text_most : (b : Body) → has_text b ≡ true → most_in b ≡ 64
text_most fixed e = true_false (sym e)
text_most (texts t from) e = refl

left : (b : Body) (t : List (Slot Part)) → right_body b t ≡ true → has_text b ≡ true → 14 - offset_in b ≡ capacity_in b
unfolding right_body
left fixed t r e = true_false (sym e)
left (texts x from) t r e = let l = leb-true 2 from (both_left _ _ (both_left _ _ r)) in omega arith

-- ---- a kind, by the row that the code was given
module _ (k : Kind) {r : Row} (s : RowIs (table_row k) r) where
  pub one_told : r.most_packets ≡ 1 → has_text (layout k).body ≡ false
  one_told e = one_fixed (layout k).body (sym s.most ∙ e)

  pub several_told : (r.most_packets ≡ 1 → ⊥) → has_text (layout k).body ≡ true
  several_told n = several_texts (layout k).body (λ e. n (s.most ∙ e))

-- ---- a kind
offset_tested : (k : Kind) → leb (offset_of k) 1 ≡ true
unfolding every_kind layout both
offset_tested k = at_kind (λ j. leb (offset_of j) 1) refl k

pub offset_few : (k : Kind) → offset_of k ≤ 1
offset_few k = leb-true _ _ (offset_tested k)

pub offset_one : (k : Kind) {n : ℕ} → n ≡ offset_of k → (n ≡ 0 → ⊥) → 1 ≡ offset_of k
offset_one k e h = let l = offset_few k in omega arith

pub text_capacity : (k : Kind) → has_text (layout k).body ≡ true → 14 - offset_of k ≡ capacity_of k
text_capacity k e = left (layout k).body (layout k).fields (row_right k).body e

-- it has none of the choices that can be refused
abbrev pub choiceless : Kind → Bool
choiceless k = both (none (slots_of Field.midi1_port (layout k).fields)) (none (slots_of Field.direction (layout k).fields))

starts : (k : Kind) (ws : List ℕ) (f : Field) → none (slots_of f (layout k).fields) ≡ true → code_at k ws f ≡ get_or (start f) 0 0
unfolding values_in held map
starts k ws f e = rw (none_nil (slots_of f (layout k).fields) e)

module _ (k : Kind) (ws : List ℕ) (e : choiceless k ≡ true) where
  pub port_passed : eqb (code_at k ws Field.midi1_port) no_port ≡ false
  unfolding start
  port_passed = ap (λ (x : ℕ). eqb x no_port) (starts k ws Field.midi1_port (both_left _ _ e))

  pub direction_passed : eqb (code_at k ws Field.direction) no_direction ≡ false
  unfolding start
  direction_passed = ap (λ (x : ℕ). eqb x no_direction) (starts k ws Field.direction (both_right _ _ e))

-- ---- no kind has both text and a choice
abbrev free_test : Kind → Bool
free_test k = pick (has_text (layout k).body) (choiceless k) true

free_tested : (k : Kind) → free_test k ≡ true
unfolding every_kind layout those same decided both
free_tested k = at_kind free_test refl k

pub text_free : (k : Kind) → has_text (layout k).body ≡ true → choiceless k ≡ true
text_free k e = rw e at (free_tested k)

-- ---- only a block name has text that starts later, and no other kind with text has fields
abbrev late_test : Kind → Bool
late_test k =
    pick (ltb 0 (offset_of k)) (eqb (layout k).status (layout K.FunctionBlockName).status) (pick (has_text (layout k).body) (none (layout k).fields) true)

late_tested : (k : Kind) → late_test k ≡ true
unfolding every_kind layout both
late_tested k = at_kind late_test refl k

pub late_name : (k : Kind) → 0 < offset_of k → k ≡ K.FunctionBlockName
late_name k h = one_status k K.FunctionBlockName (eqb-true _ _ (rw (lt-ltb 0 (offset_of k) h) at (late_tested k)))

pub text_fields : (k : Kind) → offset_of k ≤ 0 → has_text (layout k).body ≡ true → (layout k).fields ≡ []
text_fields k h e = none_nil _ (rw (le-ltb 0 (offset_of k) h, e) at (late_tested k))
