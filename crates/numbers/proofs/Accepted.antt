-- How the code reaches each case of a record from numbers, and the bounds of numbers that fit. Closed by the tests that lead there.
use Rattle.std.specs.Prelude.{Ok, Err}
use Prim.Native.Nat.{ℕ, ◌^◌, ◌<◌}
use mathlib.Core.Path.{◌≡◌, refl}
use lib.Dec.{ltb}
use mathlib.Core.Bool.{true, false}
use mathlib.Core.List.{List, [], ◌∷◌}
use borrow.Author.Tests.{ltb-true, eq-eqb, ne_eqb}
use Rattle.laws.proofs.Pick.{both_left, both_right}
use Rattle.laws.specs.Pick.{both}
use Rattle.laws.specs.Lists.{each}
use Rattle.slots.specs.Slots.{Slot, fits}
use Rattle.kinds.specs.declared.kind.Kind.{Kind}
use Rattle.kinds.specs.declared.refusal.Refusal.TheVariants.{NumberTooLarge}
use Rattle.kinds.specs.Fields.{same, decided, start, part_of}
use Rattle.kinds.specs.Layout.{Part, Body, fixed, texts, layout, most_in, has_text, kind_of}
use Rattle.table.specs.declared.rows.Row.{Row}
use Rattle.table.specs.Rows.{RowIs, table_row}
use Rattle.records.specs.Records.{record_of, lookup, first_part}
use Rattle.numbers.specs.declared.Numbers.{Numbers}
use Rattle.numbers.specs.FromNumbers.{spread, values_from, is_record, from_kind, other_kind, from_own}

module _ (k : Kind) (c : Numbers) where
  pub from_refused : is_record k c ≡ false → from_kind k c ≡ Err NumberTooLarge
  unfolding from_kind
  from_refused h = rw h

  pub from_whole : is_record k c ≡ true → from_kind k c ≡ Ok (record_of k c.packets (values_from k c))
  unfolding from_kind
  from_whole h = rw h

  -- of the status that is wanted, or of another
  pub own_status : c.status ≡ (layout k).status → from_own k c ≡ from_kind k c
  own_status s = rw (eq-eqb _ _ s)

  pub other_status : (c.status ≡ (layout k).status → ⊥) → from_own k c ≡ Err (other_kind (kind_of c.status))
  other_status n = rw (ne_eqb _ _ n)

-- to unfold this is to unfold what computes the values of numbers at a kind
unfoldable pub computed : Unit {0}
unfolding layout each first_part spread lookup same decided start part_of record_of fits both
computed = tt

-- ---- each number of a slot is below its bound
unfoldable pub Small : List (Slot Part) → (Part → ℕ) → Type 0
Small [] v = Unit {0}
Small (s ∷ ss) v = (v s.key < 2 ^ s.span) × Small ss v

pub fits_small : (t : List (Slot Part)) (v : Part → ℕ) → fits t v ≡ true → Small t v
unfolding fits Small
fits_small [] v h = tt
fits_small (s ∷ ss) v h = (ltb-true _ _ (both_left _ _ h), fits_small ss v (both_right _ _ h))

-- a kind has text where its row has more than one packet
pub text_most : (b : Body) → ltb 1 (most_in b) ≡ has_text b
text_most fixed = refl
text_most (texts t from) = refl

pub text_row : (k : Kind) {r : Row} → RowIs (table_row k) r → ltb 1 r.most_packets ≡ has_text (layout k).body
text_row k q = rw q.most (text_most (layout k).body)
