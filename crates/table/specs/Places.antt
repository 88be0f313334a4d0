-- Where a slot of a table stands, by its number in the table's order.
use Rattle.std.specs.Prelude.{ℕ, ◌≡◌, List, get_or}
use Rattle.laws.specs.Lists.{each}
use Rattle.slots.specs.Slots.{Slot}
use Rattle.counts.specs.Counts.{word}
use Rattle.kinds.specs.Fields.{Field}
use Rattle.kinds.specs.declared.kind.Kind.{Kind}
use Rattle.kinds.specs.Layout.{Part, layout, kinds}
use Rattle.table.specs.declared.places.Place.{Place}

-- past the last slot: one of no bits
abbrev pub no_slot : Slot Part
no_slot = record { word = 0; at = 0; span = 0; key = record { field = Field.ui_hint; index = 0 } }

abbrev pub slot_at : List (Slot Part) → ℕ → Slot Part
slot_at t i = get_or t i no_slot

-- the slots of some kinds, one kind after another, and of all
abbrev pub slots_of_kinds : List Kind → List (Slot Part)
slots_of_kinds ks = each (λ k. (layout k).fields) ks

abbrev pub every_slot : List (Slot Part)
every_slot = slots_of_kinds kinds

abbrev pub place_at : ℕ → ℕ → ℕ → Place
place_at w low width = record { word = word w; bits = record { low = low; width = width } }

pub record PlaceIs (s : Slot Part) (r : Place) : Type 0 where
  pub word : r.word.0 ≡ s.word
  pub low : r.bits.low ≡ s.at
  pub width : r.bits.width ≡ s.span
