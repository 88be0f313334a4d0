-- The slots of a kind among the slots of all kinds. Closed by induction on the kinds.
use Rattle.std.specs.Prelude.{Some}
use Prim.Native.Nat.{ℕ, ◌+◌, ◌≤◌, ◌<◌}
use mathlib.Core.Path.{◌≡◌, ◌∙◌}
use mathlib.Core.Bool.{Bool, true, false}
use mathlib.Core.List.{List, [], ◌∷◌}
use native.Mathlib.Nat.{zero-add}
use native.Mathlib.Omega.{arith}
use lib.Dec.{eqb}
use lib.ListN.{length, get_or-eq_default, get_or-append}
use lib.Seq.{get_or-append-add}
use Rattle.laws.specs.Pick.{pick}
use Rattle.laws.specs.Lists.{each}
use Rattle.laws.proofs.Pick.{never}
use Rattle.slots.specs.Slots.{Slot}
use Rattle.kinds.specs.declared.kind.Kind.{Kind}
use Rattle.kinds.specs.Layout.{Part, layout, kinds, among}
use Rattle.kinds.proofs.Rows.{status_kind}
use Rattle.table.specs.declared.places.Place.{Place}
use Rattle.table.specs.Places.{PlaceIs, slot_at, no_slot, slots_of_kinds, every_slot}
use Rattle.table.specs.Rows.{slots_before}

pub past : (t : List (Slot Part)) {i : ℕ} {r : Place} → length t ≤ i → PlaceIs no_slot r → PlaceIs (slot_at t i) r
past t l p = rw (get_or-eq_default t no_slot l) p

module _ (k : Kind) (i : ℕ) (h : i < length (layout k).fields) where
  slot_among : (ks : List Kind) → among ks (layout k).status ≡ Some k → slot_at (slots_of_kinds ks) (slots_before ks k + i) ≡ slot_at (layout k).fields i
  unfolding among slots_before each
  slot_among [] q = never (cc)
  slot_among (j ∷ js) q = go (eqb (layout k).status (layout j).status) q (slot_among js)
    where
      go : (b : Bool) → pick b (Some j) (among js (layout k).status) ≡ Some k → (among js (layout k).status ≡ Some k → slot_at (slots_of_kinds js) (slots_before js k + i) ≡ slot_at (layout k).fields i) → slot_at (slots_of_kinds (j ∷ js)) (pick b 0 (length (layout j).fields + slots_before js k) + i) ≡ slot_at (layout k).fields i
      go true a ih = let w : j ≡ k = cc in rw (w, zero-add i) (get_or-append (layout k).fields (slots_of_kinds js) no_slot i h)
      go false a ih =
          let e : length (layout j).fields + slots_before js k + i ≡ length (layout j).fields + (slots_before js k + i) = omega arith in
          rw e (get_or-append-add (layout j).fields (slots_of_kinds js) (slots_before js k + i) no_slot ∙ ih a)

  -- what the code found, by the number that it was given
  pub place_told : {r : Place} {n : ℕ} → n ≡ slots_before kinds k → PlaceIs (slot_at every_slot (n + i)) r → PlaceIs (slot_at (layout k).fields i) r
  place_told e p = rw (e, slot_among kinds (status_kind k)) at p
