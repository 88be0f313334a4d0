-- The numbers of the slots are those of the table's fields. Closed by computing the table at each kind, and induction on its slots.
use Prim.Native.Nat.{ℕ, suc, ◌^◌, ◌≤◌}
use mathlib.Core.Path.{◌≡◌, refl, sym, ap, ◌∙◌}
use mathlib.Core.Bool.{Bool}
use mathlib.Core.List.{List, [], ◌∷◌, ◌++◌, append_assoc}
use native.Mathlib.Nat.{add-zero}
use native.Mathlib.Omega.{arith}
use lib.ListN.{length, take, length-append}
use lib.Seq.{get_or-append-add}
use lib.Dec.{ltb}
use Rattle.laws.specs.Lists.{map}
use Rattle.laws.proofs.Pick.{picked}
use Rattle.slots.specs.Slots.{Slot, fits}
use Rattle.fields.specs.Puts.{put_ins}
use Rattle.kinds.specs.declared.kind.Kind.{Kind}
use Rattle.kinds.specs.declared.kind.Kind.TheVariants as K
use Rattle.kinds.specs.Layout.{Part, layout, parts}
use Rattle.table.specs.declared.rows.Row.{Row}
use Rattle.table.specs.Rows.{RowIs, table_row}
use Rattle.table.specs.Places.{slot_at, no_slot}
use Rattle.table.proofs.RowLaws.{row_small}
use Rattle.numbers.specs.declared.Numbers.{Numbers}
use Rattle.numbers.specs.FromNumbers.{within, values_from, slot_numbers}
use Rattle.numbers.specs.BySlot.{put_from}
use Rattle.numbers.proofs.Within.{within_first}
use Rattle.numbers.proofs.Accepted.{computed}

eleven : (k : Kind) (c : Numbers) → length (slot_numbers k c) ≡ 11
unfolding slot_numbers
eleven k c = picked (λ (xs : List ℕ). length xs ≡ 11) (ltb 9 (length (layout k).fields)) _ _ (λ e. refl) (λ e. refl)

-- no kind has more slots than are put together
pub few : (k : Kind) (c : Numbers) {r : Row} {ns : List ℕ} → RowIs (table_row k) r → ns ≡ slot_numbers k c → r.slots ≤ length ns
few k c s e = rw (e, eleven k c, s.slots) (row_small k).slots

-- ---- one number a slot
-- the numbers of some slots, and one above the largest of each
abbrev slot_parts : List (Slot Part) → (Part → ℕ) → List ℕ
slot_parts t v = map (λ s. v s.key) t

abbrev limits_of : List (Slot Part) → List ℕ
limits_of t = map (λ s. 2 ^ s.span) t

slots_are : (k : Kind) (c : Numbers) → take (length (layout k).fields) (slot_numbers k c) ≡ slot_parts (layout k).fields (parts (values_from k c))
unfolding computed map slot_numbers
slots_are K.EndpointDiscovery c = refl
slots_are K.EndpointInfo c = refl
slots_are K.DeviceIdentity c = refl
slots_are K.EndpointName c = refl
slots_are K.ProductInstanceId c = refl
slots_are K.FunctionBlockInfo c = refl
slots_are K.FunctionBlockName c = refl

-- ---- put into words
put_parts : (t u : List (Slot Part)) (v : Part → ℕ) (ws : List ℕ) → put_from (t ++ u) (length t) (slot_parts u v) ws ≡ put_ins u v ws
unfolding put_from put_ins map
put_parts t [] v ws = refl
put_parts t (s ∷ u) v ws =
    let here : slot_at (t ++ (s ∷ u)) (length t) ≡ s = rw (add-zero (length t)) at (get_or-append-add t (s ∷ u) 0 no_slot) in
    let next : length (t ++ (s ∷ [])) ≡ suc (length t) = simp length-append (omega arith) in
    let rest : put_from (t ++ (s ∷ u)) (suc (length t)) (slot_parts u v) ws ≡ put_ins u v ws = rw (append_assoc t (s ∷ []) u, next) at (put_parts (t ++ (s ∷ [])) u v ws) in
    rw (here, rest)

pub slots_put : (k : Kind) (c : Numbers) (ws : List ℕ) → put_from (layout k).fields 0 (take (table_row k).slots (slot_numbers k c)) ws ≡ put_ins (layout k).fields (parts (values_from k c)) ws
slots_put k c ws = rw (slots_are k c) (put_parts [] (layout k).fields (parts (values_from k c)) ws)

-- ---- held to their limits
within-fits : (t : List (Slot Part)) (v : Part → ℕ) → within (slot_parts t v) (limits_of t) ≡ fits t v
unfolding within fits map
within-fits [] v = refl
within-fits (s ∷ t) v = rw (within-fits t v)

limits_length : (t : List (Slot Part)) → length (limits_of t) ≡ length t
unfolding map
limits_length [] = refl
limits_length (s ∷ t) = ap suc (limits_length t)

abbrev pub limits : Kind → List ℕ
limits k = limits_of (layout k).fields

in_range : (k : Kind) (c : Numbers) → within (slot_numbers k c) (limits k) ≡ fits (layout k).fields (parts (values_from k c))
in_range k c =
    sym (within_first (slot_numbers k c) (limits k)) ∙ rw (limits_length (layout k).fields, slots_are k c) (within-fits (layout k).fields (parts (values_from k c)))

pub range_told : (k : Kind) (c : Numbers) {j : Kind} {ns : List ℕ} {r : Bool} → j ≡ k → ns ≡ slot_numbers j c → r ≡ within ns (limits k) → r ≡ fits (layout j).fields (parts (values_from j c))
range_told k c e q w = w ∙ rw (q, e) (in_range k c)
