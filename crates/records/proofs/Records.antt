-- A record is of the kind, the packets and the values that it was made of. Closed by cases on the kind, and the laws of the choices.
use Rattle.std.specs.Prelude.{Result, Ok, Err}
use Prim.Native.Nat.{ℕ, ◌≤◌}
use mathlib.Core.Path.{◌≡◌, refl, sym, ap, ◌∙◌}
use mathlib.Core.Logic.{◌≢◌}
use mathlib.Core.Bool.{Bool, true, false}
use mathlib.Core.List.{List, [], ◌∷◌}
use native.Mathlib.Omega.{arith}
use lib.ListN.{get_or}
use lib.Dec.{eqb}
use Rattle.laws.specs.Pick.{pick}
use Rattle.laws.specs.Lists.{map, each}
use Rattle.laws.proofs.Pick.{never, picked}
use Rattle.kinds.specs.declared.kind.Kind.{Kind}
use Rattle.kinds.specs.declared.kind.Kind.TheVariants as K
use Rattle.kinds.specs.declared.refusal.Refusal.{Refusal}
use Rattle.kinds.specs.Choices.{no_port, no_direction, hint_code, hint_of, port_code, port_of, direction_code, direction_of}
use Rattle.kinds.specs.Fields.{Field, same, decided, bit, start}
use Rattle.kinds.specs.Layout.{layout, most_of}
use Rattle.kinds.proofs.Fields.{same_true}
use Rattle.kinds.proofs.Codes.{bit_flag, hint_back, port_back, direction_back, no_code_port, no_code_direction}
use Rattle.records.specs.declared.message.Message.{Message}
use Rattle.records.specs.declared.message.Message.TheVariants as M
use Rattle.records.specs.Records.{Valued, kind_in, packets_in, record_of, fields_in, lookup, values_of, first_part, in_order}

-- the record of its own values
pub record_back : (m : Message) → record_of (kind_in m) (packets_in m) (values_of m) ≡ m
unfolding record_of fields_in lookup same decided
record_back (M.EndpointDiscovery e) = simp bit_flag
record_back (M.EndpointInfo e) = simp bit_flag
record_back (M.DeviceIdentity e) = refl
record_back (M.EndpointName n) = refl
record_back (M.ProductInstanceId n) = refl
record_back (M.FunctionBlockInfo e) = simp (bit_flag, hint_back, port_back, direction_back)
record_back (M.FunctionBlockName b n) = refl

-- a record is of the kind and the packets that it was made of
pub record_kind : (k : Kind) (n : ℕ) (v : Field → List ℕ) → kind_in (record_of k n v) ≡ k
unfolding record_of
record_kind K.EndpointDiscovery n v = refl
record_kind K.EndpointInfo n v = refl
record_kind K.DeviceIdentity n v = refl
record_kind K.EndpointName n v = refl
record_kind K.ProductInstanceId n v = refl
record_kind K.FunctionBlockInfo n v = refl
record_kind K.FunctionBlockName n v = refl

pub record_packets : (k : Kind) (n : ℕ) (v : Field → List ℕ) → 1 ≤ n → n ≤ most_of k → packets_in (record_of k n v) ≡ n
unfolding record_of layout
record_packets K.EndpointDiscovery n v a b = omega arith
record_packets K.EndpointInfo n v a b = omega arith
record_packets K.DeviceIdentity n v a b = omega arith
record_packets K.EndpointName n v a b = refl
record_packets K.ProductInstanceId n v a b = refl
record_packets K.FunctionBlockInfo n v a b = omega arith
record_packets K.FunctionBlockName n v a b = refl

-- ---- what a record keeps of a field's value
unfoldable pub again : Field → List ℕ → List ℕ
again (Field.flag f) v = bit (eqb (get_or v 0 0) 1) ∷ []
again (Field.number n) v = get_or v 0 0 ∷ []
again (Field.pair p) v = get_or v 0 0 ∷ []
again Field.ui_hint v = hint_code (hint_of (get_or v 0 0)) ∷ []
again Field.midi1_port v = port_code (port_of (get_or v 0 0)) ∷ []
again Field.direction v = direction_code (direction_of (get_or v 0 0)) ∷ []
again Field.device_manufacturer v = get_or v 0 0 ∷ get_or v 1 0 ∷ get_or v 2 0 ∷ []
again Field.software_version v = get_or v 0 0 ∷ get_or v 1 0 ∷ get_or v 2 0 ∷ get_or v 3 0 ∷ []
again (Field.text t) v = v

-- a record has the table's fields, in its order
kept : (Field → List ℕ) → Field → Valued
kept w f = record { field = f; value = w f }

fields_kept : (k : Kind) (n : ℕ) (v : Field → List ℕ) → fields_in (record_of k n v) ≡ map (kept (λ f. again f (v f))) (in_order k)
unfolding fields_in record_of map each first_part layout again kept
fields_kept K.EndpointDiscovery n v = refl
fields_kept K.EndpointInfo n v = refl
fields_kept K.DeviceIdentity n v = refl
fields_kept K.EndpointName n v = refl
fields_kept K.ProductInstanceId n v = refl
fields_kept K.FunctionBlockInfo n v = refl
fields_kept K.FunctionBlockName n v = refl

-- ---- a value looked up
unfoldable pub is_in : Field → List Field → Bool
is_in g [] = false
is_in g (f ∷ fs) = pick (same f g) true (is_in g fs)

lookup_kept : (w : Field → List ℕ) (fs : List Field) (g : Field) → lookup (map (kept w) fs) g ≡ pick (is_in g fs) (w g) (start g)
unfolding lookup map is_in kept
lookup_kept w [] g = refl
lookup_kept w (f ∷ fs) g = go (same f g) refl (lookup_kept w fs g)
  where
    go : (b : Bool) → same f g ≡ b → lookup (map (kept w) fs) g ≡ pick (is_in g fs) (w g) (start g) → pick b (w f) (lookup (map (kept w) fs) g) ≡ pick (pick b true (is_in g fs)) (w g) (start g)
    go true q ih = ap w (same_true f g q)
    go false q ih = ih

pub values_kept : (k : Kind) (n : ℕ) (v : Field → List ℕ) (g : Field) → values_of (record_of k n v) g ≡ pick (is_in g (in_order k)) (again g (v g)) (start g)
values_kept k n v g = ap (λ (xs : List Valued). lookup xs g) (fields_kept k n v) ∙ lookup_kept (λ f. again f (v f)) (in_order k) g

-- ---- its choices are named ones: kept from a name, or not the kind's
own_kept : (m : Message) (g : Field) → values_of m g ≡ pick (is_in g (in_order (kind_in m))) (again g (values_of m g)) (start g)
own_kept m g = ap (λ (x : Message). values_of x g) (sym (record_back m)) ∙ values_kept (kind_in m) (packets_in m) (values_of m) g

pub port_named : (m : Message) → get_or (values_of m Field.midi1_port) 0 0 ≢ no_port
unfolding again start
port_named m =
    rw (own_kept m Field.midi1_port)
    (picked (λ (v : List ℕ). get_or v 0 0 ≢ no_port) (is_in Field.midi1_port (in_order (kind_in m))) _ _ (λ i. no_code_port (port_of (get_or (values_of m Field.midi1_port) 0 0))) (λ i q. omega arith))

pub direction_named : (m : Message) → get_or (values_of m Field.direction) 0 0 ≢ no_direction
unfolding again start
direction_named m =
    rw (own_kept m Field.direction)
    (picked (λ (v : List ℕ). get_or v 0 0 ≢ no_direction) (is_in Field.direction (in_order (kind_in m))) _ _ (λ i. no_code_direction (direction_of (get_or (values_of m Field.direction) 0 0))) (λ i q. omega arith))

-- ---- an answer that refuses is no other
pub refused-message : {r : Refusal} {m : Message} → ◌≡◌ {A = Result Message Refusal} (Err r) (Ok m) → ⊥
refused-message e = never (cc)

pub refused_done : {r : Refusal} → ◌≡◌ {A = Result (Unit {0}) Refusal} (Err r) (Ok tt) → ⊥
refused_done e = never (cc)
