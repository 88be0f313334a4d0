-- From the words' slots to the record's values and back. Proved by computing the table for each kind, and the laws of the codes.
use Prim.Native.Nat.{ℕ}
use mathlib.Core.Path.{◌≡◌, refl, sym, ap, ◌∙◌, subst}
use mathlib.Core.Bool.{true, false}
use mathlib.Core.Logic.{◌≢◌}
use mathlib.Core.List.{List, [], ◌∷◌}
use native.Mathlib.Omega.{arith}
use lib.ListN.{get_or}
use lib.Dec.{eqb}
use borrow.Author.Tests.{ne_eqb}
use Rattle.laws.specs.Pick.{differ}
use Rattle.laws.specs.Lists.{map}
use Rattle.laws.proofs.Pick.{passed, true_false, eq_differ, differ_false}
use Rattle.slots.specs.Slots.{Slot, get, those, reads}
use Rattle.slots.proofs.Slots.{get_small}
use Rattle.kinds.specs.declared.kind.Kind.{Kind}
use Rattle.kinds.specs.declared.kind.Kind.TheVariants as K
use Rattle.kinds.specs.Choices.{no_port, no_direction}
use Rattle.kinds.specs.Fields.{Field, same, decided, start, part_of, joined}
use Rattle.kinds.specs.Layout.{Part, layout, parts, held, values_in}
use Rattle.kinds.proofs.Codes.{flag_bit, code_hint, code_port, code_direction, pair_low, pair_high, pair_back}
use Rattle.records.specs.declared.message.Message.{Message}
use Rattle.records.specs.Records.{kind_in, packets_in, record_of, fields_in, lookup, values_of}
use Rattle.records.proofs.Records.{record_back, port_named, direction_named}
use Rattle.standard.specs.Heads.{packet_from}
use Rattle.standard.specs.Reading.{other_field, code_at, values_at}

-- words hold the values that are read from them
pub values_hold : (k : Kind) (ws : List ℕ) → reads (layout k).fields (parts (values_at k ws)) ws
unfolding reads layout values_in those map held joined same decided part_of
values_hold K.EndpointDiscovery ws = (refl, (refl, (refl, (refl, (refl, (refl, (refl, tt)))))))
values_hold K.EndpointInfo ws = (refl, (refl, (refl, (refl, (refl, (refl, (refl, (refl, tt))))))))
values_hold K.DeviceIdentity ws = (refl, (refl, (refl, (pair_low _ _ (get_small _ ws), (pair_high _ _ (get_small _ ws), (pair_low _ _ (get_small _ ws), (pair_high _ _ (get_small _ ws), (refl, (refl, (refl, (refl, tt)))))))))))
values_hold K.EndpointName ws = tt
values_hold K.ProductInstanceId ws = tt
values_hold K.FunctionBlockInfo ws = (refl, (refl, (refl, (refl, (refl, (refl, (refl, (refl, (refl, tt)))))))))
values_hold K.FunctionBlockName ws = (refl, tt)

-- words without a bad port or direction hold the values of the record read from them
pub record_holds : (k : Kind) (n : ℕ) (ws : List ℕ) → code_at k ws Field.midi1_port ≢ no_port → code_at k ws Field.direction ≢ no_direction → reads (layout k).fields (parts (values_of (record_of k n (values_at k ws)))) ws
unfolding reads layout record_of values_in those map held joined same decided part_of fields_in lookup
record_holds K.EndpointDiscovery n ws p d = (refl, (refl, (flag_bit _ (get_small _ ws), (flag_bit _ (get_small _ ws), (flag_bit _ (get_small _ ws), (flag_bit _ (get_small _ ws), (flag_bit _ (get_small _ ws), tt)))))))
record_holds K.EndpointInfo n ws p d = (refl, (refl, (flag_bit _ (get_small _ ws), (flag_bit _ (get_small _ ws), (flag_bit _ (get_small _ ws), (flag_bit _ (get_small _ ws), (flag_bit _ (get_small _ ws), (refl, tt))))))))
record_holds K.DeviceIdentity n ws p d = (refl, (refl, (refl, (pair_low _ _ (get_small _ ws), (pair_high _ _ (get_small _ ws), (pair_low _ _ (get_small _ ws), (pair_high _ _ (get_small _ ws), (refl, (refl, (refl, (refl, tt)))))))))))
record_holds K.EndpointName n ws p d = tt
record_holds K.ProductInstanceId n ws p d = tt
record_holds K.FunctionBlockInfo n ws p d = (flag_bit _ (get_small _ ws), (refl, (code_hint _ (get_small _ ws), (code_port _ (get_small _ ws) p, (code_direction _ (get_small _ ws) d, (refl, (refl, (refl, (refl, tt)))))))))
record_holds K.FunctionBlockName n ws p d = (refl, tt)

module _ (v : Field → List ℕ) (ws : List ℕ) where
  -- words that hold some values are read as the record of these values
  values_record : (k : Kind) (n : ℕ) → reads (layout k).fields (parts v) ws → record_of k n (values_at k ws) ≡ record_of k n v
  unfolding reads layout record_of values_in those map held joined same decided part_of
  values_record K.EndpointDiscovery n h = simp (h.0, h.1.0, h.1.1.0, h.1.1.1.0, h.1.1.1.1.0, h.1.1.1.1.1.0, h.1.1.1.1.1.1.0)
  values_record K.EndpointInfo n h = simp (h.0, h.1.0, h.1.1.0, h.1.1.1.0, h.1.1.1.1.0, h.1.1.1.1.1.0, h.1.1.1.1.1.1.0, h.1.1.1.1.1.1.1.0)
  values_record K.DeviceIdentity n h = simp (h.0, h.1.0, h.1.1.0, h.1.1.1.0, h.1.1.1.1.0, h.1.1.1.1.1.0, h.1.1.1.1.1.1.0, h.1.1.1.1.1.1.1.0, h.1.1.1.1.1.1.1.1.0, h.1.1.1.1.1.1.1.1.1.0, h.1.1.1.1.1.1.1.1.1.1.0, pair_back)
  values_record K.EndpointName n h = refl
  values_record K.ProductInstanceId n h = refl
  values_record K.FunctionBlockInfo n h = simp (h.0, h.1.0, h.1.1.0, h.1.1.1.0, h.1.1.1.1.0, h.1.1.1.1.1.0, h.1.1.1.1.1.1.0, h.1.1.1.1.1.1.1.0, h.1.1.1.1.1.1.1.1.0)
  values_record K.FunctionBlockName n h = simp h.0

  -- such words have a valid port and direction; so does a kind that has none
  named_port : (k : Kind) → reads (layout k).fields (parts v) ws → get_or (v Field.midi1_port) 0 0 ≢ no_port → code_at k ws Field.midi1_port ≢ no_port
  unfolding reads layout values_in those map held joined same decided part_of start
  named_port K.EndpointDiscovery h p = λ e. omega arith
  named_port K.EndpointInfo h p = λ e. omega arith
  named_port K.DeviceIdentity h p = λ e. omega arith
  named_port K.EndpointName h p = λ e. omega arith
  named_port K.ProductInstanceId h p = λ e. omega arith
  named_port K.FunctionBlockInfo h p = λ e. p (sym h.1.1.1.0 ∙ e)
  named_port K.FunctionBlockName h p = λ e. omega arith

  named_direction : (k : Kind) → reads (layout k).fields (parts v) ws → get_or (v Field.direction) 0 0 ≢ no_direction → code_at k ws Field.direction ≢ no_direction
  unfolding reads layout values_in those map held joined same decided part_of start
  named_direction K.EndpointDiscovery h d = λ e. omega arith
  named_direction K.EndpointInfo h d = λ e. omega arith
  named_direction K.DeviceIdentity h d = λ e. omega arith
  named_direction K.EndpointName h d = λ e. omega arith
  named_direction K.ProductInstanceId h d = λ e. omega arith
  named_direction K.FunctionBlockInfo h d = λ e. d (sym h.1.1.1.1.0 ∙ e)
  named_direction K.FunctionBlockName h d = λ e. omega arith

  -- THE RECORD of some values: words that hold the values hold the record's values too
  pub values_held : (k : Kind) (n : ℕ) → reads (layout k).fields (parts v) ws → get_or (v Field.midi1_port) 0 0 ≢ no_port → get_or (v Field.direction) 0 0 ≢ no_direction → reads (layout k).fields (parts (values_of (record_of k n v))) ws
  values_held k n h p d =
      subst (λ (m : Message). reads (layout k).fields (parts (values_of m)) ws) (values_record k n h) (record_holds k n ws (named_port k h p) (named_direction k h d))

-- ---- words that hold a record's values
module _ (m : Message) (ws : List ℕ) (h : reads (layout (kind_in m)).fields (parts (values_of m)) ws) where
  -- are read as the record
  pub holds_record : (n : ℕ) → n ≡ packets_in m → record_of (kind_in m) n (values_at (kind_in m) ws) ≡ m
  holds_record n q = values_record (values_of m) ws (kind_in m) n h ∙ ap (λ (i : ℕ). record_of (kind_in m) i (values_of m)) q ∙ record_back m

  -- and have a valid port and direction
  pub holds_port : eqb (code_at (kind_in m) ws Field.midi1_port) no_port ≡ false
  holds_port = ne_eqb _ _ (named_port (values_of m) ws (kind_in m) h (port_named m))

  pub holds_direction : eqb (code_at (kind_in m) ws Field.direction) no_direction ≡ false
  holds_direction = ne_eqb _ _ (named_direction (values_of m) ws (kind_in m) h (direction_named m))

-- ---- one table over two packets
-- packets that hold the same values break no rule
pub same_fields : (t : List (Slot Part)) (v : Part → ℕ) (ws : List ℕ) (p : ℕ) → reads t v (packet_from ws 0) → reads t v (packet_from ws p) → other_field t ws p ≡ false
unfolding reads other_field
same_fields [] v ws p a b = refl
same_fields (s ∷ ss) v ws p a b =
    rw (eq_differ (get s (packet_from ws p)) (get s (packet_from ws 0)) (b.0 ∙ sym a.0)) (same_fields ss v ws p a.1 b.1)

-- if no rule is broken, packet p holds what packet 0 holds
pub fields_same : (t : List (Slot Part)) (v : Part → ℕ) (ws : List ℕ) (p : ℕ) → other_field t ws p ≡ false → reads t v (packet_from ws 0) → reads t v (packet_from ws p)
unfolding reads other_field
fields_same [] v ws p e a = tt
fields_same (s ∷ ss) v ws p e a =
    let q = passed (differ (get s (packet_from ws p)) (get s (packet_from ws 0))) true (other_field ss ws p) false (λ z. true_false z) e in
    (differ_false _ _ q.0 ∙ a.0, fields_same ss v ws p q.1 a.1)
