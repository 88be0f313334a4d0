-- A test of every kind, told at one; the table is right, row by row, and what that tells of a row. Closed by computation: the tests are run over each row.
use Rattle.std.specs.Prelude.{Some}
use Prim.Native.Nat.{ℕ, ◌≤◌, ◌<◌}
use mathlib.Core.Path.{◌≡◌, refl, sym, ap, ◌∙◌}
use mathlib.Core.Bool.{Bool, true, false}
use mathlib.Core.List.{List, [], ◌∷◌}
use native.Mathlib.Omega.{arith}
use lib.Dec.{ltb, eqb, leb, lit≤}
use borrow.Author.Tests.{ltb-true, leb-true, eqb-true}
use Rattle.laws.specs.Pick.{pick, both}
use Rattle.laws.specs.Lists.{map}
use Rattle.laws.proofs.Pick.{never, both_left, both_right}
use Rattle.slots.specs.Slots.{Slot, mask, fits, disjoint, apart_from_all, words_below, bits_within, apart}
use Rattle.slots.proofs.Tables.{words_below_more}
use Rattle.kinds.specs.declared.kind.Kind.{Kind}
use Rattle.kinds.specs.declared.kind.Kind.TheVariants as K
use Rattle.kinds.specs.Fields.{Flag, Number, Pair, Field, Text, start, part_of}
use Rattle.kinds.specs.Layout.{Part, Body, fixed, texts, Row, layout, capacity_in, capacity_of, most_in, kinds, kind_of, among, parts, head_slot, text_slot, right, right_body, discovery_fields, info_fields, identity_fields, block_fields, name_fields}

-- a kind's status is its own
pub status_kind : (k : Kind) → kind_of (layout k).status ≡ Some k
unfolding layout among
status_kind K.EndpointDiscovery = refl
status_kind K.EndpointInfo = refl
status_kind K.DeviceIdentity = refl
status_kind K.EndpointName = refl
status_kind K.ProductInstanceId = refl
status_kind K.FunctionBlockInfo = refl
status_kind K.FunctionBlockName = refl

-- a kind that a status is known as has that status
pub among_status : (ks : List Kind) (s : ℕ) (k : Kind) → among ks s ≡ Some k → s ≡ (layout k).status
unfolding among
among_status [] s k e = never (cc)
among_status (j ∷ ks) s k e = go (eqb s (layout j).status) refl e (among_status ks s k)
  where
    go : (b : Bool) → eqb s (layout j).status ≡ b → pick b (Some j) (among ks s) ≡ Some k → (among ks s ≡ Some k → s ≡ (layout k).status) → s ≡ (layout k).status
    go true t q ih = let w : j ≡ k = cc in eqb-true s (layout j).status t ∙ ap (λ (i : Kind). (layout i).status) w
    go false t q ih = ih q

-- ---- a test of every kind
-- each of some kinds passes a test
unfoldable pub every_kind : (Kind → Bool) → List Kind → Bool
every_kind t [] = true
every_kind t (k ∷ ks) = both (t k) (every_kind t ks)

every_among : (t : Kind → Bool) (ks : List Kind) (s : ℕ) (k : Kind) → every_kind t ks ≡ true → among ks s ≡ Some k → t k ≡ true
unfolding every_kind among
every_among t [] s k e q = never (cc)
every_among t (j ∷ ks) s k e q = go (eqb s (layout j).status) q (every_among t ks s k (both_right _ _ e))
  where
    go : (b : Bool) → pick b (Some j) (among ks s) ≡ Some k → (among ks s ≡ Some k → t k ≡ true) → t k ≡ true
    go true a ih = let w : j ≡ k = cc in ap t (sym w) ∙ both_left _ _ e
    go false a ih = ih a

pub at_kind : (t : Kind → Bool) → every_kind t kinds ≡ true → (k : Kind) → t k ≡ true
at_kind t e k = every_among t kinds (layout k).status k e (status_kind k)

-- no two fields of a kind share a bit, none touches the head or the text or leaves its word
pub rows_right : (k : Kind) → right (layout k) ≡ true
unfolding every_kind right right_body layout disjoint apart_from_all words_below bits_within apart both
rows_right k = at_kind (λ j. right (layout j)) refl k

pub status_small : (k : Kind) → (layout k).status < 0x400
unfolding every_kind layout both
status_small k = ltb-true _ _ (at_kind (λ j. ltb (layout j).status 0x400) refl k)

-- ---- a row that is right, by its parts
pub record RowRight (b : Body) (r : Row) : Type 0 where
  pub sound : disjoint r.fields ≡ true
  pub head : apart_from_all head_slot r.fields ≡ true
  pub body : right_body b r.fields ≡ true
  pub bits : bits_within 32 r.fields ≡ true
  pub status : r.status < 0x400

pub row_right : (k : Kind) → RowRight (layout k).body (layout k)
unfolding right
row_right k =
    let e = rows_right k in
    record { sound = both_left _ _ e; head = both_left _ _ (both_right _ _ e); bits = both_left _ _ (both_right _ _ (both_right _ _ e)); body = both_right _ _ (both_right _ _ (both_right _ _ e)); status = status_small k }

body_low : (b : Body) (t : List (Slot Part)) → right_body b t ≡ true → words_below 4 t ≡ true
unfolding right_body
body_low fixed t e = e
body_low (texts x from) t e = words_below_more 1 4 t (omega arith) (both_right _ _ (both_right _ _ e))

-- its slots are in the four words of a packet
pub row_low : (k : Kind) → words_below 4 (layout k).fields ≡ true
row_low k = body_low (layout k).body (layout k).fields (row_right k).body

-- what a text kind's row keeps
pub record TextRow (r : Row) (from : ℕ) : Type 0 where
  pub sound : disjoint r.fields ≡ true
  pub head : apart_from_all head_slot r.fields ≡ true
  pub text : apart_from_all (text_slot from) r.fields ≡ true
  pub first : words_below 1 r.fields ≡ true
  pub bits : bits_within 32 r.fields ≡ true
  pub least : 2 ≤ from
  pub most : from ≤ 15
  pub status : r.status < 0x400

pub text_row : (r : Row) (x : Text) (from : ℕ) → RowRight (texts x from) r → TextRow r from
unfolding right_body
text_row r x from k =
    let e = k.body in
    record {
      sound = k.sound;
      head = k.head;
      text = both_left _ _ (both_right _ _ e);
      first = both_right _ _ (both_right _ _ e);
      bits = k.bits;
      least = leb-true _ _ (both_left _ _ (both_left _ _ e));
      most = leb-true _ _ (both_right _ _ (both_left _ _ e));
      status = k.status;
    }

-- ---- packets and values of every kind
-- no message has more than 64 packets
pub most_64 : (b : Body) → most_in b ≤ 64
most_64 fixed = lit≤ tt
most_64 (texts t from) = lit≤ tt

-- text takes no more than a packet's sixteen octets
pub capacity_16 : (b : Body) → capacity_in b ≤ 16
capacity_16 fixed = omega arith
capacity_16 (texts x from) = omega arith

-- and of those the first two are the head
pub capacity_14 : (k : Kind) → capacity_of k ≤ 14
unfolding every_kind layout both
capacity_14 k = leb-true _ _ (at_kind (λ j. leb (capacity_of j) 14) refl k)

-- the starting values of each kind fit
pub start_fits : (k : Kind) → fits (layout k).fields (parts start) ≡ true
unfolding every_kind fits layout both start part_of
start_fits k = at_kind (λ j. fits (layout j).fields (parts start)) refl k

-- ---- as in the Rust: each field, its word and its mask there, as the schemas and properties of ump_stream/*.rs have them, in the table's order
-- a field (or one of its numbers), its word and its mask
record Line : Type 0 where
  field : Field
  index : ℕ
  word : ℕ
  mask : ℕ

abbrev line : Field → ℕ → ℕ → ℕ → Line
line f i w m = record { field = f; index = i; word = w; mask = m }

abbrev lines : List (Slot Part) → List Line
lines t = map (λ s. line s.key.field s.key.index s.word (mask s)) t

abbrev flag : Flag → ℕ → ℕ → Line
flag f w m = line (Field.flag f) 0 w m

abbrev number : Number → ℕ → ℕ → Line
number n w m = line (Field.number n) 0 w m

pub record AsInTheRust : Type 0 where
  pub endpoint-discovery :
      lines discovery_fields ≡ number Number.discovery_version_major 0 0x0000_FF00
      ∷ number Number.discovery_version_minor 0 0x0000_00FF
      ∷ flag Flag.request_endpoint_info 1 0b0_0001
      ∷ flag Flag.request_device_identity 1 0b0_0010
      ∷ flag Flag.request_endpoint_name 1 0b0_0100
      ∷ flag Flag.request_product_instance_id 1 0b0_1000
      ∷ flag Flag.request_stream_configuration 1 0b1_0000
      ∷ []
  pub endpoint-info :
      lines info_fields ≡ number Number.info_version_major 0 0x0000_FF00
      ∷ number Number.info_version_minor 0 0x0000_00FF
      ∷ flag Flag.static_function_blocks 1 0x8000_0000
      ∷ flag Flag.supports_midi2_protocol 1 0b10_0000_0000
      ∷ flag Flag.supports_midi1_protocol 1 0b01_0000_0000
      ∷ flag Flag.supports_receiving_jr_timestamps 1 0b10
      ∷ flag Flag.supports_sending_jr_timestamps 1 0b01
      ∷ number Number.number_of_function_blocks 1 0x7F00_0000
      ∷ []
  -- 0x007F_7F7F of word 1 as septets 1, 2, 3, and 0x7F7F_7F7F of word 3 as septets 0 to 3; the order of a pair's septets is the standard's
  pub device-identity :
      lines identity_fields ≡ line Field.device_manufacturer 0 1 0x007F_0000
      ∷ line Field.device_manufacturer 1 1 0x0000_7F00
      ∷ line Field.device_manufacturer 2 1 0x0000_007F
      ∷ line (Field.pair Pair.device_family) 0 2 0x7F00_0000
      ∷ line (Field.pair Pair.device_family) 1 2 0x007F_0000
      ∷ line (Field.pair Pair.device_family_model_number) 0 2 0x0000_7F00
      ∷ line (Field.pair Pair.device_family_model_number) 1 2 0x0000_007F
      ∷ line Field.software_version 0 3 0x7F00_0000
      ∷ line Field.software_version 1 3 0x007F_0000
      ∷ line Field.software_version 2 3 0x0000_7F00
      ∷ line Field.software_version 3 3 0x0000_007F
      ∷ []
  -- hint, port and direction are crumbs 13, 14 and 15 of word 0
  pub function-block-info :
      lines block_fields ≡ flag Flag.active 0 0b1000_0000_0000_0000
      ∷ number Number.function_block_number 0 0x0000_7F00
      ∷ line Field.ui_hint 0 0 0b11_0000
      ∷ line Field.midi1_port 0 0 0b00_1100
      ∷ line Field.direction 0 0 0b00_0011
      ∷ number Number.first_group 1 0x0F00_0000
      ∷ number Number.number_of_groups_spanned 1 0x00FF_0000
      ∷ number Number.midi_ci_version 1 0x0000_FF00
      ∷ number Number.max_number_of_midi_ci_streams 1 0x0000_00FF
      ∷ []
  -- octet 2 of word 0
  pub function_block_name : lines name_fields ≡ number Number.function_block 0 0x0000_FF00 ∷ []

pub as_in_the_rust : AsInTheRust
unfolding map mask
as_in_the_rust = search
