-- THE TABLE: each kind's status, where each of its fields stands, and where its text starts.
-- Reading, writing, settings and the listing all go by it, in its order.
use Rattle.std.specs.Prelude.{ℕ, ◌-◌, ◌*◌, Bool, true, false, List, [], ◌∷◌, eqb, leb, Option, Some, None}
use Rattle.laws.specs.Pick.{pick, both}
use Rattle.laws.specs.Lists.{map}
use Rattle.slots.specs.Slots.{Slot, get, those, apart_from_all, disjoint, words_below, bits_within}
use Rattle.kinds.specs.declared.kind.Kind.{Kind}
use Rattle.kinds.specs.declared.kind.Kind.TheVariants as K
use Rattle.kinds.specs.Fields.{Flag, Number, Pair, Text, Field, same, start, part_of, joined, Setting, value_in}

-- whose number stands in a slot, and which of the field's numbers
pub record Part : Type 0 where
  pub field : Field
  pub index : ℕ

-- a slot by word, lowest bit, width, field and which of its numbers
abbrev piece : ℕ → ℕ → ℕ → Field → ℕ → Slot Part
piece w b s f i = record { word = w; at = b; span = s; key = record { field = f; index = i } }

-- the slots of a flag, a number, and a choice
abbrev flag : ℕ → ℕ → Flag → Slot Part
flag w b f = piece w b 1 (Field.flag f) 0

abbrev number : ℕ → ℕ → ℕ → Number → Slot Part
number w b s n = piece w b s (Field.number n) 0

abbrev choice : ℕ → ℕ → Field → Slot Part
choice w b f = piece w b 2 f 0

-- seven low bits of an octet, of which octet 0 is the highest
abbrev septet : ℕ → ℕ → Field → ℕ → Slot Part
septet w o f i = piece w (24 - o * 8) 7 f i

abbrev pub discovery_fields : List (Slot Part)
discovery_fields =
    number 0 8 8 Number.discovery_version_major
    ∷ number 0 0 8 Number.discovery_version_minor
    ∷ flag 1 0 Flag.request_endpoint_info
    ∷ flag 1 1 Flag.request_device_identity
    ∷ flag 1 2 Flag.request_endpoint_name
    ∷ flag 1 3 Flag.request_product_instance_id
    ∷ flag 1 4 Flag.request_stream_configuration
    ∷ []

abbrev pub info_fields : List (Slot Part)
info_fields =
    number 0 8 8 Number.info_version_major
    ∷ number 0 0 8 Number.info_version_minor
    ∷ flag 1 31 Flag.static_function_blocks
    ∷ flag 1 9 Flag.supports_midi2_protocol
    ∷ flag 1 8 Flag.supports_midi1_protocol
    ∷ flag 1 1 Flag.supports_receiving_jr_timestamps
    ∷ flag 1 0 Flag.supports_sending_jr_timestamps
    ∷ number 1 24 7 Number.number_of_function_blocks
    ∷ []

abbrev pub identity_fields : List (Slot Part)
identity_fields =
    septet 1 1 Field.device_manufacturer 0
    ∷ septet 1 2 Field.device_manufacturer 1
    ∷ septet 1 3 Field.device_manufacturer 2
    ∷ septet 2 0 (Field.pair Pair.device_family) 0
    ∷ septet 2 1 (Field.pair Pair.device_family) 1
    ∷ septet 2 2 (Field.pair Pair.device_family_model_number) 0
    ∷ septet 2 3 (Field.pair Pair.device_family_model_number) 1
    ∷ septet 3 0 Field.software_version 0
    ∷ septet 3 1 Field.software_version 1
    ∷ septet 3 2 Field.software_version 2
    ∷ septet 3 3 Field.software_version 3
    ∷ []

abbrev pub block_fields : List (Slot Part)
block_fields =
    flag 0 15 Flag.active
    ∷ number 0 8 7 Number.function_block_number
    ∷ choice 0 4 Field.ui_hint
    ∷ choice 0 2 Field.midi1_port
    ∷ choice 0 0 Field.direction
    ∷ number 1 24 4 Number.first_group
    ∷ number 1 16 8 Number.number_of_groups_spanned
    ∷ number 1 8 8 Number.midi_ci_version
    ∷ number 1 0 8 Number.max_number_of_midi_ci_streams
    ∷ []

-- in word 0 of each packet
abbrev pub name_fields : List (Slot Part)
name_fields = number 0 8 8 Number.function_block ∷ []

-- what a packet holds beside its fields: nothing, or whose text and the octet at which it starts
pub data Body : Type 0 where
  fixed : Body
  texts : Text → ℕ → Body

pub record Row : Type 0 where
  pub status : ℕ
  pub fields : List (Slot Part)
  pub body : Body

abbrev row : ℕ → List (Slot Part) → Body → Row
row s f b = record { status = s; fields = f; body = b }

unfoldable pub layout : Kind → Row
layout K.EndpointDiscovery = row 0x00 discovery_fields fixed
layout K.EndpointInfo = row 0x01 info_fields fixed
layout K.DeviceIdentity = row 0x02 identity_fields fixed
layout K.EndpointName = row 0x03 [] (texts Text.endpoint_name 2)
layout K.ProductInstanceId = row 0x04 [] (texts Text.product_instance_id 2)
layout K.FunctionBlockInfo = row 0x11 block_fields fixed
layout K.FunctionBlockName = row 0x12 name_fields (texts Text.function_block_name 3)

-- ---- read off the table

-- text bytes of a packet: what the sixteen octets leave from where it starts; none without text
abbrev pub capacity_in : Body → ℕ
capacity_in fixed = 0
capacity_in (texts t start) = 16 - start

abbrev pub capacity_of : Kind → ℕ
capacity_of k = capacity_in (layout k).body

-- packets of a message: a fixed kind is one, text at most 64
abbrev pub most_in : Body → ℕ
most_in fixed = 1
most_in (texts t start) = 64

abbrev pub most_of : Kind → ℕ
most_of k = most_in (layout k).body

abbrev pub has_text : Body → Bool
has_text fixed = false
has_text (texts t start) = true

-- the kind of a status
abbrev pub kinds : List Kind
kinds = K.EndpointDiscovery ∷ K.EndpointInfo ∷ K.DeviceIdentity ∷ K.EndpointName ∷ K.ProductInstanceId ∷ K.FunctionBlockInfo ∷ K.FunctionBlockName ∷ []

unfoldable pub among : List Kind → ℕ → Option Kind
among [] s = None
among (k ∷ ks) s = pick (eqb s (layout k).status) (Some k) (among ks s)

abbrev pub kind_of : ℕ → Option Kind
kind_of s = among kinds s

abbrev pub none : {A : Type 0} → List A → Bool
none [] = true
none (x ∷ xs) = false

-- the slots of a field, in the order of its numbers
abbrev pub slots_of : Field → List (Slot Part) → List (Slot Part)
slots_of f t = those (λ p. same p.field f) t

-- a field is the row's text
abbrev pub is_text : Field → Body → Bool
is_text f fixed = false
is_text f (texts t start) = same f (Field.text t)

-- the numbers that stand in the slots, given a value for each field
abbrev pub parts : (Field → List ℕ) → Part → ℕ
parts v p = part_of p.field (v p.field) p.index

-- the numbers that a setting puts into the slots of its field
abbrev pub numbers_set : Setting → Part → ℕ
numbers_set s = parts (λ f. value_in s)

-- a field's value in the words; its starting value if the table lacks the field
unfoldable pub held : Field → List ℕ → List ℕ
held f [] = start f
held f (x ∷ xs) = joined f (x ∷ xs)

unfoldable pub values_in : List (Slot Part) → List ℕ → Field → List ℕ
values_in t ws f = held f (map (λ s. get s ws) (slots_of f t))

-- ---- the test of a row: no two fields share a bit, none touches the head or the text or leaves its word, and text leaves room for the head
abbrev pub head_slot : Slot ℕ
head_slot = record { word = 0; at = 16; span = 16; key = 0 }

-- the octets of word 0 from one on
abbrev pub text_slot : ℕ → Slot ℕ
text_slot start = record { word = 0; at = 0; span = 32 - start * 8; key = 0 }

unfoldable pub right_body : Body → List (Slot Part) → Bool
right_body fixed t = words_below 4 t
right_body (texts text start) t = both (both (leb 2 start) (leb start 15)) (both (apart_from_all (text_slot start) t) (words_below 1 t))

unfoldable pub right : Row → Bool
right r = both (disjoint r.fields) (both (apart_from_all head_slot r.fields) (both (bits_within 32 r.fields) (right_body r.body r.fields)))
