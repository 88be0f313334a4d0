-- The fields of the seven kinds by name, each of one kind, and a setting of each as a caller can make it.
use Rattle.std.specs.Prelude.{ℕ, ◌+◌, ◌*◌, ◌/◌, ◌%◌, Bool, true, false, List, [], ◌∷◌, get_or, eqb}
use Rattle.laws.specs.Pick.{pick}
use Rattle.kinds.specs.declared.choices.UiHint.{UiHint}
use Rattle.kinds.specs.declared.choices.Midi1Port.{Midi1Port}
use Rattle.kinds.specs.declared.choices.Direction.{Direction}
use Rattle.kinds.specs.Choices.{hint_code, port_code, direction_code}

-- yes or no
pub data Flag : Type 0 where
  request_endpoint_info request_device_identity request_endpoint_name : Flag
  request_product_instance_id request_stream_configuration : Flag
  static_function_blocks supports_midi2_protocol supports_midi1_protocol : Flag
  supports_receiving_jr_timestamps supports_sending_jr_timestamps : Flag
  active : Flag
  deriving Discrete as Flag-discrete

-- one number
pub data Number : Type 0 where
  discovery_version_major discovery_version_minor : Number
  info_version_major info_version_minor number_of_function_blocks : Number
  function_block_number first_group number_of_groups_spanned : Number
  midi_ci_version max_number_of_midi_ci_streams : Number
  function_block : Number
  deriving Discrete as Number-discrete

-- one number of fourteen bits in two septets, the low one first
pub data Pair : Type 0 where
  device_family device_family_model_number : Pair
  deriving Discrete as Pair-discrete

pub data Text : Type 0 where
  endpoint_name product_instance_id function_block_name : Text
  deriving Discrete as Text-discrete

pub data Field : Type 0 where
  flag : Flag → Field
  number : Number → Field
  pair : Pair → Field
  ui_hint midi1_port direction : Field
  device_manufacturer software_version : Field
  text : Text → Field
  deriving Discrete as Field-discrete

-- whether two fields are the same
unfoldable pub decided : {A : Type 0} → Dec A → Bool
decided (yes a) = true
decided (no a) = false

unfoldable pub same : Field → Field → Bool
same f g = decided (Field-discrete Flag-discrete Number-discrete Pair-discrete Text-discrete f g)

-- a setting: a flag is yes or no and a choice a named one, so that port 3 and direction 0 cannot be set
pub data Setting : Type 0 where
  flag : Flag → Bool → Setting
  number : Number → ℕ → Setting
  pair : Pair → ℕ → Setting
  ui_hint : UiHint → Setting
  midi1_port : Midi1Port → Setting
  direction : Direction → Setting
  device_manufacturer : ℕ → ℕ → ℕ → Setting
  software_version : ℕ → ℕ → ℕ → ℕ → Setting
  text : Text → List ℕ → Setting

-- the field that it sets
abbrev pub field_in : Setting → Field
field_in (Setting.flag f b) = Field.flag f
field_in (Setting.number n x) = Field.number n
field_in (Setting.pair p x) = Field.pair p
field_in (Setting.ui_hint h) = Field.ui_hint
field_in (Setting.midi1_port p) = Field.midi1_port
field_in (Setting.direction d) = Field.direction
field_in (Setting.device_manufacturer a b c) = Field.device_manufacturer
field_in (Setting.software_version a b c d) = Field.software_version
field_in (Setting.text t bytes) = Field.text t

abbrev pub bit : Bool → ℕ
bit b = pick b 1 0

-- and its value: one number for most, three for the manufacturer, four for the version, the bytes for text
abbrev pub value_in : Setting → List ℕ
value_in (Setting.flag f b) = bit b ∷ []
value_in (Setting.number n x) = x ∷ []
value_in (Setting.pair p x) = x ∷ []
value_in (Setting.ui_hint h) = hint_code h ∷ []
value_in (Setting.midi1_port p) = port_code p ∷ []
value_in (Setting.direction d) = direction_code d ∷ []
value_in (Setting.device_manufacturer a b c) = a ∷ b ∷ c ∷ []
value_in (Setting.software_version a b c d) = a ∷ b ∷ c ∷ d ∷ []
value_in (Setting.text t bytes) = bytes

-- one of three by what a field holds: a pair of septets, a text, or numbers that stand as they are
abbrev pub by_shape : {A : Type 0} → Field → A → A → A → A
by_shape (Field.pair p) a b c = a
by_shape (Field.text t) a b c = b
by_shape (Field.flag f) a b c = c
by_shape (Field.number n) a b c = c
by_shape Field.ui_hint a b c = c
by_shape Field.midi1_port a b c = c
by_shape Field.direction a b c = c
by_shape Field.device_manufacturer a b c = c
by_shape Field.software_version a b c = c

-- the text that it sets; none where it sets another field
abbrev pub text_in : Setting → List ℕ
text_in s = by_shape (field_in s) [] (value_in s) []

-- the value that a fresh message starts with: direction 3, all else 0, and text empty
unfoldable pub start : Field → List ℕ
start (Field.flag f) = 0 ∷ []
start (Field.number n) = 0 ∷ []
start (Field.pair p) = 0 ∷ []
start Field.ui_hint = 0 ∷ []
start Field.midi1_port = 0 ∷ []
start Field.direction = 3 ∷ []
start Field.device_manufacturer = 0 ∷ 0 ∷ 0 ∷ []
start Field.software_version = 0 ∷ 0 ∷ 0 ∷ 0 ∷ []
start (Field.text t) = []

-- part i of a value, as it stands in a slot: the low or the high septet of a pair, else number i
unfoldable pub part_of : Field → List ℕ → ℕ → ℕ
part_of f v i = by_shape f (pick (eqb i 0) (get_or v 0 0 % 128) (get_or v 0 0 / 128)) 0 (get_or v i 0)

-- the value that has these parts
unfoldable pub joined : Field → List ℕ → List ℕ
joined f xs = by_shape f ((get_or xs 0 0 + get_or xs 1 0 * 128) ∷ []) xs xs
