-- A record and the values of its fields, each from the other. Bits and words are in the table alone.
use Rattle.std.specs.Prelude.{ℕ, Bool, List, [], ◌∷◌, get_or, eqb}
use Rattle.laws.specs.Pick.{pick}
use Rattle.laws.specs.Lists.{each}
use Rattle.slots.specs.Slots.{Slot}
use Rattle.counts.specs.Counts.{packet}
use Rattle.kinds.specs.declared.kind.Kind.{Kind}
use Rattle.kinds.specs.declared.kind.Kind.TheVariants as K
use Rattle.records.specs.declared.message.Message.{Message}
use Rattle.records.specs.declared.message.Message.TheVariants as M
use Rattle.kinds.specs.Choices.{hint_code, hint_of, port_code, port_of, direction_code, direction_of}
use Rattle.kinds.specs.Fields.{Flag, Number, Pair, Field, same, start, bit}
use Rattle.kinds.specs.Layout.{Part, layout}

-- what a record says it is
abbrev pub kind_in : Message → Kind
kind_in (M.EndpointDiscovery e) = K.EndpointDiscovery
kind_in (M.EndpointInfo e) = K.EndpointInfo
kind_in (M.DeviceIdentity e) = K.DeviceIdentity
kind_in (M.EndpointName n) = K.EndpointName
kind_in (M.ProductInstanceId n) = K.ProductInstanceId
kind_in (M.FunctionBlockInfo e) = K.FunctionBlockInfo
kind_in (M.FunctionBlockName b n) = K.FunctionBlockName

-- its packets: one of a fixed kind
abbrev pub packets_in : Message → ℕ
packets_in (M.EndpointDiscovery e) = 1
packets_in (M.EndpointInfo e) = 1
packets_in (M.DeviceIdentity e) = 1
packets_in (M.EndpointName n) = n.0
packets_in (M.ProductInstanceId n) = n.0
packets_in (M.FunctionBlockInfo e) = 1
packets_in (M.FunctionBlockName b n) = n.0

-- ---- from values to a record
-- the flag, the number, and number i of a field
abbrev flag_from : (Field → List ℕ) → Flag → Bool
flag_from v f = eqb (get_or (v (Field.flag f)) 0 0) 1

abbrev number_from : (Field → List ℕ) → Number → ℕ
number_from v n = get_or (v (Field.number n)) 0 0

abbrev nth_of : (Field → List ℕ) → Field → ℕ → ℕ
nth_of v f i = get_or (v f) i 0

-- the record of a kind with n packets and these values
unfoldable pub record_of : Kind → ℕ → (Field → List ℕ) → Message
record_of K.EndpointDiscovery n v =
    M.EndpointDiscovery
    (record {
      ump_version_major = number_from v Number.discovery_version_major;
      ump_version_minor = number_from v Number.discovery_version_minor;
      request_endpoint_info = flag_from v Flag.request_endpoint_info;
      request_device_identity = flag_from v Flag.request_device_identity;
      request_endpoint_name = flag_from v Flag.request_endpoint_name;
      request_product_instance_id = flag_from v Flag.request_product_instance_id;
      request_stream_configuration = flag_from v Flag.request_stream_configuration;
    })
record_of K.EndpointInfo n v =
    M.EndpointInfo
    (record {
      ump_version_major = number_from v Number.info_version_major;
      ump_version_minor = number_from v Number.info_version_minor;
      static_function_blocks = flag_from v Flag.static_function_blocks;
      supports_midi2_protocol = flag_from v Flag.supports_midi2_protocol;
      supports_midi1_protocol = flag_from v Flag.supports_midi1_protocol;
      supports_receiving_jr_timestamps = flag_from v Flag.supports_receiving_jr_timestamps;
      supports_sending_jr_timestamps = flag_from v Flag.supports_sending_jr_timestamps;
      number_of_function_blocks = number_from v Number.number_of_function_blocks;
    })
record_of K.DeviceIdentity n v =
    M.DeviceIdentity
    (record {
      device_manufacturer =
          record {
            0 = nth_of v Field.device_manufacturer 0;
            1 = nth_of v Field.device_manufacturer 1;
            2 = nth_of v Field.device_manufacturer 2;
          };
      device_family = nth_of v (Field.pair Pair.device_family) 0;
      device_family_model_number = nth_of v (Field.pair Pair.device_family_model_number) 0;
      software_version =
          record {
            0 = nth_of v Field.software_version 0;
            1 = nth_of v Field.software_version 1;
            2 = nth_of v Field.software_version 2;
            3 = nth_of v Field.software_version 3;
          };
    })
record_of K.EndpointName n v = M.EndpointName (packet n)
record_of K.ProductInstanceId n v = M.ProductInstanceId (packet n)
record_of K.FunctionBlockInfo n v =
    M.FunctionBlockInfo
    (record {
      active = flag_from v Flag.active;
      function_block_number = number_from v Number.function_block_number;
      ui_hint = hint_of (nth_of v Field.ui_hint 0);
      midi1_port = port_of (nth_of v Field.midi1_port 0);
      direction = direction_of (nth_of v Field.direction 0);
      first_group = number_from v Number.first_group;
      number_of_groups_spanned = number_from v Number.number_of_groups_spanned;
      midi_ci_version = number_from v Number.midi_ci_version;
      max_number_of_midi_ci_streams = number_from v Number.max_number_of_midi_ci_streams;
    })
record_of K.FunctionBlockName n v = M.FunctionBlockName (number_from v Number.function_block) (packet n)

-- ---- from a record to values
-- a field with its value
pub record Valued : Type 0 where
  pub field : Field
  pub value : List ℕ

abbrev flag : Flag → Bool → Valued
flag f b = record { field = Field.flag f; value = bit b ∷ [] }

abbrev number : Number → ℕ → Valued
number n x = record { field = Field.number n; value = x ∷ [] }

abbrev valued : Field → List ℕ → Valued
valued f x = record { field = f; value = x }

-- the fields of a record
unfoldable pub fields_in : Message → List Valued
fields_in (M.EndpointDiscovery e) =
    number Number.discovery_version_major e.ump_version_major
    ∷ number Number.discovery_version_minor e.ump_version_minor
    ∷ flag Flag.request_endpoint_info e.request_endpoint_info
    ∷ flag Flag.request_device_identity e.request_device_identity
    ∷ flag Flag.request_endpoint_name e.request_endpoint_name
    ∷ flag Flag.request_product_instance_id e.request_product_instance_id
    ∷ flag Flag.request_stream_configuration e.request_stream_configuration
    ∷ []
fields_in (M.EndpointInfo e) =
    number Number.info_version_major e.ump_version_major
    ∷ number Number.info_version_minor e.ump_version_minor
    ∷ flag Flag.static_function_blocks e.static_function_blocks
    ∷ flag Flag.supports_midi2_protocol e.supports_midi2_protocol
    ∷ flag Flag.supports_midi1_protocol e.supports_midi1_protocol
    ∷ flag Flag.supports_receiving_jr_timestamps e.supports_receiving_jr_timestamps
    ∷ flag Flag.supports_sending_jr_timestamps e.supports_sending_jr_timestamps
    ∷ number Number.number_of_function_blocks e.number_of_function_blocks
    ∷ []
fields_in (M.DeviceIdentity e) =
    valued Field.device_manufacturer (e.device_manufacturer.0 ∷ e.device_manufacturer.1 ∷ e.device_manufacturer.2 ∷ [])
    ∷ valued (Field.pair Pair.device_family) (e.device_family ∷ [])
    ∷ valued (Field.pair Pair.device_family_model_number) (e.device_family_model_number ∷ [])
    ∷ valued Field.software_version (e.software_version.0 ∷ e.software_version.1 ∷ e.software_version.2 ∷ e.software_version.3 ∷ [])
    ∷ []
fields_in (M.EndpointName n) = []
fields_in (M.ProductInstanceId n) = []
fields_in (M.FunctionBlockInfo e) =
    flag Flag.active e.active
    ∷ number Number.function_block_number e.function_block_number
    ∷ valued Field.ui_hint (hint_code e.ui_hint ∷ [])
    ∷ valued Field.midi1_port (port_code e.midi1_port ∷ [])
    ∷ valued Field.direction (direction_code e.direction ∷ [])
    ∷ number Number.first_group e.first_group
    ∷ number Number.number_of_groups_spanned e.number_of_groups_spanned
    ∷ number Number.midi_ci_version e.midi_ci_version
    ∷ number Number.max_number_of_midi_ci_streams e.max_number_of_midi_ci_streams
    ∷ []
fields_in (M.FunctionBlockName b n) = number Number.function_block b ∷ []

-- a field's value in a list of fields; its starting value if the list lacks it
unfoldable pub lookup : List Valued → Field → List ℕ
lookup [] f = start f
lookup (x ∷ xs) f = pick (same x.field f) x.value (lookup xs f)

abbrev pub values_of : Message → Field → List ℕ
values_of m f = lookup (fields_in m) f

-- ---- the numbers of a record in the table's order: codes for choices, 0 or 1 for flags
-- the field of a slot that has its first number
unfoldable pub first_part : Slot Part → List Field
first_part s = pick (eqb s.key.index 0) (s.key.field ∷ []) []

abbrev pub in_order : Kind → List Field
in_order k = each first_part (layout k).fields

abbrev pub numbers_in : Message → List ℕ
numbers_in m = each (values_of m) (in_order (kind_in m))
