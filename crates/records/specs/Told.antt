-- RECORDS AND SETTINGS ON THEM, TOLD ONCE MORE: each sentence of document 01 by an example in literal numbers.
use Rattle.std.specs.Prelude.{ℕ, ◌≡◌, Bool, true, false, List, [], ◌∷◌, Ok}
use Rattle.counts.specs.Counts.{packet}
use Rattle.kinds.specs.declared.kind.Kind.TheVariants as K
use Rattle.kinds.specs.declared.choices.UiHint.{UiHint}
use Rattle.kinds.specs.declared.choices.UiHint.TheVariants as H
use Rattle.kinds.specs.declared.choices.Midi1Port.{Midi1Port}
use Rattle.kinds.specs.declared.choices.Midi1Port.TheVariants as P
use Rattle.kinds.specs.declared.choices.Direction.{Direction}
use Rattle.kinds.specs.declared.choices.Direction.TheVariants as D
use Rattle.kinds.specs.Fields.{Flag, Number, Pair, Text, Setting}
use Rattle.table.specs.declared.names.NumberName.TheVariants as N
use Rattle.records.specs.declared.message.Message.{Message}
use Rattle.records.specs.declared.message.Message.TheVariants as M
use Rattle.records.specs.declared.answers.Edited.{Edited}
use Rattle.records.specs.Answers.{Said, accepted, said_read, said_answer}
use Rattle.records.specs.Settings.{major_of, minor_of, name_of, number_in, edited, set_record, set_edited}

-- a refusal by its number and place
abbrev pub refusal : ℕ → ℕ → Said
refusal n p = record { refusal = n; place = p; values = [] }

-- ---- records by their fields in the table's order
abbrev pub discovery_of : ℕ → ℕ → Bool → Bool → Bool → Bool → Bool → Message
discovery_of major minor info identity name product configuration =
    M.EndpointDiscovery
    (record {
      ump_version_major = major;
      ump_version_minor = minor;
      request_endpoint_info = info;
      request_device_identity = identity;
      request_endpoint_name = name;
      request_product_instance_id = product;
      request_stream_configuration = configuration;
    })

abbrev pub info_of : ℕ → ℕ → Bool → Bool → Bool → Bool → Bool → ℕ → Message
info_of major minor static midi2 midi1 receives sends blocks =
    M.EndpointInfo
    (record {
      ump_version_major = major;
      ump_version_minor = minor;
      static_function_blocks = static;
      supports_midi2_protocol = midi2;
      supports_midi1_protocol = midi1;
      supports_receiving_jr_timestamps = receives;
      supports_sending_jr_timestamps = sends;
      number_of_function_blocks = blocks;
    })

abbrev pub identity_of : ℕ → ℕ → ℕ → ℕ → ℕ → ℕ → ℕ → ℕ → ℕ → Message
identity_of m0 m1 m2 family model v0 v1 v2 v3 =
    M.DeviceIdentity
    (record {
      device_manufacturer = record { 0 = m0; 1 = m1; 2 = m2 };
      device_family = family;
      device_family_model_number = model;
      software_version = record { 0 = v0; 1 = v1; 2 = v2; 3 = v3 };
    })

abbrev pub block_of : Bool → ℕ → UiHint → Midi1Port → Direction → ℕ → ℕ → ℕ → ℕ → Message
block_of active number hint port direction group spanned ci streams =
    M.FunctionBlockInfo
    (record {
      active = active;
      function_block_number = number;
      ui_hint = hint;
      midi1_port = port;
      direction = direction;
      first_group = group;
      number_of_groups_spanned = spanned;
      midi_ci_version = ci;
      max_number_of_midi_ci_streams = streams;
    })

-- one of each fixed kind, its numbers all different
abbrev pub discovery : Message
discovery = discovery_of 1 2 true false true false true

abbrev pub info : Message
info = info_of 3 4 true true false true false 5

abbrev pub identity : Message
identity = identity_of 1 2 3 644 902 8 9 10 11

abbrev pub block_info : Message
block_info = block_of true 5 H.SenderReceiver P.RestrictBandwidth D.Input 15 6 7 8

-- a record says this
abbrev Says : Message → List ℕ → Type 0
Says m values = said_read (Ok m) ≡ accepted values

pub record ToldRecords : Type 0 where
  -- status, packets, fields in the table's order, 0 or 1 for flags, codes for choices
  pub discovery_says : Says discovery (0x00 ∷ 1 ∷ 1 ∷ 2 ∷ 1 ∷ 0 ∷ 1 ∷ 0 ∷ 1 ∷ [])
  pub info_says : Says info (0x01 ∷ 1 ∷ 3 ∷ 4 ∷ 1 ∷ 1 ∷ 0 ∷ 1 ∷ 0 ∷ 5 ∷ [])
  pub identity_says : Says identity (0x02 ∷ 1 ∷ 1 ∷ 2 ∷ 3 ∷ 644 ∷ 902 ∷ 8 ∷ 9 ∷ 10 ∷ 11 ∷ [])
  pub endpoint_name : Says (M.EndpointName (packet 2)) (0x03 ∷ 2 ∷ [])
  pub product_instance_id : Says (M.ProductInstanceId (packet 3)) (0x04 ∷ 3 ∷ [])
  pub block_says : Says block_info (0x11 ∷ 1 ∷ 1 ∷ 5 ∷ 3 ∷ 2 ∷ 1 ∷ 15 ∷ 6 ∷ 7 ∷ 8 ∷ [])
  pub block-name : Says (M.FunctionBlockName 255 (packet 4)) (0x12 ∷ 4 ∷ 255 ∷ [])
  -- hint: 0 undeclared, 1 receiver, 2 sender; port: 0 none, 1 unrestricted; direction: 2 output, 3 both
  pub first_choices : Says (block_of false 0 H.Undeclared P.None D.Bidirectional 0 0 0 0) (0x11 ∷ 1 ∷ 0 ∷ 0 ∷ 0 ∷ 0 ∷ 3 ∷ 0 ∷ 0 ∷ 0 ∷ 0 ∷ [])
  pub second_choices : Says (block_of false 0 H.Receiver P.DontRestrictBandwidth D.Output 0 0 0 0) (0x11 ∷ 1 ∷ 0 ∷ 0 ∷ 1 ∷ 1 ∷ 2 ∷ 0 ∷ 0 ∷ 0 ∷ 0 ∷ [])
  pub third_choice : Says (block_of false 0 H.Sender P.None D.Output 0 0 0 0) (0x11 ∷ 1 ∷ 0 ∷ 0 ∷ 2 ∷ 0 ∷ 2 ∷ 0 ∷ 0 ∷ 0 ∷ 0 ∷ [])
  -- a version is that of the record's kind, a name the block's or the endpoint's
  pub discovery_version : (major_of K.EndpointDiscovery ≡ Number.discovery_version_major) × (minor_of K.EndpointDiscovery ≡ Number.discovery_version_minor)
  pub info_version : (major_of K.EndpointInfo ≡ Number.info_version_major) × (minor_of K.EndpointInfo ≡ Number.info_version_minor)
  pub names : (name_of K.EndpointName ≡ Text.endpoint_name) × (name_of K.FunctionBlockName ≡ Text.function_block_name)

-- ---- settings
-- a list of settings chained on a record, the first one first: what the chain says, and the record handed back
abbrev chained : List Setting → Edited → Edited
chained [] e = e
chained (s ∷ ss) e = chained ss (set_edited s e)

abbrev Chains : List Setting → Message → Said → Message → Type 0
Chains ss m said left =
    (said_answer (chained ss (edited m (Ok tt))).answer ≡ said) × ((chained ss (edited m (Ok tt))).message ≡ left)

-- one setting: accepted with another record, or refused with the same
abbrev Leaves : Setting → Message → Message → Type 0
Leaves s m left = (said_answer (set_record s m).answer ≡ accepted []) × ((set_record s m).message ≡ left)

abbrev Keeps : Setting → Message → ℕ → Type 0
Keeps s m n = (said_answer (set_record s m).answer ≡ refusal n 0) × ((set_record s m).message ≡ m)

-- every field of a fixed kind set to the value of the record above
abbrev pub discovery_settings : List Setting
discovery_settings =
    Setting.number Number.discovery_version_major 1
    ∷ Setting.number Number.discovery_version_minor 2
    ∷ Setting.flag Flag.request_endpoint_info true
    ∷ Setting.flag Flag.request_device_identity false
    ∷ Setting.flag Flag.request_endpoint_name true
    ∷ Setting.flag Flag.request_product_instance_id false
    ∷ Setting.flag Flag.request_stream_configuration true
    ∷ []

abbrev pub info_settings : List Setting
info_settings =
    Setting.number Number.info_version_major 3
    ∷ Setting.number Number.info_version_minor 4
    ∷ Setting.flag Flag.static_function_blocks true
    ∷ Setting.flag Flag.supports_midi2_protocol true
    ∷ Setting.flag Flag.supports_midi1_protocol false
    ∷ Setting.flag Flag.supports_receiving_jr_timestamps true
    ∷ Setting.flag Flag.supports_sending_jr_timestamps false
    ∷ Setting.number Number.number_of_function_blocks 5
    ∷ []

abbrev pub identity_settings : List Setting
identity_settings =
    Setting.device_manufacturer 1 2 3
    ∷ Setting.pair Pair.device_family 644
    ∷ Setting.pair Pair.device_family_model_number 902
    ∷ Setting.software_version 8 9 10 11
    ∷ []

abbrev pub block_settings : List Setting
block_settings =
    Setting.flag Flag.active true
    ∷ Setting.number Number.function_block_number 5
    ∷ Setting.ui_hint H.SenderReceiver
    ∷ Setting.midi1_port P.RestrictBandwidth
    ∷ Setting.direction D.Input
    ∷ Setting.number Number.first_group 15
    ∷ Setting.number Number.number_of_groups_spanned 6
    ∷ Setting.number Number.midi_ci_version 7
    ∷ Setting.number Number.max_number_of_midi_ci_streams 8
    ∷ []

-- some settings
abbrev pub blocks : ℕ → Setting
blocks n = Setting.number Number.number_of_function_blocks n

abbrev pub group : ℕ → Setting
group n = Setting.number Number.first_group n

abbrev pub block : ℕ → Setting
block n = Setting.number Number.function_block n

pub record ToldSettings : Type 0 where
  -- chained, each hands the record back with its own field changed
  pub discovery-set : Chains discovery_settings (discovery_of 0 0 false true false true false) (accepted []) discovery
  pub info-set : Chains info_settings (info_of 0 0 false false true false true 0) (accepted []) info
  pub identity-set : Chains identity_settings (identity_of 0 0 0 0 0 0 0 0 0) (accepted []) identity
  pub block-set : Chains block_settings (block_of false 0 H.Undeclared P.None D.Bidirectional 0 0 0 0) (accepted []) block_info
  pub block-name : Leaves (block 6) (M.FunctionBlockName 5 (packet 2)) (M.FunctionBlockName 6 (packet 2))
  -- 13: this kind has no such field; text is 13 for every kind
  pub elsewhere : Keeps (group 1) info 13
  pub same_name : Keeps (Setting.number Number.info_version_major 1) discovery 13
  pub text_kind : Keeps (block 1) (M.EndpointName (packet 1)) 13
  pub endpoint_name : Keeps (Setting.text Text.endpoint_name (0x41 ∷ [])) (M.EndpointName (packet 1)) 13
  pub product_instance_id : Keeps (Setting.text Text.product_instance_id []) (M.ProductInstanceId (packet 1)) 13
  pub function_block_name : Keeps (Setting.text Text.function_block_name (0xFF ∷ [])) (M.FunctionBlockName 5 (packet 1)) 13
  -- 13 before 12
  pub thirteen_twelve : Keeps (group 16) info 13

pub record ToldChains : Type 0 where
  -- a chain keeps its first refusal, and goes on with the record handed back
  pub goes_on : Chains (blocks 128 ∷ group 1 ∷ blocks 6 ∷ []) info (refusal 12 0) (info_of 3 4 true true false true false 6)
  pub first_kept : Chains (group 1 ∷ blocks 128 ∷ []) info (refusal 13 0) info
  pub refused_last : Chains (blocks 6 ∷ blocks 128 ∷ []) info (refusal 12 0) (info_of 3 4 true true false true false 6)

pub record ToldLimits : Type 0 where
  -- 12: above 127 for seven bits, 255 for eight, 16,383 for fourteen, 15 for the group
  pub discovery_major : Keeps (Setting.number Number.discovery_version_major 256) discovery 12
  pub discovery_minor : Keeps (Setting.number Number.discovery_version_minor 256) discovery 12
  pub info_major : Keeps (Setting.number Number.info_version_major 256) info 12
  pub info_minor : Keeps (Setting.number Number.info_version_minor 256) info 12
  pub number_of_blocks : Keeps (blocks 128) info 12
  pub manufacturer_0 : Keeps (Setting.device_manufacturer 128 0 0) identity 12
  pub manufacturer_1 : Keeps (Setting.device_manufacturer 0 128 0) identity 12
  pub manufacturer_2 : Keeps (Setting.device_manufacturer 0 0 128) identity 12
  pub family : Keeps (Setting.pair Pair.device_family 16384) identity 12
  pub model : Keeps (Setting.pair Pair.device_family_model_number 16384) identity 12
  pub version_0 : Keeps (Setting.software_version 128 0 0 0) identity 12
  pub version_1 : Keeps (Setting.software_version 0 128 0 0) identity 12
  pub version_2 : Keeps (Setting.software_version 0 0 128 0) identity 12
  pub version_3 : Keeps (Setting.software_version 0 0 0 128) identity 12
  pub block-number : Keeps (Setting.number Number.function_block_number 128) block_info 12
  pub first_group : Keeps (group 16) block_info 12
  pub spanned : Keeps (Setting.number Number.number_of_groups_spanned 256) block_info 12
  pub ci_version : Keeps (Setting.number Number.midi_ci_version 256) block_info 12
  pub ci_streams : Keeps (Setting.number Number.max_number_of_midi_ci_streams 256) block_info 12
  pub block-name : Keeps (block 256) (M.FunctionBlockName 5 (packet 1)) 12

pub record ToldLargest : Type 0 where
  -- the largest of each is accepted
  pub discovery_largest : Chains (Setting.number Number.discovery_version_major 255 ∷ Setting.number Number.discovery_version_minor 255 ∷ []) discovery (accepted []) (discovery_of 255 255 true false true false true)
  pub info_largest : Chains (Setting.number Number.info_version_major 255 ∷ Setting.number Number.info_version_minor 255 ∷ blocks 127 ∷ []) info (accepted []) (info_of 255 255 true true false true false 127)
  pub identity_largest : Chains (Setting.device_manufacturer 127 127 127 ∷ Setting.pair Pair.device_family 16383 ∷ Setting.pair Pair.device_family_model_number 16383 ∷ Setting.software_version 127 127 127 127 ∷ []) identity (accepted []) (identity_of 127 127 127 16383 16383 127 127 127 127)
  pub numbers_largest : Chains (Setting.number Number.function_block_number 127 ∷ group 15 ∷ Setting.number Number.number_of_groups_spanned 255 ∷ []) block_info (accepted []) (block_of true 127 H.SenderReceiver P.RestrictBandwidth D.Input 15 255 7 8)
  pub ci_largest : Chains (Setting.number Number.midi_ci_version 255 ∷ Setting.number Number.max_number_of_midi_ci_streams 255 ∷ []) block_info (accepted []) (block_of true 5 H.SenderReceiver P.RestrictBandwidth D.Input 15 6 255 255)
  pub name_largest : Leaves (block 255) (M.FunctionBlockName 5 (packet 1)) (M.FunctionBlockName 255 (packet 1))

pub record ToldNames : Type 0 where
  -- a number by its name, a version being that of the record's own kind
  pub discovery_major : number_in N.DiscoveryVersionMajor 7 discovery ≡ Setting.number Number.discovery_version_major 7
  pub discovery_minor : number_in N.DiscoveryVersionMinor 7 discovery ≡ Setting.number Number.discovery_version_minor 7
  pub info_major : number_in N.InfoVersionMajor 7 info ≡ Setting.number Number.info_version_major 7
  pub info_minor : number_in N.InfoVersionMinor 7 info ≡ Setting.number Number.info_version_minor 7
  pub own_major : number_in N.DiscoveryVersionMajor 7 info ≡ Setting.number Number.info_version_major 7
  pub own_minor : number_in N.InfoVersionMinor 7 discovery ≡ Setting.number Number.discovery_version_minor 7
  pub number_of_blocks : number_in N.NumberOfFunctionBlocks 7 info ≡ blocks 7
  pub block-number : number_in N.FunctionBlockNumber 7 block_info ≡ Setting.number Number.function_block_number 7
  pub first_group : number_in N.FirstGroup 7 block_info ≡ group 7
  pub spanned : number_in N.NumberOfGroupsSpanned 7 block_info ≡ Setting.number Number.number_of_groups_spanned 7
  pub ci_version : number_in N.MidiCiVersion 7 block_info ≡ Setting.number Number.midi_ci_version 7
  pub ci_streams : number_in N.MaxNumberOfMidiCiStreams 7 block_info ≡ Setting.number Number.max_number_of_midi_ci_streams 7
