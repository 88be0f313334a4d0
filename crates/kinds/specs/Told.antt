-- Document 01's sections "The seven kinds" and "Refusal numbers" told once more, by examples in plain numbers: words and codes are written out by hand.
use Rattle.std.specs.Prelude.{ℕ, ◌+◌, ◌*◌, ◌≡◌, true, false, List, [], ◌∷◌, Some, None}
use Rattle.laws.specs.Pick.{pick}
use Rattle.laws.specs.Lists.{map}
use Rattle.slots.specs.Slots.{put_all, fits}
use Rattle.counts.specs.Counts.{packet}
use Rattle.kinds.specs.declared.kind.Kind.{Kind}
use Rattle.kinds.specs.declared.kind.Kind.TheVariants as K
use Rattle.kinds.specs.declared.choices.UiHint.TheVariants as H
use Rattle.kinds.specs.declared.choices.Midi1Port.TheVariants as P
use Rattle.kinds.specs.declared.choices.Direction.TheVariants as D
use Rattle.kinds.specs.declared.choices.Format.TheVariants as F
use Rattle.kinds.specs.declared.refusal.Refusal.{Refusal}
use Rattle.kinds.specs.declared.refusal.Refusal.TheVariants.{TooFewWords, NotWholePackets, TooManyPackets, WrongType, UnknownStatus, StatusDiffers, WrongFormat, BlockNumberDiffers, BadPort, BadDirection, NotUtf8, NumberTooLarge, NoSuchField, NoRoom}
use Rattle.kinds.specs.Refusals.{refusal_number, refusal_place}
use Rattle.kinds.specs.Choices.{hint_code, hint_of, port_code, port_of, no_port, direction_code, direction_of, no_direction, format_code, format_from}
use Rattle.kinds.specs.Fields.{Flag, Number, Pair, Text, Field, Setting, same, field_in, value_in, start}
use Rattle.kinds.specs.Layout.{layout, capacity_of, most_of, kinds, kind_of, is_text, parts, values_in}

-- the values that some settings give, and a fresh message's for every other field
abbrev given : List Setting → Field → List ℕ
given [] f = start f
given (s ∷ ss) f = pick (same f (field_in s)) (value_in s) (given ss f)

-- words with these values put by the table; and what the table reads from words, for the field of each setting
abbrev put_in : Kind → List Setting → List ℕ → List ℕ
put_in k ss ws = put_all (layout k).fields (parts (given ss)) ws

abbrev read_from : Kind → List Setting → List ℕ → List (List ℕ)
read_from k ss ws = map (λ s. values_in (layout k).fields ws (field_in s)) ss

-- a packet of a kind with nothing but its head, and one with every bit set
abbrev bare : Kind → List ℕ
bare k = (0xF0000000 + (layout k).status * 0x10000) ∷ 0 ∷ 0 ∷ 0 ∷ []

abbrev ones : List ℕ
ones = 0xFFFFFFFF ∷ 0xFFFFFFFF ∷ 0xFFFFFFFF ∷ 0xFFFFFFFF ∷ []

-- the settings on a bare packet give these words
abbrev Gives : Kind → List Setting → List ℕ → Type 0
Gives k ss ws = put_in k ss (bare k) ≡ ws

-- the settings give these words; over ones they give the others, so no bit outside the fields changes; both read as the values set
pub record Holds (k : Kind) (ss : List Setting) (ws over : List ℕ) : Type 0 where
  pub writes : Gives k ss ws
  pub reads : read_from k ss ws ≡ map value_in ss
  pub keeps : put_in k ss ones ≡ over
  pub reads_past : read_from k ss over ≡ map value_in ss

-- a field's largest number fits, and one more does not
pub record Largest (k : Kind) (s : ℕ → Setting) (most more : ℕ) : Type 0 where
  pub taken : fits (layout k).fields (parts (given (s most ∷ []))) ≡ true
  pub refused : fits (layout k).fields (parts (given (s more ∷ []))) ≡ false

-- these choices have these codes, and these codes give back these choices
pub record Codes {A : Type 0} (code : A → ℕ) (back : ℕ → A) (choices : List A) (codes : List ℕ) : Type 0 where
  pub forth : map code choices ≡ codes
  pub again : map back codes ≡ choices

abbrev flag : Flag → List Setting
flag f = Setting.flag f true ∷ []

-- a packet of each fixed kind in which no two numbers are alike, and a second block info with other choices
abbrev some_discovery : List Setting
some_discovery =
    Setting.number Number.discovery_version_major 0x91
    ∷ Setting.number Number.discovery_version_minor 0xA2
    ∷ Setting.flag Flag.request_endpoint_info true
    ∷ Setting.flag Flag.request_device_identity false
    ∷ Setting.flag Flag.request_endpoint_name true
    ∷ Setting.flag Flag.request_product_instance_id true
    ∷ Setting.flag Flag.request_stream_configuration false
    ∷ []

abbrev some_info : List Setting
some_info =
    Setting.number Number.info_version_major 0x81
    ∷ Setting.number Number.info_version_minor 0xC3
    ∷ Setting.flag Flag.static_function_blocks true
    ∷ Setting.flag Flag.supports_midi2_protocol false
    ∷ Setting.flag Flag.supports_midi1_protocol true
    ∷ Setting.flag Flag.supports_receiving_jr_timestamps true
    ∷ Setting.flag Flag.supports_sending_jr_timestamps false
    ∷ Setting.number Number.number_of_function_blocks 0x55
    ∷ []

abbrev some_identity : List Setting
some_identity =
    Setting.device_manufacturer 0x11 0x22 0x33
    ∷ Setting.pair Pair.device_family 8789
    ∷ Setting.pair Pair.device_family_model_number 13175
    ∷ Setting.software_version 0x48 0x59 0x6A 0x7B
    ∷ []

abbrev some_block : List Setting
some_block =
    Setting.flag Flag.active true
    ∷ Setting.number Number.function_block_number 0x6D
    ∷ Setting.ui_hint H.Sender
    ∷ Setting.midi1_port P.DontRestrictBandwidth
    ∷ Setting.direction D.Bidirectional
    ∷ Setting.number Number.first_group 9
    ∷ Setting.number Number.number_of_groups_spanned 0xA1
    ∷ Setting.number Number.midi_ci_version 0xB2
    ∷ Setting.number Number.max_number_of_midi_ci_streams 0xC4
    ∷ []

abbrev other_block_info : List Setting
other_block_info =
    Setting.flag Flag.active false
    ∷ Setting.number Number.function_block_number 0x12
    ∷ Setting.ui_hint H.Receiver
    ∷ Setting.midi1_port P.RestrictBandwidth
    ∷ Setting.direction D.Output
    ∷ []

pub record ToldTable : Type 0 where
  -- statuses 0x00, 0x01, 0x02, 0x03, 0x04, 0x11, 0x12, each way
  pub statuses : map (λ k. (layout k).status) (K.EndpointDiscovery ∷ K.EndpointInfo ∷ K.DeviceIdentity ∷ K.EndpointName ∷ K.ProductInstanceId ∷ K.FunctionBlockInfo ∷ K.FunctionBlockName ∷ []) ≡ 0x00 ∷ 0x01 ∷ 0x02 ∷ 0x03 ∷ 0x04 ∷ 0x11 ∷ 0x12 ∷ []
  pub known : map kind_of (0x00 ∷ 0x01 ∷ 0x02 ∷ 0x03 ∷ 0x04 ∷ 0x11 ∷ 0x12 ∷ []) ≡ Some K.EndpointDiscovery ∷ Some K.EndpointInfo ∷ Some K.DeviceIdentity ∷ Some K.EndpointName ∷ Some K.ProductInstanceId ∷ Some K.FunctionBlockInfo ∷ Some K.FunctionBlockName ∷ []
  -- the other five kinds of the standard are unknown, and so is a status above eight bits that ends like a known one
  pub unknown : map kind_of (0x05 ∷ 0x06 ∷ 0x10 ∷ 0x20 ∷ 0x21 ∷ 0x112 ∷ []) ≡ None ∷ None ∷ None ∷ None ∷ None ∷ None ∷ []
  -- endpoint-discovery: version in octets 2 and 3 of word 0, five requests in bits 0..4 of word 1
  pub discovery : Holds K.EndpointDiscovery some_discovery (0xF00091A2 ∷ 0x0000000D ∷ 0 ∷ 0 ∷ []) (0xFFFF91A2 ∷ 0xFFFFFFED ∷ 0xFFFFFFFF ∷ 0xFFFFFFFF ∷ [])
  pub asks_info : Gives K.EndpointDiscovery (flag Flag.request_endpoint_info) (0xF0000000 ∷ 0x01 ∷ 0 ∷ 0 ∷ [])
  pub asks_identity : Gives K.EndpointDiscovery (flag Flag.request_device_identity) (0xF0000000 ∷ 0x02 ∷ 0 ∷ 0 ∷ [])
  pub asks_name : Gives K.EndpointDiscovery (flag Flag.request_endpoint_name) (0xF0000000 ∷ 0x04 ∷ 0 ∷ 0 ∷ [])
  pub asks_id : Gives K.EndpointDiscovery (flag Flag.request_product_instance_id) (0xF0000000 ∷ 0x08 ∷ 0 ∷ 0 ∷ [])
  pub asks_configuration : Gives K.EndpointDiscovery (flag Flag.request_stream_configuration) (0xF0000000 ∷ 0x10 ∷ 0 ∷ 0 ∷ [])
  -- endpoint-info: in word 1 static blocks bit 31, MIDI 2 bit 9, MIDI 1 bit 8, receives JR bit 1, sends JR bit 0, number of blocks bits 30..24
  pub info : Holds K.EndpointInfo some_info (0xF00181C3 ∷ 0xD5000102 ∷ 0 ∷ 0 ∷ []) (0xFFFF81C3 ∷ 0xD5FFFDFE ∷ 0xFFFFFFFF ∷ 0xFFFFFFFF ∷ [])
  pub static : Gives K.EndpointInfo (flag Flag.static_function_blocks) (0xF0010000 ∷ 0x80000000 ∷ 0 ∷ 0 ∷ [])
  pub midi2 : Gives K.EndpointInfo (flag Flag.supports_midi2_protocol) (0xF0010000 ∷ 0x200 ∷ 0 ∷ 0 ∷ [])
  pub midi1 : Gives K.EndpointInfo (flag Flag.supports_midi1_protocol) (0xF0010000 ∷ 0x100 ∷ 0 ∷ 0 ∷ [])
  pub receives_jr : Gives K.EndpointInfo (flag Flag.supports_receiving_jr_timestamps) (0xF0010000 ∷ 0x02 ∷ 0 ∷ 0 ∷ [])
  pub sends_jr : Gives K.EndpointInfo (flag Flag.supports_sending_jr_timestamps) (0xF0010000 ∷ 0x01 ∷ 0 ∷ 0 ∷ [])
  -- device-identity: family 68 * 128 + 85 stands as 0x55 0x44 and model 102 * 128 + 119 as 0x77 0x66, low seven bits in the first octet
  pub identity : Holds K.DeviceIdentity some_identity (0xF0020000 ∷ 0x00112233 ∷ 0x55447766 ∷ 0x48596A7B ∷ []) (0xFFFFFFFF ∷ 0xFF91A2B3 ∷ 0xD5C4F7E6 ∷ 0xC8D9EAFB ∷ [])
  -- function-block-info: in word 0 active bit 15, number bits 14..8, hint, port and direction two bits each from bit 5 down; in word 1 group bits 27..24, then three octets
  pub block : Holds K.FunctionBlockInfo some_block (0xF011ED27 ∷ 0x09A1B2C4 ∷ 0 ∷ 0 ∷ []) (0xFFFFEDE7 ∷ 0xF9A1B2C4 ∷ 0xFFFFFFFF ∷ 0xFFFFFFFF ∷ [])
  pub other_block : Holds K.FunctionBlockInfo other_block_info (0xF011121A ∷ 0 ∷ 0 ∷ 0 ∷ []) (0xFFFF12DA ∷ 0xF0000000 ∷ 0xFFFFFFFF ∷ 0xFFFFFFFF ∷ [])
  -- function-block-name: block number in octet 2 of word 0
  pub block-name : Holds K.FunctionBlockName (Setting.number Number.function_block 0xD6 ∷ []) (0xF012D600 ∷ 0 ∷ 0 ∷ 0 ∷ []) (0xFFFFD6FF ∷ 0xFFFFFFFF ∷ 0xFFFFFFFF ∷ 0xFFFFFFFF ∷ [])
  -- block info starts with direction 3, all else 0; the two names have no field but their text
  pub starts : map (λ k. put_in k [] (bare k)) kinds ≡ (0xF0000000 ∷ 0 ∷ 0 ∷ 0 ∷ []) ∷ (0xF0010000 ∷ 0 ∷ 0 ∷ 0 ∷ []) ∷ (0xF0020000 ∷ 0 ∷ 0 ∷ 0 ∷ []) ∷ (0xF0030000 ∷ 0 ∷ 0 ∷ 0 ∷ []) ∷ (0xF0040000 ∷ 0 ∷ 0 ∷ 0 ∷ []) ∷ (0xF0110003 ∷ 0 ∷ 0 ∷ 0 ∷ []) ∷ (0xF0120000 ∷ 0 ∷ 0 ∷ 0 ∷ []) ∷ []
  pub names_alone : (put_in K.EndpointName [] ones ≡ ones) × (put_in K.ProductInstanceId [] ones ≡ ones)

pub record ToldLargest : Type 0 where
  -- 12: largest 255 for 8 bits, 127 for 7, 15 for the group, 16,383 for 14
  pub discovery_major : Largest K.EndpointDiscovery (Setting.number Number.discovery_version_major) 255 256
  pub discovery_minor : Largest K.EndpointDiscovery (Setting.number Number.discovery_version_minor) 255 256
  pub info_major : Largest K.EndpointInfo (Setting.number Number.info_version_major) 255 256
  pub info_minor : Largest K.EndpointInfo (Setting.number Number.info_version_minor) 255 256
  pub blocks : Largest K.EndpointInfo (Setting.number Number.number_of_function_blocks) 127 128
  pub manufacturer : Largest K.DeviceIdentity (λ n. Setting.device_manufacturer n n n) 127 128
  pub family : Largest K.DeviceIdentity (Setting.pair Pair.device_family) 16383 16384
  pub model : Largest K.DeviceIdentity (Setting.pair Pair.device_family_model_number) 16383 16384
  pub version : Largest K.DeviceIdentity (λ n. Setting.software_version n n n n) 127 128
  pub block-number : Largest K.FunctionBlockInfo (Setting.number Number.function_block_number) 127 128
  pub group : Largest K.FunctionBlockInfo (Setting.number Number.first_group) 15 16
  pub groups : Largest K.FunctionBlockInfo (Setting.number Number.number_of_groups_spanned) 255 256
  pub ci_version : Largest K.FunctionBlockInfo (Setting.number Number.midi_ci_version) 255 256
  pub streams : Largest K.FunctionBlockInfo (Setting.number Number.max_number_of_midi_ci_streams) 255 256
  pub named-block : Largest K.FunctionBlockName (Setting.number Number.function_block) 255 256
  -- each of the manufacturer's three and the version's four numbers alone
  pub manufacturer_each : Largest K.DeviceIdentity (λ n. Setting.device_manufacturer n 0 0) 127 128 × Largest K.DeviceIdentity (λ n. Setting.device_manufacturer 0 n 0) 127 128 × Largest K.DeviceIdentity (λ n. Setting.device_manufacturer 0 0 n) 127 128
  pub version_each : Largest K.DeviceIdentity (λ n. Setting.software_version n 0 0 0) 127 128 × Largest K.DeviceIdentity (λ n. Setting.software_version 0 n 0 0) 127 128 × Largest K.DeviceIdentity (λ n. Setting.software_version 0 0 n 0) 127 128 × Largest K.DeviceIdentity (λ n. Setting.software_version 0 0 0 n) 127 128

pub record ToldChoices : Type 0 where
  -- hint: 0 undeclared, 1 receiver, 2 sender, 3 both
  pub hint : Codes hint_code hint_of (H.Undeclared ∷ H.Receiver ∷ H.Sender ∷ H.SenderReceiver ∷ []) (0 ∷ 1 ∷ 2 ∷ 3 ∷ [])
  -- port: 0 none, 1 unrestricted, 2 restricted; 3 is refused
  pub port : Codes port_code port_of (P.None ∷ P.DontRestrictBandwidth ∷ P.RestrictBandwidth ∷ []) (0 ∷ 1 ∷ 2 ∷ [])
  pub no_port_code : no_port ≡ 3
  -- direction: 1 input, 2 output, 3 both; 0 is refused
  pub direction : Codes direction_code direction_of (D.Input ∷ D.Output ∷ D.Bidirectional ∷ []) (1 ∷ 2 ∷ 3 ∷ [])
  pub no_direction_code : no_direction ≡ 0
  -- format: 0 Complete, 1 Start, 2 Continue, 3 End
  pub format : Codes format_code format_from (F.Complete ∷ F.Start ∷ F.Continue ∷ F.End ∷ []) (0 ∷ 1 ∷ 2 ∷ 3 ∷ [])

pub record ToldTextKinds : Type 0 where
  -- text: 14 bytes a packet for the two names, 13 for a block name
  pub capacities : map capacity_of (K.EndpointName ∷ K.ProductInstanceId ∷ K.FunctionBlockName ∷ []) ≡ 14 ∷ 14 ∷ 13 ∷ []
  -- a fixed kind is one packet, a text at most 64
  pub most : map most_of kinds ≡ 1 ∷ 1 ∷ 1 ∷ 64 ∷ 64 ∷ 1 ∷ 64 ∷ []
  -- whose text each kind holds, in the table's order
  pub endpoint_names : map (λ k. is_text (Field.text Text.endpoint_name) (layout k).body) kinds ≡ false ∷ false ∷ false ∷ true ∷ false ∷ false ∷ false ∷ []
  pub product_ids : map (λ k. is_text (Field.text Text.product_instance_id) (layout k).body) kinds ≡ false ∷ false ∷ false ∷ false ∷ true ∷ false ∷ false ∷ []
  pub block_names : map (λ k. is_text (Field.text Text.function_block_name) (layout k).body) kinds ≡ false ∷ false ∷ false ∷ false ∷ false ∷ false ∷ true ∷ []

-- a refusal's number and place
abbrev Is-refusal : Refusal → ℕ → ℕ → Type 0
Is-refusal r n p = (refusal_number r ≡ n) × (refusal_place r ≡ p)

-- place is the packet for 4, 6, 7, 8 and 0 for the others
pub record ToldRefusalNumbers : Type 0 where
  -- under 4 words
  pub one : Is-refusal TooFewWords 1 0
  -- length not a multiple of four
  pub two : Is-refusal NotWholePackets 2 0
  -- more than 64 packets
  pub three : Is-refusal TooManyPackets 3 0
  -- a packet's type is not F
  pub four : Is-refusal (WrongType (packet 5)) 4 5
  -- first status is none of the seven
  pub five : Is-refusal UnknownStatus 5 0
  -- a later status differs
  pub six : Is-refusal (StatusDiffers (packet 5)) 6 5
  -- format not the one due
  pub seven : Is-refusal (WrongFormat (packet 5)) 7 5
  -- block numbers differ
  pub eight : Is-refusal (BlockNumberDiffers (packet 5)) 8 5
  -- port 3
  pub nine : Is-refusal BadPort 9 0
  -- direction 0
  pub ten : Is-refusal BadDirection 10 0
  -- text not UTF-8
  pub eleven : Is-refusal NotUtf8 11 0
  -- a number above its field's largest
  pub twelve : Is-refusal NumberTooLarge 12 0
  -- this kind has no such field
  pub thirteen : Is-refusal NoSuchField 13 0
  -- too few whole packets in the buffer
  pub fourteen : Is-refusal NoRoom 14 0
