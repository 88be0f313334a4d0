-- Which field of THE TABLE a name in code is, and the slot at which the code says it stands.
use Rattle.std.specs.Prelude.{ℕ, ◌≡◌}
use Rattle.kinds.specs.declared.kind.Kind.{Kind}
use Rattle.kinds.specs.declared.kind.Kind.TheVariants as K
use Rattle.kinds.specs.Fields.{Flag, Number, Pair}
use Rattle.kinds.specs.Layout.{layout}
use Rattle.table.specs.declared.names.FlagName.{FlagName}
use Rattle.table.specs.declared.names.FlagName.TheVariants as F
use Rattle.table.specs.declared.names.NumberName.{NumberName}
use Rattle.table.specs.declared.names.NumberName.TheVariants as N
use Rattle.table.specs.declared.names.PairName.{PairName}
use Rattle.table.specs.declared.names.PairName.TheVariants as P
use Rattle.table.specs.declared.names.FieldAt.{FieldAt}
use Rattle.table.specs.declared.names.Home.{Home}
use Rattle.table.specs.Places.{slot_at, PlaceIs}

abbrev pub flag_named : FlagName → Flag
flag_named F.RequestEndpointInfo = Flag.request_endpoint_info
flag_named F.RequestDeviceIdentity = Flag.request_device_identity
flag_named F.RequestEndpointName = Flag.request_endpoint_name
flag_named F.RequestProductInstanceId = Flag.request_product_instance_id
flag_named F.RequestStreamConfiguration = Flag.request_stream_configuration
flag_named F.StaticFunctionBlocks = Flag.static_function_blocks
flag_named F.SupportsMidi2Protocol = Flag.supports_midi2_protocol
flag_named F.SupportsMidi1Protocol = Flag.supports_midi1_protocol
flag_named F.SupportsReceivingJrTimestamps = Flag.supports_receiving_jr_timestamps
flag_named F.SupportsSendingJrTimestamps = Flag.supports_sending_jr_timestamps
flag_named F.Active = Flag.active

abbrev pub number_named : NumberName → Number
number_named N.DiscoveryVersionMajor = Number.discovery_version_major
number_named N.DiscoveryVersionMinor = Number.discovery_version_minor
number_named N.InfoVersionMajor = Number.info_version_major
number_named N.InfoVersionMinor = Number.info_version_minor
number_named N.NumberOfFunctionBlocks = Number.number_of_function_blocks
number_named N.FunctionBlockNumber = Number.function_block_number
number_named N.FirstGroup = Number.first_group
number_named N.NumberOfGroupsSpanned = Number.number_of_groups_spanned
number_named N.MidiCiVersion = Number.midi_ci_version
number_named N.MaxNumberOfMidiCiStreams = Number.max_number_of_midi_ci_streams

abbrev pub pair_named : PairName → Pair
pair_named P.DeviceFamily = Pair.device_family
pair_named P.DeviceFamilyModelNumber = Pair.device_family_model_number

-- ---- the kind that has the field, and its first slot: the laws of settings hold each to THE TABLE
abbrev pub field_at : Kind → ℕ → FieldAt
field_at k slot = record { kind = k; slot = slot }

abbrev pub flag_at : FlagName → FieldAt
flag_at F.RequestEndpointInfo = field_at K.EndpointDiscovery 2
flag_at F.RequestDeviceIdentity = field_at K.EndpointDiscovery 3
flag_at F.RequestEndpointName = field_at K.EndpointDiscovery 4
flag_at F.RequestProductInstanceId = field_at K.EndpointDiscovery 5
flag_at F.RequestStreamConfiguration = field_at K.EndpointDiscovery 6
flag_at F.StaticFunctionBlocks = field_at K.EndpointInfo 2
flag_at F.SupportsMidi2Protocol = field_at K.EndpointInfo 3
flag_at F.SupportsMidi1Protocol = field_at K.EndpointInfo 4
flag_at F.SupportsReceivingJrTimestamps = field_at K.EndpointInfo 5
flag_at F.SupportsSendingJrTimestamps = field_at K.EndpointInfo 6
flag_at F.Active = field_at K.FunctionBlockInfo 0

abbrev pub number_at : NumberName → FieldAt
number_at N.DiscoveryVersionMajor = field_at K.EndpointDiscovery 0
number_at N.DiscoveryVersionMinor = field_at K.EndpointDiscovery 1
number_at N.InfoVersionMajor = field_at K.EndpointInfo 0
number_at N.InfoVersionMinor = field_at K.EndpointInfo 1
number_at N.NumberOfFunctionBlocks = field_at K.EndpointInfo 7
number_at N.FunctionBlockNumber = field_at K.FunctionBlockInfo 1
number_at N.FirstGroup = field_at K.FunctionBlockInfo 5
number_at N.NumberOfGroupsSpanned = field_at K.FunctionBlockInfo 6
number_at N.MidiCiVersion = field_at K.FunctionBlockInfo 7
number_at N.MaxNumberOfMidiCiStreams = field_at K.FunctionBlockInfo 8

abbrev pub pair_at : PairName → FieldAt
pair_at P.DeviceFamily = field_at K.DeviceIdentity 3
pair_at P.DeviceFamilyModelNumber = field_at K.DeviceIdentity 5

pub record FieldIs (a r : FieldAt) : Type 0 where
  pub kind : r.kind ≡ a.kind
  pub slot : r.slot ≡ a.slot

-- where the code says that slot i of a kind stands
pub record HomeIs (k : Kind) (i : ℕ) (r : Home) : Type 0 where
  pub kind : r.kind ≡ k
  pub place : PlaceIs (slot_at (layout k).fields i) r.place
