-- The slot that the code gives for a name is the one of THE TABLE. Closed by computing the table at each name.
use Prim.Native.Nat.{ℕ, ◌/◌, ◌%◌}
use mathlib.Core.Path.{◌≡◌, refl, ◌∙◌}
use mathlib.Core.Bool.{Bool}
use mathlib.Core.List.{List, [], ◌∷◌}
use Rattle.slots.specs.Slots.{fits}
use Rattle.kinds.specs.declared.kind.Kind.TheVariants as K
use Rattle.kinds.specs.Fields.{Setting, bit}
use Rattle.kinds.specs.Choices.{hint_code, port_code, direction_code}
use Rattle.kinds.specs.declared.choices.UiHint.{UiHint}
use Rattle.kinds.specs.declared.choices.Midi1Port.{Midi1Port}
use Rattle.kinds.specs.declared.choices.Direction.{Direction}
use Rattle.table.specs.declared.names.FlagName.{FlagName}
use Rattle.table.specs.declared.names.FlagName.TheVariants as F
use Rattle.table.specs.declared.names.NumberName.{NumberName}
use Rattle.table.specs.declared.names.NumberName.TheVariants as N
use Rattle.table.specs.declared.names.PairName.{PairName}
use Rattle.table.specs.declared.names.PairName.TheVariants as P
use Rattle.table.specs.declared.names.FieldAt.{FieldAt}
use Rattle.table.specs.Named.{flag_named, number_named, pair_named, flag_at, number_at, pair_at, FieldIs, HomeIs}
use Rattle.fields.specs.Puts.{put_ins}
use Rattle.numbers.specs.BySlot.{fit_from, put_from}
use Rattle.standard.specs.Words.{set_on}
use Rattle.table.specs.declared.names.Home.{Home}
use Rattle.settings.specs.Fixed.{home_on, slot_on, slots_on}
use Rattle.settings.proofs.Slots.{facts, set_slot, set_slots, home_told}

-- the septets of a pair, the low one first
abbrev pub septets_of : ℕ → List ℕ
septets_of x = x % 128 ∷ x / 128 ∷ []

flag_slot : (f : FlagName) (b : Bool) (ws : List ℕ) → set_on (Setting.flag (flag_named f) b) ws ≡ slot_on (flag_at f).kind (flag_at f).slot (bit b) ws
unfolding facts
flag_slot F.RequestEndpointInfo b ws = set_slot K.EndpointDiscovery _ _ _ refl refl ws
flag_slot F.RequestDeviceIdentity b ws = set_slot K.EndpointDiscovery _ _ _ refl refl ws
flag_slot F.RequestEndpointName b ws = set_slot K.EndpointDiscovery _ _ _ refl refl ws
flag_slot F.RequestProductInstanceId b ws = set_slot K.EndpointDiscovery _ _ _ refl refl ws
flag_slot F.RequestStreamConfiguration b ws = set_slot K.EndpointDiscovery _ _ _ refl refl ws
flag_slot F.StaticFunctionBlocks b ws = set_slot K.EndpointInfo _ _ _ refl refl ws
flag_slot F.SupportsMidi2Protocol b ws = set_slot K.EndpointInfo _ _ _ refl refl ws
flag_slot F.SupportsMidi1Protocol b ws = set_slot K.EndpointInfo _ _ _ refl refl ws
flag_slot F.SupportsReceivingJrTimestamps b ws = set_slot K.EndpointInfo _ _ _ refl refl ws
flag_slot F.SupportsSendingJrTimestamps b ws = set_slot K.EndpointInfo _ _ _ refl refl ws
flag_slot F.Active b ws = set_slot K.FunctionBlockInfo _ _ _ refl refl ws

number_slot : (n : NumberName) (x : ℕ) (ws : List ℕ) → set_on (Setting.number (number_named n) x) ws ≡ slot_on (number_at n).kind (number_at n).slot x ws
unfolding facts
number_slot N.DiscoveryVersionMajor x ws = set_slot K.EndpointDiscovery _ _ _ refl refl ws
number_slot N.DiscoveryVersionMinor x ws = set_slot K.EndpointDiscovery _ _ _ refl refl ws
number_slot N.InfoVersionMajor x ws = set_slot K.EndpointInfo _ _ _ refl refl ws
number_slot N.InfoVersionMinor x ws = set_slot K.EndpointInfo _ _ _ refl refl ws
number_slot N.NumberOfFunctionBlocks x ws = set_slot K.EndpointInfo _ _ _ refl refl ws
number_slot N.FunctionBlockNumber x ws = set_slot K.FunctionBlockInfo _ _ _ refl refl ws
number_slot N.FirstGroup x ws = set_slot K.FunctionBlockInfo _ _ _ refl refl ws
number_slot N.NumberOfGroupsSpanned x ws = set_slot K.FunctionBlockInfo _ _ _ refl refl ws
number_slot N.MidiCiVersion x ws = set_slot K.FunctionBlockInfo _ _ _ refl refl ws
number_slot N.MaxNumberOfMidiCiStreams x ws = set_slot K.FunctionBlockInfo _ _ _ refl refl ws

pair_slots : (p : PairName) (x : ℕ) (ws : List ℕ) → set_on (Setting.pair (pair_named p) x) ws ≡ slots_on (pair_at p).kind (pair_at p).slot (septets_of x) ws
unfolding facts fits put_ins fit_from put_from
pair_slots P.DeviceFamily x ws = set_slots K.DeviceIdentity _ _ refl _ _ _ refl refl
pair_slots P.DeviceFamilyModelNumber x ws = set_slots K.DeviceIdentity _ _ refl _ _ _ refl refl

-- ---- and so at the home that the code was given
pub flag_put : (f : FlagName) (b : Bool) (ws : List ℕ) {h : Home} → HomeIs (flag_at f).kind (flag_at f).slot h → set_on (Setting.flag (flag_named f) b) ws ≡ home_on h (bit b) ws
flag_put f b ws h = flag_slot f b ws ∙ home_told (bit b) ws h

pub number_put : (n : NumberName) (x : ℕ) (ws : List ℕ) {h : Home} → HomeIs (number_at n).kind (number_at n).slot h → set_on (Setting.number (number_named n) x) ws ≡ home_on h x ws
number_put n x ws h = number_slot n x ws ∙ home_told x ws h

pub pair_put : (p : PairName) (x : ℕ) (ws : List ℕ) {a : FieldAt} → FieldIs (pair_at p) a → set_on (Setting.pair (pair_named p) x) ws ≡ slots_on a.kind a.slot (septets_of x) ws
pair_put p x ws s = rw (s.kind, s.slot) (pair_slots p x ws)

-- ---- the choices of a function block info, and the fields of several numbers of a device identity
module _ (ws : List ℕ) where
  pub hint_put : (x : UiHint) {h : Home} → HomeIs K.FunctionBlockInfo 2 h → set_on (Setting.ui_hint x) ws ≡ home_on h (hint_code x) ws
  unfolding facts
  hint_put x h = set_slot K.FunctionBlockInfo _ _ _ refl refl ws ∙ home_told _ ws h

  pub port_put : (x : Midi1Port) {h : Home} → HomeIs K.FunctionBlockInfo 3 h → set_on (Setting.midi1_port x) ws ≡ home_on h (port_code x) ws
  unfolding facts
  port_put x h = set_slot K.FunctionBlockInfo _ _ _ refl refl ws ∙ home_told _ ws h

  pub direction_put : (x : Direction) {h : Home} → HomeIs K.FunctionBlockInfo 4 h → set_on (Setting.direction x) ws ≡ home_on h (direction_code x) ws
  unfolding facts
  direction_put x h = set_slot K.FunctionBlockInfo _ _ _ refl refl ws ∙ home_told _ ws h

  pub manufacturer_put : (a b c : ℕ) → set_on (Setting.device_manufacturer a b c) ws ≡ slots_on K.DeviceIdentity 0 (a ∷ b ∷ c ∷ []) ws
  unfolding facts fits put_ins fit_from put_from
  manufacturer_put a b c = set_slots K.DeviceIdentity _ _ refl _ _ _ refl refl

  pub version_put : (a b c d : ℕ) → set_on (Setting.software_version a b c d) ws ≡ slots_on K.DeviceIdentity 7 (a ∷ b ∷ c ∷ d ∷ []) ws
  unfolding facts fits put_ins fit_from put_from
  version_put a b c d = set_slots K.DeviceIdentity _ _ refl _ _ _ refl refl
