-- Settings on a record: refusals 13 then 12; else the record with the field's new value.
use Rattle.std.specs.Prelude.{ℕ, Bool, true, not, List, [], ◌∷◌, ltb, eqb, Result, Ok, Err}
use Rattle.laws.specs.Pick.{pick, both}
use Rattle.slots.specs.Slots.{Slot, fits}
use Rattle.kinds.specs.declared.kind.Kind.{Kind}
use Rattle.kinds.specs.declared.refusal.Refusal.TheVariants.{NumberTooLarge, NoSuchField}
use Rattle.records.specs.declared.message.Message.{Message}
use Rattle.records.specs.declared.answers.Edited.{Edited}
use Rattle.kinds.specs.Fields.{Number, Text, Field, Setting, field_in, value_in, same}
use Rattle.table.specs.declared.names.NumberName.{NumberName}
use Rattle.table.specs.declared.names.NumberName.TheVariants as N
use Rattle.kinds.specs.Layout.{Part, layout, none, slots_of, numbers_set}
use Rattle.records.specs.Records.{kind_in, packets_in, record_of, values_of}
use Rattle.kinds.specs.declared.refusal.Refusal.{Refusal}

-- the values with one field changed
abbrev pub with : Field → List ℕ → (Field → List ℕ) → Field → List ℕ
with f x v g = pick (same g f) x (v g)

-- a table has no slot for the setting's field: text has none
abbrev pub lacks : List (Slot Part) → Setting → Bool
lacks t s = none (slots_of (field_in s) t)

-- a number is above its field's largest
abbrev pub is_too_large : List (Slot Part) → Setting → Bool
is_too_large t s = not (fits (slots_of (field_in s) t) (numbers_set s))

abbrev pub edited : Message → Result (Unit {0}) Refusal → Edited
edited m a = record { message = m; answer = a }

-- A SETTING ON A RECORD: refused, it hands the record back unchanged
unfoldable pub set_record : Setting → Message → Edited
set_record s m =
    pick (lacks (layout (kind_in m)).fields s) (edited m (Err NoSuchField))
    (pick (is_too_large (layout (kind_in m)).fields s) (edited m (Err NumberTooLarge))
    (edited (record_of (kind_in m) (packets_in m) (with (field_in s) (value_in s) (values_of m))) (Ok tt)))

-- ---- names that two kinds have
-- the version: of status 0x00 the discovery's, else the endpoint info's, which every other kind lacks
abbrev pub major_of : Kind → Number
major_of k = pick (eqb (layout k).status 0x00) Number.discovery_version_major Number.info_version_major

abbrev pub minor_of : Kind → Number
minor_of k = pick (eqb (layout k).status 0x00) Number.discovery_version_minor Number.info_version_minor

-- the name: of status 0x12 the function block's, else the endpoint's
abbrev pub name_of : Kind → Text
name_of k = pick (eqb (layout k).status 0x12) Text.function_block_name Text.endpoint_name

-- a number of a record by its name: a version is that of the record's own kind
abbrev pub number_in : NumberName → ℕ → Message → Setting
number_in N.DiscoveryVersionMajor x m = Setting.number (major_of (kind_in m)) x
number_in N.DiscoveryVersionMinor x m = Setting.number (minor_of (kind_in m)) x
number_in N.InfoVersionMajor x m = Setting.number (major_of (kind_in m)) x
number_in N.InfoVersionMinor x m = Setting.number (minor_of (kind_in m)) x
number_in N.NumberOfFunctionBlocks x m = Setting.number Number.number_of_function_blocks x
number_in N.FunctionBlockNumber x m = Setting.number Number.function_block_number x
number_in N.FirstGroup x m = Setting.number Number.first_group x
number_in N.NumberOfGroupsSpanned x m = Setting.number Number.number_of_groups_spanned x
number_in N.MidiCiVersion x m = Setting.number Number.midi_ci_version x
number_in N.MaxNumberOfMidiCiStreams x m = Setting.number Number.max_number_of_midi_ci_streams x

-- ---- steps of the settings
-- each number is one of seven bits
unfoldable pub septets : List ℕ → Bool
septets [] = true
septets (x ∷ xs) = both (ltb x 128) (septets xs)

-- ---- a chain
-- a chain keeps its first refusal, and goes on with the record handed back
abbrev first_refusal : Result (Unit {0}) Refusal → Result (Unit {0}) Refusal → Result (Unit {0}) Refusal
first_refusal (Ok tt) b = b
first_refusal (Err r) b = Err r

unfoldable pub followed : Edited → Edited → Edited
followed a b = edited b.message (first_refusal a.answer b.answer)

abbrev pub set_edited : Setting → Edited → Edited
set_edited s e = followed e (set_record s e.message)
