-- THE SETTING OF A FIELD THAT IS ONE NUMBER is that number set among the record's numbers. Closed by computing the table at each name.
use Rattle.std.specs.Prelude.{Ok, Err}
use Prim.Native.Nat.{ℕ, ◌^◌}
use mathlib.Core.Path.{◌≡◌, refl, sym, ap, subst, ◌∙◌}
use mathlib.Core.Bool.{Bool, true, false, not}
use mathlib.Core.List.{List}
use lib.ListN.{length}
use lib.Dec.{ltb}
use Rattle.laws.specs.Pick.{both}
use Rattle.laws.specs.Lists.{each}
use Rattle.laws.proofs.Pick.{both_alone}
use Rattle.slots.specs.Slots.{fits, those}
use Rattle.kinds.specs.declared.kind.Kind.{Kind}
use Rattle.kinds.specs.declared.kind.Kind.TheVariants as K
use Rattle.kinds.specs.declared.refusal.Refusal.TheVariants.{NumberTooLarge, NoSuchField}
use Rattle.kinds.specs.Fields.{Field, Setting, field_in, value_in, same, decided, start, part_of, bit}
use Rattle.kinds.specs.Layout.{layout, none, slots_of}
use Rattle.kinds.proofs.Codes.{bit_flag}
use Rattle.kinds.proofs.Homes.{elsewhere}
use Rattle.table.specs.declared.names.FlagName.{FlagName}
use Rattle.table.specs.declared.names.FlagName.TheVariants as F
use Rattle.table.specs.declared.names.NumberName.{NumberName}
use Rattle.table.specs.declared.names.NumberName.TheVariants as N
use Rattle.table.specs.Named.{flag_named, number_named, flag_at, number_at}
use Rattle.table.specs.Places.{slot_at}
use Rattle.records.specs.declared.message.Message.{Message}
use Rattle.records.specs.Records.{kind_in, packets_in, record_of, fields_in, lookup, values_of, first_part}
use Rattle.records.specs.Settings.{with, is_too_large, edited, set_record}
use Rattle.records.proofs.Records.{record_back}
use Rattle.records.proofs.Settings.{lacking, too_large, made}
use Rattle.numbers.specs.declared.Numbers.{Numbers}
use Rattle.numbers.specs.Numbers.{as_numbers}
use Rattle.numbers.specs.FromNumbers.{trimmed}
use Rattle.numbers.specs.SetOne.{with_number}

-- ---- the setting of one number
-- the setting's field is slot i of kind k, and x is its number
pub record OneNumber (k : Kind) (i x : ℕ) (s : Setting) : Type 0 where
  pub has : none (slots_of (field_in s) (layout k).fields) ≡ false
  pub large : is_too_large (layout k).fields s ≡ not (both (ltb x (2 ^ (slot_at (layout k).fields i).span)) true)
  pub put : (n : ℕ) (v : Field → List ℕ) → as_numbers (record_of k n (with (field_in s) (value_in s) v)) ≡ with_number (length (layout k).fields) i x (as_numbers (record_of k n v))

-- to unfold this is to unfold what computes a record's numbers at a kind
unfoldable pub computed : Unit {0}
unfolding layout those same decided fits part_of record_of fields_in lookup each first_part
computed = tt

pub flag_one : (f : FlagName) (b : Bool) → OneNumber (flag_at f).kind (flag_at f).slot (bit b) (Setting.flag (flag_named f) b)
unfolding computed
flag_one F.RequestEndpointInfo b = record { has = refl; large = refl; put = λ n v. simp bit_flag }
flag_one F.RequestDeviceIdentity b = record { has = refl; large = refl; put = λ n v. simp bit_flag }
flag_one F.RequestEndpointName b = record { has = refl; large = refl; put = λ n v. simp bit_flag }
flag_one F.RequestProductInstanceId b = record { has = refl; large = refl; put = λ n v. simp bit_flag }
flag_one F.RequestStreamConfiguration b = record { has = refl; large = refl; put = λ n v. simp bit_flag }
flag_one F.StaticFunctionBlocks b = record { has = refl; large = refl; put = λ n v. simp bit_flag }
flag_one F.SupportsMidi2Protocol b = record { has = refl; large = refl; put = λ n v. simp bit_flag }
flag_one F.SupportsMidi1Protocol b = record { has = refl; large = refl; put = λ n v. simp bit_flag }
flag_one F.SupportsReceivingJrTimestamps b = record { has = refl; large = refl; put = λ n v. simp bit_flag }
flag_one F.SupportsSendingJrTimestamps b = record { has = refl; large = refl; put = λ n v. simp bit_flag }
flag_one F.Active b = record { has = refl; large = refl; put = λ n v. simp bit_flag }

pub number_one : (n : NumberName) (x : ℕ) → OneNumber (number_at n).kind (number_at n).slot x (Setting.number (number_named n) x)
unfolding computed
number_one N.DiscoveryVersionMajor x = record { has = refl; large = refl; put = λ n v. refl }
number_one N.DiscoveryVersionMinor x = record { has = refl; large = refl; put = λ n v. refl }
number_one N.InfoVersionMajor x = record { has = refl; large = refl; put = λ n v. refl }
number_one N.InfoVersionMinor x = record { has = refl; large = refl; put = λ n v. refl }
number_one N.NumberOfFunctionBlocks x = record { has = refl; large = refl; put = λ n v. refl }
number_one N.FunctionBlockNumber x = record { has = refl; large = refl; put = λ n v. refl }
number_one N.FirstGroup x = record { has = refl; large = refl; put = λ n v. refl }
number_one N.NumberOfGroupsSpanned x = record { has = refl; large = refl; put = λ n v. refl }
number_one N.MidiCiVersion x = record { has = refl; large = refl; put = λ n v. refl }
number_one N.MaxNumberOfMidiCiStreams x = record { has = refl; large = refl; put = λ n v. refl }

-- numbers past the kind's last, and the packets, are not looked at
pub trimmed-set : (k : Kind) (i x : ℕ) (c : Numbers) → with_number (length (layout k).fields) i x (trimmed k c) ≡ with_number (length (layout k).fields) i x c
unfolding layout each start first_part
trimmed-set K.EndpointDiscovery i x c = refl
trimmed-set K.EndpointInfo i x c = refl
trimmed-set K.DeviceIdentity i x c = refl
trimmed-set K.EndpointName i x c = refl
trimmed-set K.ProductInstanceId i x c = refl
trimmed-set K.FunctionBlockInfo i x c = refl
trimmed-set K.FunctionBlockName i x c = refl

-- ---- the setting on a record: 13, 12, or the number set
module _ (k : Kind) (i x : ℕ) (s : Setting) (o : OneNumber k i x s) (m : Message) where
  pub one_elsewhere : (kind_in m ≡ k → ⊥) → edited m (Err NoSuchField) ≡ set_record s m
  one_elsewhere h = lacking s m (elsewhere k (kind_in m) (field_in s) o.has h)

  module _ (e : kind_in m ≡ k) where
    pub one_large : ltb x (2 ^ (slot_at (layout k).fields i).span) ≡ false → edited m (Err NumberTooLarge) ≡ set_record s m
    one_large h = too_large s m (rw e o.has) (rw e (o.large ∙ rw (both_alone (ltb x (2 ^ (slot_at (layout k).fields i).span)), h)))

    -- the record after the setting
    abbrev one_done : Message
    one_done = record_of (kind_in m) (packets_in m) (with (field_in s) (value_in s) (values_of m))

    pub one_done_lem : ltb x (2 ^ (slot_at (layout k).fields i).span) ≡ true → edited one_done (Ok tt) ≡ set_record s m
    one_done_lem h = made s m (rw e o.has) (rw e (o.large ∙ rw (both_alone (ltb x (2 ^ (slot_at (layout k).fields i).span)), h))) refl

    pub one_numbers : as_numbers one_done ≡ with_number (length (layout k).fields) i x (as_numbers m)
    one_numbers =
        subst (λ (j : Kind). as_numbers (record_of j (packets_in m) (with (field_in s) (value_in s) (values_of m))) ≡ with_number (length (layout k).fields) i x (as_numbers (record_of j (packets_in m) (values_of m)))) (sym e) (o.put (packets_in m) (values_of m)) ∙ ap (λ (y : Message). with_number (length (layout k).fields) i x (as_numbers y)) (record_back m)
