-- What the proofs of the methods on a record go by: what to unfold, and who lacks a field. Closed by cases on the kind.
use Rattle.std.specs.Prelude.{Err}
use Prim.Native.Nat.{ℕ, ◌<◌, ◌≤◌}
use mathlib.Core.Path.{◌≡◌, refl, sym, ◌∙◌, subst}
use mathlib.Core.Bool.{Bool, false, not}
use mathlib.Core.Logic.{⊎_elim}
use mathlib.Core.List.{List, [], ◌∷◌}
use native.Mathlib.Omega.{arith}
use lib.Dec.{ltb, eqb}
use Rattle.std.specs.List.{list_any}
use borrow.Author.Tests.{lt-ltb, le-ltb, ne_eqb}
use Rattle.laws.specs.Pick.{pick, both}
use Rattle.laws.proofs.Pick.{below}
use Rattle.slots.specs.Slots.{those, fits}
use Rattle.kinds.specs.declared.kind.Kind.{Kind}
use Rattle.kinds.specs.declared.kind.Kind.TheVariants as K
use Rattle.kinds.specs.declared.refusal.Refusal.TheVariants.{NoSuchField}
use Rattle.kinds.specs.Fields.{Number, Field, Setting, field_in, same, decided, part_of}
use Rattle.kinds.specs.Layout.{layout, none, slots_of}
use Rattle.kinds.proofs.Codes.{bit_flag, hint_back, port_back, direction_back, hint_fits, port_fits, direction_fits}
use Rattle.kinds.proofs.Homes.{one_status, elsewhere}
use Rattle.counts.specs.declared.PacketNumber.{PacketNumber}
use Rattle.records.specs.declared.endpoint_discovery.EndpointDiscovery.{EndpointDiscovery}
use Rattle.records.specs.declared.endpoint_info.EndpointInfo.{EndpointInfo}
use Rattle.records.specs.declared.device_identity.DeviceIdentity.{DeviceIdentity}
use Rattle.records.specs.declared.function_block_info.FunctionBlockInfo.{FunctionBlockInfo}
use Rattle.records.specs.declared.message.Message.{Message}
use Rattle.records.specs.declared.message.Message.TheVariants as M
use Rattle.records.specs.declared.answers.Edited.{Edited}
use Rattle.records.specs.Records.{kind_in, record_of, fields_in, lookup}
use Rattle.records.specs.Settings.{edited, set_record, septets}
use Rattle.records.proofs.Settings.{lacking}

-- ---- which record the last arm of a match has: none of the kinds that the other arms have
-- the message is no record of this kind, as the last arm of a match says it
abbrev pub IsNot : Kind → Message → Type 0
IsNot K.EndpointDiscovery m = (x : EndpointDiscovery) → m ≡ M.EndpointDiscovery x → ⊥
IsNot K.EndpointInfo m = (x : EndpointInfo) → m ≡ M.EndpointInfo x → ⊥
IsNot K.DeviceIdentity m = (x : DeviceIdentity) → m ≡ M.DeviceIdentity x → ⊥
IsNot K.EndpointName m = (n : PacketNumber) → m ≡ M.EndpointName n → ⊥
IsNot K.ProductInstanceId m = (n : PacketNumber) → m ≡ M.ProductInstanceId n → ⊥
IsNot K.FunctionBlockInfo m = (x : FunctionBlockInfo) → m ≡ M.FunctionBlockInfo x → ⊥
IsNot K.FunctionBlockName m = (b : ℕ) (n : PacketNumber) → m ≡ M.FunctionBlockName b n → ⊥

own_kind : (m : Message) → IsNot (kind_in m) m → ⊥
own_kind (M.EndpointDiscovery x) d = d x refl
own_kind (M.EndpointInfo x) d = d x refl
own_kind (M.DeviceIdentity x) d = d x refl
own_kind (M.EndpointName n) d = d n refl
own_kind (M.ProductInstanceId n) d = d n refl
own_kind (M.FunctionBlockInfo x) d = d x refl
own_kind (M.FunctionBlockName b n) d = d b n refl

other_kind : (k : Kind) (m : Message) → IsNot k m → kind_in m ≡ k → ⊥
other_kind k m d e = own_kind m (subst (λ (j : Kind). IsNot j m) (sym e) d)

-- to unfold this is to unfold what computes a setting on a record of a known kind
unfoldable pub setting : Unit {0}
unfolding layout those same decided fits both part_of record_of fields_in lookup septets set_record
setting = tt

-- ---- the field is another kind's
pub other : (k : Kind) (s : Setting) (m : Message) → IsNot k m → none (slots_of (field_in s) (layout k).fields) ≡ false → set_record s m ≡ edited m (Err NoSuchField)
other k s m o h = sym (lacking s m (elsewhere k (kind_in m) (field_in s) h (other_kind k m o)))

-- an answer that says so is the one of the setting
module _ (s : Setting) {m : Message} {r : Edited} where
  pub refused_other : (k : Kind) → none (slots_of (field_in s) (layout k).fields) ≡ false → r ≡ edited m (Err NoSuchField) → IsNot k m → r ≡ set_record s m
  refused_other k h e o = e ∙ sym (other k s m o h)

module _ (s : Setting) (m : Message) where
  pub other_discovery : IsNot K.EndpointDiscovery m → none (slots_of (field_in s) (layout K.EndpointDiscovery).fields) ≡ false → set_record s m ≡ edited m (Err NoSuchField)
  other_discovery = other K.EndpointDiscovery s m

  pub other_info : IsNot K.EndpointInfo m → none (slots_of (field_in s) (layout K.EndpointInfo).fields) ≡ false → set_record s m ≡ edited m (Err NoSuchField)
  other_info = other K.EndpointInfo s m

  pub other_identity : IsNot K.DeviceIdentity m → none (slots_of (field_in s) (layout K.DeviceIdentity).fields) ≡ false → set_record s m ≡ edited m (Err NoSuchField)
  other_identity = other K.DeviceIdentity s m

  pub other_block : IsNot K.FunctionBlockInfo m → none (slots_of (field_in s) (layout K.FunctionBlockInfo).fields) ≡ false → set_record s m ≡ edited m (Err NoSuchField)
  other_block = other K.FunctionBlockInfo s m

  pub other_block_name : IsNot K.FunctionBlockName m → none (slots_of (field_in s) (layout K.FunctionBlockName).fields) ≡ false → set_record s m ≡ edited m (Err NoSuchField)
  other_block_name = other K.FunctionBlockName s m

-- a block has choices too: each comes back from its code, and its code fits
pub ruleset block_laws = (other_block, bit_flag, hint_back, port_back, direction_back, hint_fits, port_fits, direction_fits)

-- the version, where the record is neither a discovery nor an endpoint info
pub no_version : (a b : Number) (n : ℕ) (m : Message) → IsNot K.EndpointDiscovery m → IsNot K.EndpointInfo m → none (slots_of (Field.number b) (layout K.EndpointInfo).fields) ≡ false → set_record (Setting.number (pick (eqb (layout (kind_in m)).status 0) a b) n) m ≡ edited m (Err NoSuchField)
unfolding layout
no_version a b n m d i h =
    let e : eqb (layout (kind_in m)).status 0 ≡ false = ne_eqb _ 0 (λ e. other_kind K.EndpointDiscovery m d (one_status (kind_in m) K.EndpointDiscovery e)) in
    rw e (other K.EndpointInfo (Setting.number b n) m i h)

-- ---- a number above 127 is one that is no septet
abbrev pub above_127 : ℕ → Bool
above_127 x = ltb 127 x

pub any_above : (xs : List ℕ) → list_any above_127 xs ≡ not (septets xs)
unfolding septets both
any_above [] = refl
any_above (x ∷ xs) = ⊎_elim (λ (h : 127 < x). rw (lt-ltb 127 x h, le-ltb x 128 (omega arith))) (λ (h : x ≤ 127). rw (le-ltb 127 x h, lt-ltb x 128 (omega arith)) (any_above xs)) (below 127 x)
