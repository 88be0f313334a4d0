-- What a setting on a record does, for every setting: refused, nothing; accepted, its field has its value and every other field its old one.
-- Closed by computing the records at each kind once, and induction on the table.
use Rattle.std.specs.Prelude.{Ok, Err}
use Prim.Native.Nat.{ℕ}
use mathlib.Core.Path.{◌≡◌, refl, sym, ap, ◌∙◌}
use mathlib.Core.Bool.{true, false}
use mathlib.Core.List.{List}
use Rattle.laws.specs.Pick.{both}
use Rattle.laws.specs.Lists.{each}
use Rattle.laws.proofs.Pick.{never, split}
use Rattle.kinds.specs.declared.kind.Kind.{Kind}
use Rattle.kinds.specs.declared.refusal.Refusal.{Refusal}
use Rattle.kinds.specs.declared.refusal.Refusal.TheVariants.{NumberTooLarge, NoSuchField}
use Rattle.kinds.specs.Fields.{Text, Field, Setting, same, decided, field_in, value_in}
use Rattle.kinds.specs.Layout.{layout}
use Rattle.kinds.proofs.Codes.{bit_flag, hint_back, port_back, direction_back}
use Rattle.kinds.proofs.Rows.{every_kind, at_kind}
use Rattle.kinds.proofs.Homes.{each_field, each-field}
use Rattle.kinds.proofs.Fields.{same_refl}
use Rattle.records.specs.declared.message.Message.{Message}
use Rattle.records.specs.declared.message.Message.TheVariants as M
use Rattle.records.specs.declared.answers.Edited.{Edited}
use Rattle.records.specs.Records.{kind_in, packets_in, record_of, values_of, first_part, in_order}
use Rattle.records.specs.Settings.{with, lacks, is_too_large, edited, set_record, set_edited, followed}
use Rattle.records.proofs.Records.{again, is_in, values_kept, record_back, record_kind}
use Rattle.records.proofs.Settings.{lacking, too_large, made, no_text}

-- ---- the three outcomes
new_record : Setting → Message → Message
new_record s m = record_of (kind_in m) (packets_in m) (with (field_in s) (value_in s) (values_of m))

module _ (s : Setting) (m : Message) where
  outcomes : {X : Type 0} → (set_record s m ≡ edited m (Err NoSuchField) → X) → (set_record s m ≡ edited m (Err NumberTooLarge) → X) → (lacks (layout (kind_in m)).fields s ≡ false → set_record s m ≡ edited (new_record s m) (Ok tt) → X) → X
  unfolding new_record
  outcomes a b c =
      split (lacks (layout (kind_in m)).fields s) (λ l. a (sym (lacking s m l)))
      (λ l. split (is_too_large (layout (kind_in m)).fields s) (λ t. b (sym (too_large s m l t))) (λ t. c l (sym (made s m l t refl))))

  -- a refused setting hands the record back unchanged
  pub refused_kept : (r : Refusal) → (set_record s m).answer ≡ Err r → (set_record s m).message ≡ m
  refused_kept r e = outcomes (λ q. ap (λ (x : Edited). x.message) q) (λ q. ap (λ (x : Edited). x.message) q) (λ l q. never (cc))

  -- what is said where one is accepted
  accepted : (set_record s m).answer ≡ Ok tt → (lacks (layout (kind_in m)).fields s ≡ false) × ((set_record s m).message ≡ new_record s m)
  accepted e = outcomes (λ q. never (cc)) (λ q. never (cc)) (λ l q. (l, ap (λ (x : Edited). x.message) q))

-- text is refused
pub text_refused : (t : Text) (bytes : List ℕ) (m : Message) → set_record (Setting.text t bytes) m ≡ edited m (Err NoSuchField)
text_refused t bytes m = sym (no_text t bytes m)

-- ---- a setting's value is kept whole
again_all : (s : Setting) → again (field_in s) (value_in s) ≡ value_in s
unfolding again
again_all (Setting.flag f b) = rw (bit_flag b)
again_all (Setting.number n x) = refl
again_all (Setting.pair p x) = refl
again_all (Setting.ui_hint h) = rw (hint_back h)
again_all (Setting.midi1_port p) = rw (port_back p)
again_all (Setting.direction d) = rw (direction_back d)
again_all (Setting.device_manufacturer a b c) = refl
again_all (Setting.software_version a b c d) = refl
again_all (Setting.text t bytes) = refl

-- a field that the table has is one of the record
rows_in : (k : Kind) → each_field (λ f. is_in f (in_order k)) (layout k).fields ≡ true
unfolding every_kind each_field is_in layout each first_part same decided both
rows_in k = at_kind (λ j. each_field (λ f. is_in f (in_order j)) (layout j).fields) refl k

new_packets : (m : Message) (v : Field → List ℕ) → packets_in (record_of (kind_in m) (packets_in m) v) ≡ packets_in m
unfolding record_of
new_packets (M.EndpointDiscovery e) v = refl
new_packets (M.EndpointInfo e) v = refl
new_packets (M.DeviceIdentity e) v = refl
new_packets (M.EndpointName n) v = refl
new_packets (M.ProductInstanceId n) v = refl
new_packets (M.FunctionBlockInfo e) v = refl
new_packets (M.FunctionBlockName b n) v = refl

-- ---- the field set, and every other
module _ (s : Setting) (m : Message) where
  pub set_reads : (set_record s m).answer ≡ Ok tt → values_of (set_record s m).message (field_in s) ≡ value_in s
  unfolding new_record
  set_reads e =
      let a = accepted s m e in
      rw a.1 (values_kept (kind_in m) (packets_in m) (with (field_in s) (value_in s) (values_of m)) (field_in s) ∙ rw (each-field (λ f. is_in f (in_order (kind_in m))) (layout (kind_in m)).fields (field_in s) (rows_in (kind_in m)) a.0, same_refl (field_in s)) (again_all s))

  pub set_keeps : (g : Field) → same g (field_in s) ≡ false → values_of (set_record s m).message g ≡ values_of m g
  unfolding new_record
  set_keeps g d =
      outcomes s m (λ q. rw q) (λ q. rw q)
      (λ l q. rw q
      (values_kept (kind_in m) (packets_in m) (with (field_in s) (value_in s) (values_of m)) g ∙ rw d (sym (values_kept (kind_in m) (packets_in m) (values_of m) g) ∙ ap (λ (x : Message). values_of x g) (record_back m))))

  -- the kind and the packets stay
  pub set_kind : kind_in (set_record s m).message ≡ kind_in m
  unfolding new_record
  set_kind = outcomes s m (λ q. rw q) (λ q. rw q) (λ l q. rw q (record_kind (kind_in m) (packets_in m) _))

  pub set-packets : packets_in (set_record s m).message ≡ packets_in m
  unfolding new_record
  set-packets = outcomes s m (λ q. rw q) (λ q. rw q) (λ l q. rw q (new_packets m _))

-- ---- a chain
-- its record is that of its settings one after another, whatever was refused; its answer is the first refusal
module _ (s : Setting) (e : Edited) where
  pub chain_record : (set_edited s e).message ≡ (set_record s e.message).message
  unfolding followed
  chain_record = refl

  pub chain_refused : (r : Refusal) → e.answer ≡ Err r → (set_edited s e).answer ≡ Err r
  unfolding followed
  chain_refused r q = rw q

  pub chain_done : e.answer ≡ Ok tt → (set_edited s e).answer ≡ (set_record s e.message).answer
  unfolding followed
  chain_done q = rw q
