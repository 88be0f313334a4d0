-- A SETTING ON A RECORD FROM C, and a flag or a number set among the record's numbers. Closed by the laws of the kinds' homes and of `OneNumber` of numbers.
use Rattle.std.specs.Result.{MatchResult, IsOkAnd}
use Rattle.std.specs.Prelude.{Option, Some, None, Result, Ok, Err}
use Prim.Native.Nat.{ℕ, ◌^◌}
use mathlib.Core.Path.{◌≡◌, refl, sym, ap, ◌∙◌}
use mathlib.Core.Bool.{Bool, true, false}
use lib.ListN.{length}
use lib.Dec.{ltb, leb, eqb}
use borrow.Author.Tests.{lt-ltb, le-ltb, leb-true, leb-false, eq-eqb, ne_eqb, eqb-true, eqb-false}
use Rattle.laws.specs.Pick.{pick}
use Rattle.laws.proofs.Pick.{split, here, past}
use Rattle.kinds.specs.declared.kind.Kind.{Kind}
use Rattle.kinds.specs.declared.refusal.Refusal.{Refusal}
use Rattle.kinds.specs.declared.refusal.Refusal.TheVariants.{NumberTooLarge}
use Rattle.kinds.specs.declared.kind.Kind.TheVariants as K
use Rattle.kinds.specs.declared.choices.UiHint.{UiHint}
use Rattle.kinds.specs.declared.choices.Midi1Port.{Midi1Port}
use Rattle.kinds.specs.declared.choices.Direction.{Direction}
use Rattle.kinds.specs.Fields.{Number, Pair, Setting, field_in, bit}
use Rattle.kinds.specs.Layout.{layout, kinds, kind_of, none, slots_of}
use Rattle.kinds.proofs.Homes.{elsewhere}
use Rattle.kinds.proofs.Rows.{status_kind, among_status}
use Rattle.table.specs.declared.names.FlagName.{FlagName}
use Rattle.table.specs.declared.names.NumberName.{NumberName}
use Rattle.table.specs.declared.names.FieldAt.{FieldAt}
use Rattle.table.specs.Places.{slot_at}
use Rattle.table.specs.Named.{flag_named, number_named, flag_at, number_at, FieldIs}
use Rattle.records.specs.declared.message.Message.{Message}
use Rattle.records.specs.declared.answers.Edited.{Edited}
use Rattle.records.specs.Settings.{set_record}
use Rattle.numbers.specs.declared.Numbers.{Numbers}
use Rattle.numbers.specs.FromNumbers.{other_kind, from_own}
use Rattle.numbers.specs.SetOne.{checked, with_number}
use Rattle.numbers.proofs.Accepted.{own_status, other_status}
use Rattle.numbers.proofs.Back.{accepted-numbers, accepted_kind}
use Rattle.numbers.proofs.OneNumber.{OneNumber, computed, flag_one, number_one, trimmed-set, one_large, one_done_lem, one_numbers}
use Rattle.c_structs.specs.declared.answers.RecordAnswer.{RecordAnswer}
use Rattle.c_structs.specs.Crossed.{with_numbers, with_refusal, edited_crossed, set_crossed}
use Rattle.frayedbin.specs.Calls.{set_from, set_known, set_in, one_from, one_in}

-- A SETTING GOES TO THE KIND THAT HAS ITS FIELD: every other kind lacks it
pub own_set : (k : Kind) (s : Setting) (c : Numbers) → none (slots_of (field_in s) (layout k).fields) ≡ false → set_in (λ j. s) c ≡ set_from (from_own k c) s c
own_set k s c h = split (eqb c.status (layout k).status) own other
  where
    own : eqb c.status (layout k).status ≡ true → set_in (λ j. s) c ≡ set_from (from_own k c) s c
    own e =
        let q = eqb-true _ _ e in
        ap (λ (n : (Option Kind)). set_known n (λ j. s) c) (ap kind_of q ∙ status_kind k) ∙ sym (past _ h refl) ∙ ap (λ (g : (Result Message Refusal)). set_from g s c) (sym (own_status k c q))

    go : eqb c.status (layout k).status ≡ false → (n : (Option Kind)) → kind_of c.status ≡ n → set_known n (λ j. s) c ≡ set_from (Err (other_kind n)) s c
    go e None q = refl
    go e (Some j) q =
        sym (here _ (elsewhere k j (field_in s) h (λ d. eqb-false _ _ e (among_status kinds c.status j q ∙ ap (λ (i : Kind). (layout i).status) d))) refl)

    other : eqb c.status (layout k).status ≡ false → set_in (λ j. s) c ≡ set_from (from_own k c) s c
    other e = go e (kind_of c.status) refl ∙ ap (λ (g : (Result Message Refusal)). set_from g s c) (sym (other_status k c (eqb-false _ _ e)))

-- ---- a setting by its kind: what is answered for a record of the kind is answered for every record
-- a setting made on what was read as a record, if it was one
abbrev Made : Setting → Result Message Refusal → Result Edited Refusal → Type 0
Made s g e = MatchResult g (λ m. IsOkAnd e (λ x. x ≡ set_record s m)) (λ r. e ≡ Err r)

made_crossed : (s : Setting) (c : Numbers) (g : Result Message Refusal) (e : Result Edited Refusal) → Made s g e → set_crossed e c ≡ set_from g s c
made_crossed s c (Ok m) (Ok e) h = rw h
made_crossed s c (Ok m) (Err r) h = absurd h
made_crossed s c (Err r) e h = rw h

module _ (c : Numbers) {g : Result Message Refusal} (e : Result Edited Refusal) {r : RecordAnswer} (a : r ≡ set_crossed e c) where
  by_kind : (k : Kind) (s : Setting) → none (slots_of (field_in s) (layout k).fields) ≡ false → g ≡ from_own k c → Made s g e → r ≡ set_in (λ j. s) c
  by_kind k s h q m = a ∙ made_crossed s c g e m ∙ rw q (sym (own_set k s c h))

  pub hint_own : (h : UiHint) → g ≡ from_own K.FunctionBlockInfo c → Made (Setting.ui_hint h) g e → r ≡ set_in (λ k. Setting.ui_hint h) c
  unfolding computed
  hint_own h = by_kind K.FunctionBlockInfo (Setting.ui_hint h) refl

  pub port_own : (p : Midi1Port) → g ≡ from_own K.FunctionBlockInfo c → Made (Setting.midi1_port p) g e → r ≡ set_in (λ k. Setting.midi1_port p) c
  unfolding computed
  port_own p = by_kind K.FunctionBlockInfo (Setting.midi1_port p) refl

  pub direction_own : (d : Direction) → g ≡ from_own K.FunctionBlockInfo c → Made (Setting.direction d) g e → r ≡ set_in (λ k. Setting.direction d) c
  unfolding computed
  direction_own d = by_kind K.FunctionBlockInfo (Setting.direction d) refl

  pub pair_own : (p : Pair) (x : ℕ) → g ≡ from_own K.DeviceIdentity c → Made (Setting.pair p x) g e → r ≡ set_in (λ k. Setting.pair p x) c
  unfolding computed
  pair_own Pair.device_family x = by_kind K.DeviceIdentity (Setting.pair Pair.device_family x) refl
  pair_own Pair.device_family_model_number x = by_kind K.DeviceIdentity (Setting.pair Pair.device_family_model_number x) refl

  pub manufacturer_own : (x y z : ℕ) → g ≡ from_own K.DeviceIdentity c → Made (Setting.device_manufacturer x y z) g e → r ≡ set_in (λ k. Setting.device_manufacturer x y z) c
  unfolding computed
  manufacturer_own x y z = by_kind K.DeviceIdentity (Setting.device_manufacturer x y z) refl

  pub version_own : (w x y z : ℕ) → g ≡ from_own K.DeviceIdentity c → Made (Setting.software_version w x y z) g e → r ≡ set_in (λ k. Setting.software_version w x y z) c
  unfolding computed
  version_own w x y z = by_kind K.DeviceIdentity (Setting.software_version w x y z) refl

  pub block_own : (x : ℕ) → g ≡ from_own K.FunctionBlockName c → Made (Setting.number Number.function_block x) g e → r ≡ set_in (λ k. Setting.number Number.function_block x) c
  unfolding computed
  block_own x = by_kind K.FunctionBlockName (Setting.number Number.function_block x) refl

-- ---- a name that two kinds have: of status 0x00 the setting a, else b
module _ (a b : Number) (v : ℕ) (c : Numbers) where
  abbrev by_status : Kind → Setting
  by_status k = Setting.number (pick (eqb (layout k).status 0x00) a b) v

  pub first-name : c.status ≡ 0 → set_in (λ k. Setting.number a v) c ≡ set_in by_status c
  first-name e = go (kind_of c.status) refl
    where
      go : (n : (Option Kind)) → kind_of c.status ≡ n → set_known n (λ k. Setting.number a v) c ≡ set_known n by_status c
      go None q = refl
      go (Some j) q = rw (eq-eqb (layout j).status 0 (sym (among_status kinds c.status j q) ∙ e))

  pub second-name : (c.status ≡ 0 → ⊥) → set_in (λ k. Setting.number b v) c ≡ set_in by_status c
  second-name n = go (kind_of c.status) refl
    where
      go : (m : (Option Kind)) → kind_of c.status ≡ m → set_known m (λ k. Setting.number b v) c ≡ set_known m by_status c
      go None q = refl
      go (Some j) q = rw (ne_eqb (layout j).status 0 (λ e. n (among_status kinds c.status j q ∙ e)))

-- ---- one number
-- what crosses of a setting
crossed : (e : Edited) (s : Setting) (m : Message) (c : Numbers) → e ≡ set_record s m → edited_crossed (set_record s m).answer (set_record s m).message c ≡ edited_crossed e.answer e.message c
crossed e s m c q = ap (λ (x : Edited). edited_crossed x.answer x.message c) (sym q)

module _ (k : Kind) (i x : ℕ) (s : Setting) (o : OneNumber k i x s) (c : Numbers) where
  from_message : (m : Message) → from_own k c ≡ Ok m → set_from (Ok m) s c ≡ one_from (Ok m) k i x c
  from_message m q =
      let e = accepted_kind k c m q in
      split (ltb x (2 ^ (slot_at (layout k).fields i).span))
      (λ l. rw l (crossed _ s m c (one_done_lem k i x s o m e l) ∙ ap with_numbers (one_numbers k i x s o m e ∙ ap (with_number (length (layout k).fields) i x) (accepted-numbers k c m q) ∙ trimmed-set k i x c)))
      (λ l. rw l (crossed _ s m c (one_large k i x s o m e l)))

  one_set : set_in (λ j. s) c ≡ one_in k i x c
  one_set = own_set k s c o.has ∙ go (from_own k c) refl
    where
      go : (g : (Result Message Refusal)) → from_own k c ≡ g → set_from g s c ≡ one_from g k i x c
      go (Ok m) q = from_message m q
      go (Err r) q = refl

-- A FLAG and A NUMBER by name
pub flag-set : (f : FlagName) (b : Bool) (c : Numbers) {a : FieldAt} → FieldIs (flag_at f) a → one_in a.kind a.slot (bit b) c ≡ set_in (λ k. Setting.flag (flag_named f) b) c
flag-set f b c at = rw (at.kind, at.slot) (sym (one_set _ _ _ _ (flag_one f b) c))

pub number-set : (n : NumberName) (x : ℕ) (c : Numbers) {a : FieldAt} → FieldIs (number_at n) a → one_in a.kind a.slot x c ≡ set_in (λ k. Setting.number (number_named n) x) c
number-set n x c at = rw (at.kind, at.slot) (sym (one_set _ _ _ _ (number_one n x) c))

-- ---- how the code reaches each answer
module _ (k : Kind) (i x : ℕ) (c : Numbers) where
  pub in_refused : {r : Refusal} → checked (from_own k c) ≡ Err r → with_refusal r c ≡ one_in k i x c
  in_refused {r} = go (from_own k c)
    where
      go : (g : (Result Message Refusal)) → checked g ≡ Err r → with_refusal r c ≡ one_from g k i x c
      go (Ok m) e = cc
      go (Err w) e = let q : w ≡ r = cc in rw q

  abbrev largest : ℕ
  largest = 2 ^ (slot_at (layout k).fields i).span

  abbrev done : RecordAnswer
  done = with_numbers (with_number (length (layout k).fields) i x c)

  own : checked (from_own k c) ≡ Ok tt → pick (ltb x largest) done (with_refusal NumberTooLarge c) ≡ one_in k i x c
  own = go (from_own k c)
    where
      go : (g : (Result Message Refusal)) → checked g ≡ Ok tt → pick (ltb x largest) done (with_refusal NumberTooLarge c) ≡ one_from g k i x c
      go (Ok m) e = refl
      go (Err r) e = cc

  module _ (o : checked (from_own k c) ≡ Ok tt) {width : ℕ} (w : width ≡ (slot_at (layout k).fields i).span) where
    pub in_large : leb (2 ^ width) x ≡ true → with_refusal NumberTooLarge c ≡ one_in k i x c
    in_large l = past _ (le-ltb x largest (leb-true _ _ (rw w at l))) refl ∙ own o

    pub in_done : {n : ℕ} → n ≡ length (layout k).fields → leb (2 ^ width) x ≡ false → with_numbers (with_number n i x c) ≡ one_in k i x c
    in_done e l = rw e (here _ (lt-ltb x largest (leb-false _ _ (rw w at l))) refl ∙ own o)
