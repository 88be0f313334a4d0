-- How each answer of a setting is reached. Closed by the two tests of `set_record`, and the laws of the table.
use Rattle.std.specs.Prelude.{Ok, Err}
use Prim.Native.Nat.{ℕ}
use mathlib.Core.Path.{◌≡◌, refl, ap}
use mathlib.Core.Bool.{true, false}
use mathlib.Core.List.{List}
use Rattle.laws.specs.Pick.{both}
use Rattle.laws.proofs.Pick.{here, past}
use Rattle.slots.specs.Slots.{those}
use Rattle.kinds.specs.declared.refusal.Refusal.TheVariants.{NumberTooLarge, NoSuchField}
use Rattle.kinds.specs.Fields.{Setting, Text, field_in, value_in, same, decided}
use Rattle.kinds.specs.Layout.{layout}
use Rattle.kinds.proofs.Rows.{every_kind, at_kind}
use Rattle.records.specs.declared.message.Message.{Message}
use Rattle.records.specs.Records.{kind_in, packets_in, record_of, values_of}
use Rattle.records.specs.Settings.{with, lacks, is_too_large, edited, set_record}

module _ (s : Setting) (m : Message) where
  pub lacking : lacks (layout (kind_in m)).fields s ≡ true → edited m (Err NoSuchField) ≡ set_record s m
  unfolding set_record
  lacking l = here _ l refl

  pub too_large : lacks (layout (kind_in m)).fields s ≡ false → is_too_large (layout (kind_in m)).fields s ≡ true → edited m (Err NumberTooLarge) ≡ set_record s m
  unfolding set_record
  too_large l t = past _ l (here _ t refl)

  pub made : {z : Message} → lacks (layout (kind_in m)).fields s ≡ false → is_too_large (layout (kind_in m)).fields s ≡ false → z ≡ record_of (kind_in m) (packets_in m) (with (field_in s) (value_in s) (values_of m)) → edited z (Ok tt) ≡ set_record s m
  unfolding set_record
  made l t e = past _ l (past _ t (ap (λ (x : Message). edited x (Ok tt)) e))

-- no record has text
pub no_text : (t : Text) (bytes : List ℕ) (m : Message) → edited m (Err NoSuchField) ≡ set_record (Setting.text t bytes) m
unfolding every_kind layout those same decided both
no_text t bytes m = lacking _ m (at_kind (λ k. lacks (layout k).fields (Setting.text t bytes)) refl (kind_in m))
