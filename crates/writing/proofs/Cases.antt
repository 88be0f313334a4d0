-- What writing a record puts into the buffer. Closed by the laws of slots; the table is computed.
use Prim.Native.Nat.{ℕ, ◌+◌, ◌*◌}
use mathlib.Core.Path.{◌≡◌, refl, sym}
use mathlib.Core.Bool.{true, false}
use mathlib.Core.List.{List}
use native.Mathlib.Omega.{arith}
use Rattle.laws.proofs.Pick.{true_false}
use Rattle.slots.specs.Slots.{fits}
use Rattle.kinds.proofs.Rows.{row_right}
use Rattle.text.specs.Written.{blank}
use Rattle.kinds.specs.declared.kind.Kind.{Kind}
use Rattle.kinds.specs.Layout.{Body, fixed, texts, layout, has_text, parts}
use Rattle.numbers.specs.Numbers.{as_numbers}
use Rattle.numbers.specs.FromNumbers.{values_from}
use Rattle.numbers.proofs.Back.{own_puts}
use Rattle.records.specs.declared.message.Message.{Message}
use Rattle.records.specs.Records.{kind_in, values_of}
use Rattle.standard.specs.Heads.{head_word}
use Rattle.fields.specs.Puts.{put_ins}
use Rattle.standard.specs.Words.{encode_in, encode}
use Rattle.fields.proofs.Puts.{ins_put}
use Rattle.writing.specs.Put.{put_record}

head_is : (k : Kind) → 0xF000_0000 + (layout k).status * 0x1_0000 ≡ head_word (layout k).status 0
head_is k = omega arith

no_text : (b : Body) → has_text b ≡ false → b ≡ fixed
no_text fixed e = refl
no_text (texts t from) e = true_false e

module _ (m : Message) (ws : List ℕ) where
  -- a record of a fixed kind whose numbers fit is put slot by slot
  pub encoded : has_text (layout (kind_in m)).body ≡ false → fits (layout (kind_in m)).fields (parts (values_of m)) ≡ true → encode (kind_in m) ws (values_of m) ≡ put_record m ws
  unfolding encode encode_in put_record
  encoded e f = rw (no_text _ e) (sym (ins_put _ _ _ (row_right (kind_in m)).bits f))

  -- with the numbers and the head that the code has
  pub put_own : put_record m ws ≡ put_ins (layout (kind_in m)).fields (parts (values_from (kind_in m) (as_numbers m))) (blank (0xF000_0000 + (layout (kind_in m)).status * 0x1_0000) ws)
  unfolding put_record
  put_own = rw head_is (sym (own_puts m _))
