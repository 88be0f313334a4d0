-- Fixed kinds and text kinds together, for any correct row of the table. By one law for each.
use Prim.Native.Nat.{ℕ, ◌≤◌}
use mathlib.Core.Path.{◌≡◌, refl}
use mathlib.Core.Bool.{true}
use mathlib.Core.List.{List}
use lib.ListN.{length}
use Rattle.slots.specs.Slots.{put_all, fits, reads}
use Rattle.text.specs.Written.{blank}
use Rattle.kinds.specs.Fields.{Field, Setting, field_in, value_in, start}
use Rattle.kinds.specs.Layout.{Body, fixed, texts, Row, parts, values_in, right_body}
use Rattle.records.specs.Settings.{with}
use Rattle.standard.specs.Heads.{head_word, packets_of}
use Rattle.standard.specs.Words.{encode_in, act_in}
use Rattle.promises.specs.Good.{packets_for, GoodValuesIn}
use Rattle.kinds.proofs.Rows.{RowRight, text_row}
use Rattle.standard.proofs.Accepted.{Accepted}
use Rattle.promises.proofs.Laid.{Laid}
use Rattle.promises.proofs.Fixed.{fixed_length, fixed_acted, fixed_laid}
use Rattle.promises.proofs.Texts.{text_length, text_laid, text_acted}
use Rattle.promises.proofs.Fresh.{text_fresh}

module _ (r : Row) (ws : List ℕ) (l : 4 ≤ length ws) where
  pub in_length : (b : Body) → RowRight b r → (v : Field → List ℕ) → length (encode_in b r ws v) ≡ length ws
  in_length fixed k v = fixed_length r ws v
  in_length (texts x from) k v = text_length r x from (text_row r x from k) ws v

  -- a fresh message is the buffer of the starting values
  pub in_fresh : (b : Body) → RowRight b r → fits r.fields (parts start) ≡ true → put_all r.fields (parts start) (blank (head_word r.status 0) ws) ≡ encode_in b r ws start
  unfolding encode_in
  in_fresh fixed k f = refl
  in_fresh (texts x from) k f = text_fresh ws l r x from (text_row r x from k) f

  module _ (v : Field → List ℕ) where
    pub in_laid : (b : Body) → RowRight b r → GoodValuesIn b r.fields (packets_of ws) v → Laid b r (packets_for b v) v (encode_in b r ws v)
    unfolding right_body
    in_laid fixed k g = fixed_laid r ws v k.sound g.numbers k.head k.body l
    in_laid (texts x from) k g = text_laid r x from (text_row r x from k) ws v g

    -- a setting on it
    pub in_acted : (b : Body) → RowRight b r → GoodValuesIn b r.fields (packets_of ws) v → (s : Setting) → Accepted b r.fields (packets_of ws) s → reads r.fields (parts (values_in r.fields (encode_in b r ws v))) (encode_in b r ws v) → act_in b r (packets_for b v) s (encode_in b r ws v) ≡ encode_in b r ws (with (field_in s) (value_in s) v)
    in_acted fixed k g s a hold = fixed_acted r ws v k.sound g.numbers (packets_for fixed v) s a.numbers
    in_acted (texts x from) k g s a hold = text_acted r x from (text_row r x from k) ws v g s a hold
