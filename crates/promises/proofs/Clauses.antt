-- DEMAND 3, word by word: past the packets needed every whole packet is zero, the words after the last whole packet are as found, and the length stays. From the laws of a table and of written text.
use Prim.Native.Nat.{ℕ, ◌*◌, ◌≤◌, ◌<◌}
use mathlib.Core.Path.{◌≡◌, ◌∙◌}
use mathlib.Core.List.{List}
use native.Mathlib.Omega.{arith}
use lib.ListN.{length, get_or}
use Rattle.slots.proofs.Tables.{put_beyond}
use Rattle.text.specs.Octets.{needed}
use Rattle.text.proofs.Written.{word_zero, at_whole, at_rest, blank_zero, blank_rest}
use Rattle.kinds.specs.declared.kind.Kind.{Kind}
use Rattle.kinds.specs.Fields.{Field, Setting}
use Rattle.kinds.specs.Layout.{Body, fixed, texts, Row, layout, right_body}
use Rattle.kinds.proofs.Rows.{RowRight, row_right}
use Rattle.standard.specs.Heads.{packets_of}
use Rattle.standard.specs.Words.{fresh, encode_in, encode}
use Rattle.standard.specs.Lists.{set_all}
use Rattle.promises.specs.Good.{packets_for}
use Rattle.promises.specs.Values.{packets_needed, last_values}
use Rattle.promises.proofs.Encode.{encode-length}
use Rattle.promises.proofs.Settings.{settings_leave}

-- ---- any row of the table
module _ (r : Row) (ws : List ℕ) (v : Field → List ℕ) (i : ℕ) where
  in_zero : (b : Body) → RowRight b r → packets_for b v * 4 ≤ i → i < packets_of ws * 4 → get_or (encode_in b r ws v) i 0 ≡ 0
  unfolding encode_in right_body needed
  in_zero fixed k h l = put_beyond 4 r.fields _ _ i k.body h ∙ blank_zero _ ws i (omega arith) l
  in_zero (texts x from) k h l = at_whole _ _ _ _ ws i l ∙ word_zero _ _ _ _ i h

  in_kept : (b : Body) → RowRight b r → 4 ≤ length ws → packets_of ws * 4 ≤ i → get_or (encode_in b r ws v) i 0 ≡ get_or ws i 0
  unfolding encode_in right_body
  in_kept fixed k l h = put_beyond 4 r.fields _ _ i k.body (omega arith) ∙ blank_rest _ ws i h
  in_kept (texts x from) k l h = at_rest _ _ _ _ ws i h

module _ (k : Kind) (ws : List ℕ) where
  -- ---- the buffer of any values
  -- past the packets needed, every word of a whole packet is zero
  pub encode_zero : (v : Field → List ℕ) (i : ℕ) → packets_needed k v * 4 ≤ i → i < packets_of ws * 4 → get_or (encode k ws v) i 0 ≡ 0
  unfolding encode
  encode_zero v i h l = in_zero (layout k) ws v i (layout k).body (row_right k) h l

  module _ (l : 4 ≤ length ws) where
    -- the words after the last whole packet are as found
    pub encode_kept : (v : Field → List ℕ) (i : ℕ) → packets_of ws * 4 ≤ i → get_or (encode k ws v) i 0 ≡ get_or ws i 0
    unfolding encode
    encode_kept v i h = in_kept (layout k) ws v i (layout k).body (row_right k) l h

    -- ---- A FRESH MESSAGE AFTER ANY LIST OF SETTINGS
    pub settings_zero : (ss : List Setting) (i : ℕ) → packets_needed k (last_values k (packets_of ws) ss) * 4 ≤ i → i < packets_of ws * 4 → get_or (set_all ss (fresh k ws)) i 0 ≡ 0
    settings_zero ss i h m = rw (settings_leave k ws l ss) (encode_zero (last_values k (packets_of ws) ss) i h m)

    pub settings_kept : (ss : List Setting) (i : ℕ) → packets_of ws * 4 ≤ i → get_or (set_all ss (fresh k ws)) i 0 ≡ get_or ws i 0
    settings_kept ss i h = rw (settings_leave k ws l ss) (encode_kept (last_values k (packets_of ws) ss) i h)

    pub settings_length : (ss : List Setting) → length (set_all ss (fresh k ws)) ≡ length ws
    settings_length ss = rw (settings_leave k ws l ss) (encode-length k ws l (last_values k (packets_of ws) ss))
