-- Text kinds: the buffer of given values, and a setting on it. From the first word of a packet, for any row whose text starts at octet 2 to 15.
use Prim.Native.Nat.{ℕ, ◌+◌, ◌-◌, ◌*◌, ◌≤◌, ◌<◌}
use mathlib.Core.Path.{◌≡◌, sym, ap, ◌∙◌, fun_ext}
use mathlib.Core.Bool.{true, false}
use mathlib.Core.List.{List, [], ◌∷◌}
use native.Mathlib.Omega.{arith}
use lib.ListN.{length, get_or}
use lib.Seq.{get_or-drop}
use Rattle.laws.specs.Lists.{nonzero}
use Rattle.laws.proofs.Bits.{get_above}
use Rattle.laws.proofs.Pick.{split}
use Rattle.slots.specs.Slots.{get, put_all, fits, reads}
use Rattle.slots.proofs.Slots.{get_apart_all, reads_all}
use Rattle.utf8.proofs.Small.{valid_small}
use Rattle.text.specs.Octets.{needed, due_format}
use Rattle.text.specs.Written.{word_in, written, each_first}
use Rattle.text.specs.Bytes.{text_of}
use Rattle.text.proofs.Written.{length-written, word_at_lem}
use Rattle.text.proofs.Back.{text_back}
use Rattle.text.proofs.Needed.{needed_holds, needed-some, due_format_small}
use Rattle.kinds.specs.Fields.{Text, Field, Setting, field_in, value_in, text_in, same}
use Rattle.kinds.specs.Layout.{Part, texts, Row, slots_of, parts, values_in, head_slot, numbers_set}
use Rattle.records.specs.Settings.{with}
use Rattle.standard.specs.Heads.{head_word, packets_of, packet_from, head_at}
use Rattle.standard.specs.Words.{put_word, head_of, text_written, encode_in, act_in}
use Rattle.promises.specs.Good.{GoodValuesIn}
use Rattle.slots.proofs.Tables.{reads_words, put_alike}
use Rattle.standard.proofs.OneWord.{put_those_word}
use Rattle.standard.proofs.TextHead.{low_text, low_small, first_splits, head_small, head_first}
use Rattle.text.proofs.Rewritten.{written_over, each_first_lem}
use Rattle.kinds.proofs.Rows.{TextRow}
use Rattle.kinds.proofs.Fields.{same_true, same_refl, same_swap, value_text}
use Rattle.records.proofs.With.{parts-with, parts_text}
use Rattle.standard.proofs.Accepted.{Accepted}
use Rattle.promises.proofs.Laid.{top_bits, Laid}
use Rattle.promises.proofs.Changed.{good_with}

module _ (r : Row) (x : Text) (from : ℕ) (k : TextRow r from) (ws : List ℕ) where
  abbrev cap : ℕ
  cap = 16 - from

  pub text_length : (v : Field → List ℕ) → length (encode_in (texts x from) r ws v) ≡ length ws
  unfolding encode_in
  text_length v = length-written (v (Field.text x)) (head_of r v) cap (needed cap (length (v (Field.text x)))) ws

  module _ (v : Field → List ℕ) (g : GoodValuesIn (texts x from) r.fields (packets_of ws) v) where
    abbrev text : List ℕ
    text = v (Field.text x)

    abbrev count : ℕ
    count = needed cap (length text)

    room : count * 4 ≤ length ws
    room = let h = g.inside in omega arith

    small : (i : ℕ) → get_or text i 0 < 256
    small = valid_small g.valid

    -- ---- the first word of packet p, without its fields and with them
    abbrev bare : ℕ → ℕ
    bare p = word_in text (head_word r.status) cap count p 0

    bare_head : (p : ℕ) → top_bits (bare p) ≡ top_bits (head_word r.status (due_format count p))
    bare_head p =
        let h = first_splits text small count p (head_word r.status) (head_small r.status (due_format count p) k.status (due_format_small count p)) from k.most in
        ap top_bits h ∙ get_above (head_word r.status (due_format count p)) 0 (32 - from * 8) (low_text text small count p from) 16 16 (low_small text small count p from) (let l = k.least in omega arith)

    word_put : (u : Field → List ℕ) → fits r.fields (parts u) ≡ true → (p : ℕ) → word_in text (head_of r u) cap count p 0 ≡ put_word r.fields (parts u) (bare p)
    word_put u f p = head_first text small count p from r.status k.least k.most k.status r.fields k.text k.bits k.first (parts u) f

    first_put : (p : ℕ) → p < count → head_at (encode_in (texts x from) r ws v) p ≡ put_word r.fields (parts v) (bare p)
    unfolding encode_in
    first_put p h =
        let e : p * 4 ≡ p * 4 + 0 = omega arith in
        ap (λ (i : ℕ). get_or (written ws text (head_of r v) cap count) i 0) e ∙ word_at_lem text (head_of r v) cap count ws p 0 room h (omega arith) ∙ word_put v g.numbers p

    -- ---- the contents of each packet
    put_bits : (w : ℕ) → top_bits (put_word r.fields (parts v) w) ≡ top_bits w
    unfolding put_word get
    put_bits w = get_apart_all head_slot r.fields (parts v) (w ∷ []) k.head g.numbers

    put_reads : (w : ℕ) (l : List ℕ) → get_or l 0 0 ≡ put_word r.fields (parts v) w → reads r.fields (parts v) l
    unfolding put_word
    put_reads w l e =
        reads_words 1 r.fields (parts v) (put_all r.fields (parts v) (w ∷ [])) l k.first (λ i h. let z : i ≡ 0 = omega arith in rw z (sym e))
        (reads_all 1 r.fields (parts v) (w ∷ []) (omega arith) k.first k.sound g.numbers)

    text_reads : (p : ℕ) → p < count → reads r.fields (parts v) (packet_from (encode_in (texts x from) r ws v) p)
    text_reads p h =
        let e : p * 4 + 0 ≡ p * 4 = omega arith in
        put_reads (bare p) _ (get_or-drop (p * 4) (encode_in (texts x from) r ws v) 0 0 ∙ ap (λ (i : ℕ). get_or (encode_in (texts x from) r ws v) i 0) e ∙ first_put p h)

    read_text : text_of (encode_in (texts x from) r ws v) cap count ≡ nonzero text
    unfolding encode_in
    read_text =
        let a = k.least in
        let b = k.most in
        text_back ws text (head_of r v) cap count small (omega arith) room (omega arith) (needed_holds cap (length text) (omega arith))

    pub text_laid : Laid (texts x from) r count v (encode_in (texts x from) r ws v)
    text_laid =
        record {
          some = let b = k.most in needed-some cap (length text) (omega arith);
          room = rw (text_length v) room;
          heads = λ p h. ap top_bits (first_put p h) ∙ put_bits (bare p) ∙ bare_head p;
          fields = text_reads;
          text = read_text;
        }

    -- ---- A SETTING of the text: it keeps the fields of the head
    module _ (hold : reads r.fields (parts (values_in r.fields (encode_in (texts x from) r ws v))) (encode_in (texts x from) r ws v)) where
      first_reads : reads r.fields (parts v) (encode_in (texts x from) r ws v)
      first_reads = let b = k.most in text_reads 0 (needed-some cap (length text) (omega arith))

      head_held : head_of r (values_in r.fields (encode_in (texts x from) r ws v)) ≡ head_of r v
      unfolding put_word
      head_held = fun_ext (λ f. ap (λ (l : List ℕ). get_or l 0 0) (put_alike r.fields _ (parts v) (encode_in (texts x from) r ws v) (head_word r.status f ∷ []) hold first_reads))

      text_set : (new : List ℕ) → text_written r cap (values_in r.fields (encode_in (texts x from) r ws v)) new (encode_in (texts x from) r ws v) ≡ text_written r cap v new ws
      unfolding encode_in
      text_set new = rw head_held (written_over ws text new (head_of r v) (head_of r v) cap count (needed cap (length new)))

    -- ---- a setting of a field of the head, in each packet
    module _ (s : Setting) (a : Accepted (texts x from) r.fields (packets_of ws) s) where
      abbrev new : Field → List ℕ
      new = with (field_in s) (value_in s) v

      fits_new : fits r.fields (parts new) ≡ true
      fits_new = (good_with (texts x from) r.fields (packets_of ws) v s g a).numbers

      field-first : (p : ℕ) → p < count → put_word (slots_of (field_in s) r.fields) (numbers_set s) (word_in text (head_of r v) cap count p 0) ≡ word_in text (head_of r new) cap count p 0
      field-first p h =
          ap (put_word (slots_of (field_in s) r.fields) (numbers_set s)) (word_put v g.numbers p)
          ∙ put_those_word (λ q. same q.field (field_in s)) (numbers_set s) (parts v) r.fields (bare p) k.sound a.numbers g.numbers
          ∙ ap (λ (u : Part → ℕ). put_word r.fields u (bare p)) (parts-with (field_in s) (value_in s) v)
          ∙ sym (word_put new fits_new p)

      field-set : each_first count (put_word (slots_of (field_in s) r.fields) (numbers_set s)) (encode_in (texts x from) r ws v) ≡ text_written r cap new text ws
      unfolding encode_in
      field-set = each_first_lem text cap count (head_of r v) (head_of r new) ws room (put_word (slots_of (field_in s) r.fields) (numbers_set s)) field-first

      -- the values after it
      is_text : same (field_in s) (Field.text x) ≡ true → text_written r cap v (text_in s) ws ≡ encode_in (texts x from) r ws new
      unfolding encode_in
      is_text e =
          let q : field_in s ≡ Field.text x = same_true (field_in s) (Field.text x) e in
          let b : same (Field.text x) (field_in s) ≡ true = rw q (same_refl (Field.text x)) in
          let y : text_in s ≡ new (Field.text x) = value_text x s b ∙ rw b in
          let h : parts v ≡ parts new = rw q (sym (parts_text x (value_in s) v)) in
          ap (λ (l : List ℕ). text_written r cap v l ws) y
          ∙ ap (λ (u : Part → ℕ). written ws (new (Field.text x)) (λ f. put_word r.fields u (head_word r.status f)) cap (needed cap (length (new (Field.text x))))) h

      is_field : same (field_in s) (Field.text x) ≡ false → text_written r cap new text ws ≡ encode_in (texts x from) r ws new
      unfolding encode_in
      is_field e = rw (same_swap (field_in s) (Field.text x) e)

      pub text_acted : reads r.fields (parts (values_in r.fields (encode_in (texts x from) r ws v))) (encode_in (texts x from) r ws v) → act_in (texts x from) r count s (encode_in (texts x from) r ws v) ≡ encode_in (texts x from) r ws new
      unfolding act_in
      text_acted hold =
          split (same (field_in s) (Field.text x)) (λ e. rw e (text_set hold (text_in s) ∙ is_text e)) (λ e. rw e (field-set ∙ is_field e))
