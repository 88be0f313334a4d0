-- The buffer of good values is a message of their record, and a setting on it gives the buffer of the changed values. From the laws of fixed and text kinds.
use Rattle.std.specs.Prelude.{Result, Ok, Err}
use Prim.Native.Nat.{ℕ, ◌+◌, ◌*◌, ◌≤◌}
use mathlib.Core.Path.{◌≡◌, refl, sym, ap, ◌∙◌, subst}
use mathlib.Core.List.{List}
use native.Mathlib.Omega.{arith}
use lib.ListN.{length, take}
use Rattle.laws.specs.Pick.{pick, both}
use Rattle.laws.specs.Lists.{nonzero}
use Rattle.counts.specs.Counts.{word}
use Rattle.slots.specs.Slots.{reads}
use Rattle.utf8.specs.Utf8.{Valid, empty}
use Rattle.text.specs.Octets.{needed}
use Rattle.text.specs.Bytes.{text_of}
use Rattle.kinds.specs.declared.kind.Kind.{Kind}
use Rattle.kinds.specs.Fields.{Field, Setting, field_in, value_in, same, start}
use Rattle.kinds.specs.Layout.{Body, fixed, texts, layout, capacity_of, most_in, parts}
use Rattle.kinds.proofs.Rows.{row_right, start_fits}
use Rattle.records.specs.declared.answers.Walked.TheVariants as W
use Rattle.records.specs.Records.{kind_in, packets_in}
use Rattle.records.proofs.Records.{record_kind, record_packets}
use Rattle.standard.specs.Heads.{packets_of}
use Rattle.standard.specs.Reading.{read_of, text_at}
use Rattle.standard.specs.Formed.{Formed}
use Rattle.standard.specs.Walk.{part, walk_of}
use Rattle.standard.specs.Words.{outcome, fresh, encode, answer_to, after_answer, set_message, set_on}
use Rattle.standard.specs.Lists.{is_done}
use Rattle.standard.proofs.Formed.{formed_read}
use Rattle.promises.specs.Good.{text_for, packets_for, GoodValues}
use Rattle.promises.specs.Values.{packets_needed, record_for, text_given, words_for, changed}
use Rattle.standard.proofs.Walks.{formed_walk}
use Rattle.standard.proofs.Fields.{values_hold}
use Rattle.standard.proofs.Accepted.{accepted_facts}
use Rattle.promises.proofs.Laid.{Laid, laid_formed}
use Rattle.promises.proofs.Changed.{good_with}
use Rattle.promises.proofs.Bodies.{in_length, in_fresh, in_laid, in_acted}
use Rattle.kinds.specs.declared.refusal.Refusal.{Refusal}

module _ (k : Kind) (ws : List ℕ) (l : 4 ≤ length ws) where
  -- A FRESH MESSAGE is the buffer of the starting values
  pub fresh-encode : fresh k ws ≡ encode k ws start
  unfolding fresh encode
  fresh-encode = in_fresh (layout k) ws l (layout k).body (row_right k) (start_fits k)

  pub encode-length : (v : Field → List ℕ) → length (encode k ws v) ≡ length ws
  unfolding encode
  encode-length v = in_length (layout k) ws l (layout k).body (row_right k) v

  module _ (v : Field → List ℕ) (g : GoodValues k (packets_of ws) v) where
    laid : Laid (layout k).body (layout k) (packets_needed k v) v (encode k ws v)
    unfolding encode
    laid = in_laid (layout k) ws l v (layout k).body (row_right k) g

    -- each slot holds its part of the values
    pub encode_holds : reads (layout k).fields (parts v) (encode k ws v)
    encode_holds = laid.fields 0 laid.some

    -- ---- THE MESSAGE is read as the record of the values
    pub encode_formed : Formed (record_for k v) (nonzero (text_given k v)) (words_for k ws v)
    encode_formed = laid_formed k (packets_of ws) v (encode k ws v) g laid

    pub encode_read : read_of (words_for k ws v) ≡ Ok (record_for k v)
    encode_read = formed_read (record_for k v) (nonzero (text_given k v)) (words_for k ws v) encode_formed

    packets : packets_in (record_for k v) ≡ packets_needed k v
    packets = record_packets k (packets_needed k v) v laid.some g.most

    kind : kind_in (record_for k v) ≡ k
    kind = record_kind k (packets_needed k v) v

    -- and its text is the given text without zeros
    pub encode_text : text_at k (words_for k ws v) ≡ nonzero (text_given k v)
    encode_text =
        let e = encode_formed.words in
        let n : packets_of (words_for k ws v) ≡ packets_in (record_for k v) = omega arith in
        ap (λ (c : Kind). text_of (words_for k ws v) (capacity_of c) (packets_of (words_for k ws v))) (sym kind)
        ∙ ap (text_of (words_for k ws v) (capacity_of (kind_in (record_for k v)))) n ∙ encode_formed.text

    -- and the walk finds it, and goes on after it
    front : take (packets_needed k v * 4) (encode k ws v) ≡ part (encode k ws v) 0 (packets_in (record_for k v))
    front = rw packets

    pub encode_walk : walk_of (encode k ws v) 0 ≡ W.Message (record_for k v) (word (packets_needed k v * 4))
    encode_walk =
        let z : 0 + packets_in (record_for k v) * 4 ≡ packets_needed k v * 4 = omega (arith, packets) in
        formed_walk (record_for k v) (nonzero (text_given k v)) (encode k ws v) 0 (rw z laid.room) (subst (Formed (record_for k v) (nonzero (text_given k v))) front encode_formed)
        ∙ ap (λ (n : ℕ). W.Message (record_for k v) (word n)) z

    -- ---- A SETTING on it gives the buffer of the changed values
    whole : packets_of (encode k ws v) ≡ packets_of ws
    whole = rw (encode-length v)

    after_law : (s : Setting) (a : (Result (Unit {0}) Refusal)) → answer_to (layout k) (packets_of ws) s ≡ a → after_answer a (layout k) (packets_needed k v) s (encode k ws v) ≡ encode k ws (λ f. pick (both (is_done a) (same f (field_in s))) (value_in s) (v f))
    unfolding encode both
    after_law s (Ok tt) e = in_acted (layout k) ws l v (layout k).body (row_right k) g s (accepted_facts (layout k) (packets_of ws) s e) (values_hold k _)
    after_law s (Err r) e = refl

    pub set_law : (s : Setting) → set_on s (encode k ws v) ≡ outcome (answer_to (layout k) (packets_of ws) s) (encode k ws (changed k (packets_of ws) s v))
    unfolding set_on set_message
    set_law s = rw (encode_walk, packets, kind, whole, after_law s (answer_to (layout k) (packets_of ws) s) refl)

    good_by : (s : Setting) (a : (Result (Unit {0}) Refusal)) → answer_to (layout k) (packets_of ws) s ≡ a → GoodValues k (packets_of ws) (λ f. pick (both (is_done a) (same f (field_in s))) (value_in s) (v f))
    unfolding both
    good_by s (Ok tt) e = good_with (layout k).body (layout k).fields (packets_of ws) v s g (accepted_facts (layout k) (packets_of ws) s e)
    good_by s (Err r) e = g

    -- and the changed values are good
    pub good_kept : (s : Setting) → GoodValues k (packets_of ws) (changed k (packets_of ws) s v)
    good_kept s = good_by s (answer_to (layout k) (packets_of ws) s) refl

  -- ---- the starting values are good
  start_text : (b : Body) → Valid (text_for b start) × (packets_for b start ≤ most_in b) × (packets_for b start ≤ packets_of ws)
  unfolding start needed
  start_text fixed = (empty, omega arith, omega arith)
  start_text (texts x from) = (empty, omega arith, omega arith)

  pub start_good : GoodValues k (packets_of ws) start
  unfolding start
  start_good =
      let t = start_text (layout k).body in
      record { numbers = start_fits k; valid = t.0; most = t.1; inside = t.2; port = λ e. omega arith; direction = λ e. omega arith }
