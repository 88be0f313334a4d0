-- What reading's body is at a kind: the record where it has no choice and no text; and text by its verdict. Closed by passing the refusals that cannot come.
use Rattle.std.specs.Prelude.{Result, Ok, Err}
use Prim.Native.Nat.{ℕ, ◌-◌}
use mathlib.Core.Path.{◌≡◌, refl, ap, ◌∙◌}
use mathlib.Core.Bool.{Bool, true, false, not}
use mathlib.Core.List.{List}
use native.Mathlib.Nat.{mul-zero}
use native.Mathlib.Omega.{arith}
use lib.ListN.{length, take}
use lib.Seq.{take_all}
use Rattle.laws.specs.Pick.{pick}
use Rattle.laws.specs.Lists.{map, tabulate, nonzero}
use Rattle.laws.proofs.Pick.{here, past, split}
use Rattle.slots.specs.Slots.{get, those}
use Rattle.bit_ops.specs.Parts.{part_in}
use Rattle.utf8.specs.Utf8.{first_bad}
use Rattle.text.specs.Bytes.{all_bytes, text_of}
use Rattle.text_check.specs.FastCheck.{is_good}
use Rattle.kinds.specs.declared.kind.Kind.{Kind}
use Rattle.kinds.specs.declared.refusal.Refusal.{Refusal}
use Rattle.kinds.specs.declared.refusal.Refusal.TheVariants.{BadPort, BadDirection, NotUtf8}
use Rattle.kinds.specs.declared.kind.Kind.TheVariants as K
use Rattle.kinds.specs.Choices.{no_port, no_direction}
use lib.Dec.{eqb}
use Rattle.kinds.specs.Fields.{Field, same, decided, joined}
use Rattle.kinds.specs.Layout.{layout, has_text, held, values_in}
use Rattle.records.specs.declared.message.Message.{Message}
use Rattle.records.specs.Records.{record_of}
use Rattle.standard.specs.Heads.{packets_of}
use Rattle.standard.specs.Reading.{code_at, message_at, text_at, is_bad, read_body}
use Rattle.reading.specs.Bodies.{offset_of, text_checked}
use Rattle.reading.proofs.TextRows.{choiceless, port_passed, direction_passed, fixed_capacity, text_capacity, text_free}
use Rattle.counts.specs.declared.TextByteNumber.{TextByteNumber}

-- to unfold this is to unfold what computes the values of a kind from its words
unfoldable pub from_words : Unit {0}
unfolding record_of values_in layout those map held joined same decided get part_in
from_words = tt

bad_not_good : (u : (Result (Unit {0}) TextByteNumber)) → is_bad u ≡ not (is_good u)
bad_not_good (Ok tt) = refl
bad_not_good (Err n) = refl

-- ---- a kind without text
pub no_text : (k : Kind) (ws : List ℕ) → has_text (layout k).body ≡ false → is_bad (first_bad (text_at k ws)) ≡ false
unfolding all_bytes tabulate nonzero first_bad
no_text k ws e = rw (fixed_capacity (layout k).body e, mul-zero)

pub plain_body : (k : Kind) {m : Kind} (ws : List ℕ) {r : Message} → m ≡ k → choiceless k ≡ true → has_text (layout k).body ≡ false → r ≡ message_at k ws → Ok r ≡ read_body m ws
unfolding read_body
plain_body k ws q f e r = rw q (past _ (port_passed k ws f) (past _ (direction_passed k ws f) (past _ (no_text k ws e) (ap Ok r))))

-- ---- a block info, whose port and direction may be refused
module _ (ws : List ℕ) where
  abbrev pub port_in : ℕ
  port_in = code_at K.FunctionBlockInfo ws Field.midi1_port

  abbrev pub direction_in : ℕ
  direction_in = code_at K.FunctionBlockInfo ws Field.direction

  pub port_refused : eqb port_in no_port ≡ true → Err BadPort ≡ read_body K.FunctionBlockInfo ws
  unfolding read_body
  port_refused p = here _ p refl

  pub direction_refused : eqb port_in no_port ≡ false → eqb direction_in no_direction ≡ true → Err BadDirection ≡ read_body K.FunctionBlockInfo ws
  unfolding read_body
  direction_refused p d = past _ p (here _ d refl)

  pub info_body : {r : Message} → eqb port_in no_port ≡ false → eqb direction_in no_direction ≡ false → r ≡ message_at K.FunctionBlockInfo ws → Ok r ≡ read_body K.FunctionBlockInfo ws
  unfolding read_body layout
  info_body p d e = past _ p (past _ d (past _ (no_text K.FunctionBlockInfo ws refl) (ap Ok e)))

-- ---- a kind with text: by the verdict on that
module _ (k : Kind) (ws : List ℕ) (has : has_text (layout k).body ≡ true) where
  verdict : (b : Bool) → is_good (first_bad (text_at k ws)) ≡ b → pick (not b) (Err NotUtf8) (Ok (message_at k ws)) ≡ read_body k ws
  unfolding read_body
  verdict b e = past _ (port_passed k ws (text_free k has)) (past _ (direction_passed k ws (text_free k has)) (rw (bad_not_good (first_bad (text_at k ws)), e)))

  pub good_body : is_good (first_bad (text_at k ws)) ≡ true → Ok (message_at k ws) ≡ read_body k ws
  good_body e = verdict true e

  bad_body : is_good (first_bad (text_at k ws)) ≡ false → Err NotUtf8 ≡ read_body k ws
  bad_body e = verdict false e

-- the code's check of the text, of the slice of all words
pub checked : (k : Kind) (ws : List ℕ) {offset : ℕ} → offset ≡ offset_of k → (b : Bool) → is_good (first_bad (text_of (take (length ws - 0) ws) (14 - offset) (packets_of (take (length ws - 0) ws)))) ≡ b → pick b (Ok tt) (Err NotUtf8) ≡ text_checked k ws
unfolding text_checked
checked k ws o b e =
    let g : is_good (first_bad (text_of ws (14 - offset_of k) (packets_of ws))) ≡ b = rw (take_all (length ws - 0) ws (omega arith), o) at e in
    rw g

-- what the code's check of the text tells, for a kind that it has found
module _ (k : Kind) {m : Kind} (ws : List ℕ) (q : m ≡ k) (has : has_text (layout k).body ≡ true) where
  told : {b : Bool} → is_good (first_bad (text_of ws (14 - offset_of m) (packets_of ws))) ≡ b → is_good (first_bad (text_at k ws)) ≡ b
  told e = rw (q, text_capacity k has) at e

  pub good_told : {r : Message} → Ok tt ≡ text_checked m ws → r ≡ message_at k ws → Ok r ≡ read_body m ws
  unfolding text_checked
  good_told e r = split (is_good (first_bad (text_of ws (14 - offset_of m) (packets_of ws))))
      (λ t. rw q (ap Ok r ∙ good_body k ws has (told t)))
      (λ t. let s : ◌≡◌ {A = Result (Unit {0}) Refusal} (Ok tt) (Err NotUtf8) = rw t at e in absurd (cc))

  pub bad_told : {r : Refusal} → Err r ≡ text_checked m ws → Err r ≡ read_body m ws
  unfolding text_checked
  bad_told {r} e = split (is_good (first_bad (text_of ws (14 - offset_of m) (packets_of ws))))
      (λ t. let s : ◌≡◌ {A = Result (Unit {0}) Refusal} (Err r) (Ok tt) = rw t at e in absurd (cc))
      (λ t. let s : ◌≡◌ {A = Result (Unit {0}) Refusal} (Err r) (Err NotUtf8) = rw t at e in let x : r ≡ NotUtf8 = cc in rw (q, x) (bad_body k ws has (told t)))
