-- FRESH MESSAGES, SETTINGS ON WORDS, WRITING A RECORD: the answer, and the whole buffer afterwards.
use Rattle.std.specs.Prelude.{ℕ, Bool, false, not, List, [], ◌∷◌, length, get_or, ltb, eqb, Option, Some, None, Result, Ok, Err}
use Rattle.laws.specs.Pick.{pick}
use Rattle.counts.specs.Counts.{packet}
use Rattle.slots.specs.Slots.{Slot, put_all, fits}
use Rattle.utf8.specs.Utf8.{first_bad}
use Rattle.text.specs.Octets.{needed}
use Rattle.text.specs.Written.{written, blank, each_first}
use Rattle.kinds.specs.declared.refusal.Refusal.{Refusal}
use Rattle.kinds.specs.declared.refusal.Refusal.TheVariants.{TooFewWords, TooManyPackets, WrongType, UnknownStatus, NotUtf8, NumberTooLarge, NoSuchField, NoRoom}
use Rattle.kinds.specs.declared.kind.Kind.{Kind}
use Rattle.records.specs.declared.message.Message.{Message}
use Rattle.records.specs.declared.answers.Walked.{Walked}
use Rattle.records.specs.declared.answers.Walked.TheVariants as W
use Rattle.kinds.specs.Fields.{Field, Setting, field_in, text_in, start}
use Rattle.kinds.specs.Layout.{Part, Body, fixed, texts, Row, layout, capacity_in, kind_of, has_text, slots_of, is_text, parts, values_in, numbers_set}
use Rattle.records.specs.Records.{kind_in, packets_in, values_of}
use Rattle.records.specs.Settings.{lacks, is_too_large}
use Rattle.standard.specs.Heads.{head_word, packets_of}
use Rattle.standard.specs.Reading.{is_bad}
use Rattle.standard.specs.Walk.{walk_of}

-- the outcome of a call that changes a lent buffer: its answer, and the words afterwards
pub record Outcome : Type 0 where
  pub answer : Result (Unit {0}) Refusal
  pub words : List ℕ

abbrev pub outcome : Result (Unit {0}) Refusal → List ℕ → Outcome
outcome a ws = record { answer = a; words = ws }

-- refused: no word is changed
abbrev pub unchanged : Refusal → List ℕ → Outcome
unchanged r ws = outcome (Err r) ws

-- the buffer has no whole packet
abbrev pub no_packet : List ℕ → Bool
no_packet ws = eqb (packets_of ws) 0

-- ---- fresh messages
-- every whole packet zero, except for type, Complete, status and the starting values in the first
unfoldable pub fresh : Kind → List ℕ → List ℕ
fresh k ws = put_all (layout k).fields (parts start) (blank (head_word (layout k).status 0) ws)

-- refusal 5, then 14
abbrev fresh_known : Option Kind → List ℕ → Outcome
fresh_known None ws = unchanged UnknownStatus ws
fresh_known (Some k) ws = pick (no_packet ws) (unchanged NoRoom ws) (outcome (Ok tt) (fresh k ws))

-- A FRESH MESSAGE of a status
unfoldable pub fresh_on : ℕ → List ℕ → Outcome
fresh_on status ws = fresh_known (kind_of status) ws

-- ---- THE BUFFER for a given value of each field
-- a table put into one word
unfoldable pub put_word : List (Slot Part) → (Part → ℕ) → ℕ → ℕ
put_word t v w = get_or (put_all t v (w ∷ [])) 0 0

-- the head of a text packet for each format: type, format, status, and the fields
abbrev pub head_of : Row → (Field → List ℕ) → ℕ → ℕ
head_of r v format = put_word r.fields (parts v) (head_word r.status format)

-- the text with its head in each needed packet, and zeros in every whole packet after them
abbrev pub text_written : Row → ℕ → (Field → List ℕ) → List ℕ → List ℕ → List ℕ
text_written r cap v text ws = written ws text (head_of r v) cap (needed cap (length text))

-- the buffer for given values: of a fixed kind, or of a text kind
unfoldable pub encode_in : Body → Row → List ℕ → (Field → List ℕ) → List ℕ
encode_in fixed r ws v = put_all r.fields (parts v) (blank (head_word r.status 0) ws)
encode_in (texts t from) r ws v = text_written r (capacity_in (texts t from)) v (v (Field.text t)) ws

-- the same for a kind
unfoldable pub encode : Kind → List ℕ → (Field → List ℕ) → List ℕ
encode k ws v = encode_in (layout k).body (layout k) ws v

-- ---- settings on words
-- the kind has no such field
abbrev pub missing : Row → Setting → Bool
missing r s = pick (is_text (field_in s) r.body) false (lacks r.fields s)

-- packets that the setting needs: one if it sets no text
abbrev pub needed_by : Row → Setting → ℕ
needed_by r s = needed (capacity_in r.body) (length (text_in s))

-- refusals 13, 12, 11, 3, 14; they depend only on the row, the buffer's whole packets and the setting
unfoldable pub answer_to : Row → ℕ → Setting → Result (Unit {0}) Refusal
answer_to r room s =
    pick (missing r s) (Err NoSuchField)
    (pick (is_too_large r.fields s) (Err NumberTooLarge)
    (pick (is_bad (first_bad (text_in s))) (Err NotUtf8)
    (pick (ltb 64 (needed_by r s)) (Err TooManyPackets)
    (pick (ltb room (needed_by r s)) (Err NoRoom)
    (Ok tt)))))

-- the field's slots put into a packet
abbrev put_setting : Row → Setting → List ℕ → List ℕ
put_setting r s ws = put_all (slots_of (field_in s) r.fields) (numbers_set s) ws

-- an accepted setting on the message of n packets at position 0: setting the text keeps the fields of the head, setting a field of the head changes each of the n packets
unfoldable pub act_in : Body → Row → ℕ → Setting → List ℕ → List ℕ
act_in fixed r n s ws = put_setting r s ws
act_in (texts t from) r n s ws =
    pick (is_text (field_in s) (texts t from)) (text_written r (capacity_in (texts t from)) (values_in r.fields ws) (text_in s) ws)
    (each_first n (put_word (slots_of (field_in s) r.fields) (numbers_set s)) ws)

-- the words after a setting with this answer
abbrev pub after_answer : Result (Unit {0}) Refusal → Row → ℕ → Setting → List ℕ → List ℕ
after_answer (Ok tt) r n s ws = act_in r.body r n s ws
after_answer (Err why) r n s ws = ws

abbrev outcome_of : Result (Unit {0}) Refusal → Row → ℕ → Setting → List ℕ → Outcome
outcome_of a r n s ws = outcome a (after_answer a r n s ws)

-- a setting on the message m at position 0
unfoldable pub set_message : Message → Setting → List ℕ → Outcome
set_message m s ws =
    outcome_of (answer_to (layout (kind_in m)) (packets_of ws) s) (layout (kind_in m)) (packets_in m) s ws

-- a refusal of the walk at position 0 comes first; another type there is refusal 4 at place 0, an empty slice refusal 1
abbrev pub set_walked : Walked → Setting → List ℕ → Outcome
set_walked W.End s ws = unchanged TooFewWords ws
set_walked (W.Other t size next) s ws = unchanged (WrongType (packet 0)) ws
set_walked (W.Refused r next) s ws = unchanged r ws
set_walked (W.Message m next) s ws = set_message m s ws

-- A SETTING ON WORDS
unfoldable pub set_on : Setting → List ℕ → Outcome
set_on s ws = set_walked (walk_of ws 0) s ws

-- ---- writing a record of a fixed kind
-- refusal 13 for a text kind, then 12 and 14; otherwise a fresh message with the record's fields
unfoldable pub write_on : Message → List ℕ → Outcome
write_on m ws =
    pick (has_text (layout (kind_in m)).body) (unchanged NoSuchField ws)
    (pick (not (fits (layout (kind_in m)).fields (parts (values_of m)))) (unchanged NumberTooLarge ws)
    (pick (no_packet ws) (unchanged NoRoom ws)
    (outcome (Ok tt) (encode (kind_in m) ws (values_of m)))))
