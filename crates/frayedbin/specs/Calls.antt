-- Calls with a type, a code or a record from C, which may be no type, name no choice or be no record.
use Rattle.std.specs.Prelude.{ℕ, ◌^◌, List, length, get_or, ltb, Option, Some, None, Result, Ok, Err}
use Rattle.laws.specs.Pick.{pick}
use Rattle.counts.specs.Counts.{packet, byte}
use Rattle.text.specs.declared.TextPlace.{TextPlace}
use Rattle.kinds.specs.declared.kind.Kind.{Kind}
use Rattle.kinds.specs.declared.refusal.Refusal.TheVariants.{UnknownStatus, NumberTooLarge, NoSuchField}
use Rattle.kinds.specs.Fields.{Number, Setting, start}
use Rattle.kinds.specs.Layout.{layout, kind_of}
use Rattle.table.specs.Places.{slot_at}
use Rattle.records.specs.Records.{record_of}
use Rattle.records.specs.Settings.{lacks, set_record}
use Rattle.standard.specs.Walk.{sizes}
use Rattle.standard.specs.Words.{Outcome, unchanged, set_on, write_on}
use Rattle.numbers.specs.declared.Numbers.{Numbers}
use Rattle.c_structs.specs.declared.answers.RecordAnswer.{RecordAnswer}
use Rattle.c_structs.specs.Crossed.{with_numbers, with_refusal, edited_crossed}
use Rattle.numbers.specs.Numbers.{as_numbers, no_numbers}
use Rattle.numbers.specs.FromNumbers.{from_kind, from_own, from_fixed}
use Rattle.numbers.specs.SetOne.{with_number}
use Rattle.kinds.specs.Choices.{hint_from_code, port_from_code, direction_from_code}
use Rattle.records.specs.declared.message.Message.{Message}
use Rattle.kinds.specs.declared.refusal.Refusal.{Refusal}
use Rattle.kinds.specs.declared.choices.NoChoice.{NoChoice}

-- the words of a packet of type t; 0 for a number above 15, which is no type
abbrev pub words_of_type : ℕ → ℕ
words_of_type t = get_or sizes t 0

-- a text place from its two numbers
abbrev pub place_at : ℕ → ℕ → TextPlace
place_at p b = record { packet = packet p; byte = byte b }

-- a code that names no choice is refused as a number above its field's largest is; block numbers end at 127
abbrev pub beyond : Setting
beyond = Setting.number Number.function_block_number 128

-- ---- choices set on words, by code
abbrev choice_set : {A : Type 0} → (A → Setting) → Result A NoChoice → List ℕ → Outcome
choice_set s (Ok a) ws = set_on (s a) ws
choice_set s (Err n) ws = set_on beyond ws

abbrev pub hint_on : ℕ → List ℕ → Outcome
hint_on n ws = choice_set Setting.ui_hint (hint_from_code n) ws

abbrev pub port_on : ℕ → List ℕ → Outcome
port_on n ws = choice_set Setting.midi1_port (port_from_code n) ws

abbrev pub direction_on : ℕ → List ℕ → Outcome
direction_on n ws = choice_set Setting.direction (direction_from_code n) ws

-- ---- on a record, by the field's name; what is refused is handed back unchanged
abbrev pub set_from : Result Message Refusal → Setting → Numbers → RecordAnswer
set_from (Ok m) s c = edited_crossed (set_record s m).answer (set_record s m).message c
set_from (Err r) s c = with_refusal r c

-- refusal 5 for a status of no kind, 13 for a field that the kind lacks, 12 for numbers that are no record; then the setting's own
abbrev pub set_known : Option Kind → (Kind → Setting) → Numbers → RecordAnswer
set_known None s c = with_refusal UnknownStatus c
set_known (Some k) s c = pick (lacks (layout k).fields (s k)) (with_refusal NoSuchField c) (set_from (from_kind k c) (s k) c)

-- A SETTING ON A RECORD FROM C; a name that two kinds have is a setting for each
abbrev pub set_in : (Kind → Setting) → Numbers → RecordAnswer
set_in s c = set_known (kind_of c.status) s c

-- the number in slot i of kind k
abbrev pub one_from : Result Message Refusal → Kind → ℕ → ℕ → Numbers → RecordAnswer
one_from (Ok m) k i x c =
    pick (ltb x (2 ^ (slot_at (layout k).fields i).span)) (with_numbers (with_number (length (layout k).fields) i x c)) (with_refusal NumberTooLarge c)
one_from (Err r) k i x c = with_refusal r c

abbrev pub one_in : Kind → ℕ → ℕ → Numbers → RecordAnswer
one_in k i x c = one_from (from_own k c) k i x c

-- a choice by its code
abbrev choice_edit : {A : Type 0} → (A → Setting) → Result A NoChoice → Numbers → RecordAnswer
choice_edit s (Ok a) c = set_in (λ k. s a) c
choice_edit s (Err n) c = set_in (λ k. beyond) c

abbrev pub hint_in : ℕ → Numbers → RecordAnswer
hint_in n c = choice_edit Setting.ui_hint (hint_from_code n) c

abbrev pub port_in : ℕ → Numbers → RecordAnswer
port_in n c = choice_edit Setting.midi1_port (port_from_code n) c

abbrev pub direction_in : ℕ → Numbers → RecordAnswer
direction_in n c = choice_edit Setting.direction (direction_from_code n) c

-- ---- writing a record
abbrev write_from : Result Message Refusal → List ℕ → Outcome
write_from (Ok m) ws = write_on m ws
write_from (Err r) ws = unchanged r ws

abbrev pub write_in : Numbers → List ℕ → Outcome
write_in c ws = write_from (from_fixed c) ws

-- ---- the record of a fresh message: one packet, and each field at its starting value
abbrev fresh_known : Option Kind → RecordAnswer
fresh_known None = with_refusal UnknownStatus no_numbers
fresh_known (Some k) = with_numbers (as_numbers (record_of k 1 start))

abbrev pub fresh_in : ℕ → RecordAnswer
fresh_in status = fresh_known (kind_of status)
