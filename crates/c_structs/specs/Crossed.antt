-- EACH ANSWER AS IT CROSSES: the numbers that it says in document 01 (records/specs/Answers.antt, standard/specs/Said.antt), and 0 where it says none.
use Rattle.std.specs.Prelude.{ℕ, List, [], ◌∷◌, get_or, drop, Option, Result, Ok, Err}
use Rattle.kinds.specs.Choices.{format_code, format_from}
use Rattle.kinds.specs.declared.refusal.Refusal.{Refusal}
use Rattle.text.specs.declared.Stepped.{Stepped}
use Rattle.records.specs.declared.message.Message.{Message}
use Rattle.records.specs.declared.answers.Edited.{Edited}
use Rattle.records.specs.declared.answers.Walked.{Walked}
use Rattle.records.specs.Answers.{Said, accepted, refused, said_read, walked_case, said_walked, said_packet, said_size, said_answer}
use Rattle.standard.specs.Heads.{format_of}
use Rattle.standard.specs.Said.{said_step}
use Rattle.text_copy.specs.Copied.{Copying, said_copy}
use Rattle.numbers.specs.declared.Numbers.{Numbers}
use Rattle.numbers.specs.Numbers.{numbered, as_numbers}
use Rattle.c_structs.specs.declared.answers.Answered.{Answered}
use Rattle.c_structs.specs.declared.answers.RecordAnswer.{RecordAnswer}
use Rattle.c_structs.specs.declared.answers.WalkAnswer.{WalkAnswer}
use Rattle.c_structs.specs.declared.answers.PacketAnswer.{PacketAnswer}
use Rattle.c_structs.specs.declared.answers.SizeAnswer.{SizeAnswer}
use Rattle.c_structs.specs.declared.answers.StepAnswer.{StepAnswer}
use Rattle.c_structs.specs.declared.answers.TextAnswer.{TextAnswer}
use Rattle.records.specs.declared.packet.Packet.{Packet}
use Rattle.counts.specs.declared.WordNumber.{WordNumber}

-- ---- the parts of a struct
-- the numbers of a record, as an answer says them: its status, its packets, then its fields; all 0 where it says none
abbrev pub numbers_said : List ℕ → Numbers
numbers_said xs = numbered (get_or xs 0 0) (get_or xs 1 0) (drop 2 xs)

abbrev pub said_only : Said → Answered
said_only s = record { refusal = s.refusal; place = s.place }

abbrev pub said_with : Said → Numbers → RecordAnswer
said_with s c = record { refusal = s.refusal; place = s.place; numbers = c }

-- ---- answers
abbrev pub answered : Result (Unit {0}) Refusal → Answered
answered a = said_only (said_answer a)

abbrev pub read_crossed : Result Message Refusal → RecordAnswer
read_crossed r = said_with (said_read r) (numbers_said (said_read r).values)

-- the answer of a setting on a record that came as the numbers c: a refused call hands them back unchanged
abbrev pub with_numbers : Numbers → RecordAnswer
with_numbers c = said_with (accepted []) c

abbrev pub with_refusal : Refusal → Numbers → RecordAnswer
with_refusal r c = said_with (refused r []) c

abbrev pub edited_crossed : Result (Unit {0}) Refusal → Message → Numbers → RecordAnswer
edited_crossed (Ok tt) m c = with_numbers (as_numbers m)
edited_crossed (Err r) m c = with_refusal r c

-- the same, where the numbers may be no record
abbrev pub set_crossed : Result Edited Refusal → Numbers → RecordAnswer
set_crossed (Ok e) c = edited_crossed e.answer e.message c
set_crossed (Err r) c = with_refusal r c

-- the case of the walk's answer, what it says, and the record
abbrev pub walk_said : ℕ → Said → Numbers → WalkAnswer
walk_said found s c =
    record { found = found; refusal = s.refusal; place = s.place; next = get_or s.values 0 0; ump_type = get_or s.values 1 0; size = get_or s.values 2 0; numbers = c }

abbrev pub walk_crossed : Walked → WalkAnswer
walk_crossed w = walk_said (walked_case w) (said_walked w) (numbers_said (drop 3 (said_walked w).values))

-- a message that the walk found, by its numbers
abbrev pub found_crossed : Numbers → ℕ → WalkAnswer
found_crossed c next = walk_said 2 (accepted (next ∷ [])) c

-- the four words, and the format of the first
abbrev pub packet_said : Said → PacketAnswer
packet_said s =
    record { refusal = s.refusal; place = s.place; format = format_code (format_from (format_of (get_or s.values 0 0))); first = get_or s.values 0 0; second = get_or s.values 1 0; third = get_or s.values 2 0; fourth = get_or s.values 3 0 }

abbrev pub packet_crossed : Result Packet Refusal → PacketAnswer
packet_crossed p = packet_said (said_packet p)

abbrev pub size_crossed : Result WordNumber Refusal → SizeAnswer
size_crossed n = record { refusal = (said_size n).refusal; place = (said_size n).place; words = get_or (said_size n).values 0 0 }

-- the text's length, also where there is no room for it
abbrev pub copy_crossed : Copying → TextAnswer
copy_crossed c = record { refusal = (said_copy c).refusal; place = (said_copy c).place; length = get_or (said_copy c).values 0 0 }

-- a byte of the text is never 0, so 0 is the end
abbrev pub byte_crossed : Option ℕ → ℕ
byte_crossed t = get_or (said_step t).values 0 0

abbrev pub step_crossed : Stepped → StepAnswer
step_crossed s = record { byte = byte_crossed s.step; packet = s.place.packet.0; byte_number = s.place.byte.0 }
