-- The line of each answer of the walk. A line starts with the word position; single spaces; every line ends in a newline.
use Rattle.std.specs.Prelude.{ℕ, List, [], ◌∷◌, ◌++◌, Result, Ok, Err}
use Rattle.counts.specs.declared.WordNumber.{WordNumber}
use Rattle.text.specs.Bytes.{text_of}
use Rattle.kinds.specs.declared.refusal.Refusal.{Refusal}
use Rattle.records.specs.declared.message.Message.{Message}
use Rattle.records.specs.declared.answers.Walked.{Walked}
use Rattle.records.specs.declared.answers.Walked.TheVariants as W
use Rattle.kinds.specs.Refusals.{refusal_number, refusal_place}
use Rattle.kinds.specs.Layout.{Body, fixed, texts, layout, capacity_in}
use Rattle.records.specs.Records.{kind_in, packets_in, numbers_in}
use Rattle.standard.specs.Walk.{part}
use Rattle.numbers.specs.declared.Numbers.{Numbers}
use Rattle.numbers.specs.Numbers.{as_numbers}
use Rattle.ascii_lines.specs.Ascii.{ascii}
use Rattle.ascii_lines.specs.Numbers.{decimal, numbers, hex_or_dash}
use Rattle.sentences.specs.Sentences.{kind_name}

-- the text of n packets, of a kind that has one
abbrev pub text_shown : Body → ℕ → List ℕ → List ℕ
text_shown fixed n ws = []
text_shown (texts t from) n ws = ascii " " ++ hex_or_dash (text_of ws (capacity_in (texts t from)) n)

-- a message's packets and its nine numbers, 0 past its last
abbrev ten_in : Numbers → List ℕ
ten_in c = c.packets ∷ c.first ∷ c.second ∷ c.third ∷ c.fourth ∷ c.fifth ∷ c.sixth ∷ c.seventh ∷ c.eighth ∷ c.ninth ∷ []

abbrev pub ten_of : Message → List ℕ
ten_of m = ten_in (as_numbers m)

-- kind name, packets, fields in table order, text; `ws` are the message's words
abbrev pub message_shown : Message → List ℕ → List ℕ
message_shown m ws =
    ascii " " ++ kind_name (kind_in m) ++ numbers (packets_in m ∷ numbers_in m) ++ text_shown (layout (kind_in m)).body (packets_in m) ws

-- another type: its type and size
abbrev pub other_shown : ℕ → WordNumber → List ℕ
other_shown t size = ascii " other" ++ numbers (t ∷ size.0 ∷ [])

-- a refusal: its number and place
abbrev pub refusal_shown : Refusal → List ℕ
refusal_shown r = ascii " refused" ++ numbers (refusal_number r ∷ refusal_place r ∷ [])

-- one message, as reading answers it
abbrev pub read_shown : Result Message Refusal → List ℕ → List ℕ
read_shown (Ok m) ws = message_shown m ws
read_shown (Err r) ws = refusal_shown r

abbrev pub answer_shown : Walked → List ℕ → ℕ → List ℕ
answer_shown W.End ws pos = []
answer_shown (W.Other t size next) ws pos = other_shown t size
answer_shown (W.Message m next) ws pos = message_shown m (part ws pos (packets_in m))
answer_shown (W.Refused r next) ws pos = refusal_shown r

abbrev pub line_of : Walked → List ℕ → ℕ → List ℕ
line_of a ws pos = decimal pos ++ answer_shown a ws pos ++ ascii "\n"

-- the last line: whole words, leftover bytes
abbrev pub end_line : ℕ → ℕ → List ℕ
end_line words leftover = ascii "end" ++ numbers (words ∷ leftover ∷ []) ++ ascii "\n"

abbrev pub too_long_line : List ℕ
too_long_line = ascii "input too long\n"
