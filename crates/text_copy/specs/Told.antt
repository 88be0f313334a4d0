-- COPYING A TEXT, TOLD ONCE MORE: by examples in literal words and bytes.
use Rattle.std.specs.Prelude.{ℕ, ◌≡◌, List, [], ◌∷◌}
use Rattle.records.specs.Answers.{Said, accepted}
use Rattle.records.specs.Told.{refusal}
use Rattle.text_copy.specs.Copied.{copy_on, said_copy}

-- copying the text of the words says this and leaves these bytes
abbrev Copies : List ℕ → List ℕ → Said → List ℕ → Type 0
Copies ws out said after = (said_copy (copy_on ws out).answer ≡ said) × ((copy_on ws out).bytes ≡ after)

-- refusal 14 with the length that the text has
abbrev no_room : ℕ → Said
no_room n = record { refusal = 14; place = 0; values = n ∷ [] }

-- `é` in an endpoint name; `A`, `B`, `C` and `D` with zeros before, between and after them
abbrev accented : List ℕ
accented = 0xF003C3A9 ∷ 0 ∷ 0 ∷ 0 ∷ []

abbrev holed : List ℕ
holed = 0xF0040041 ∷ 0x00420043 ∷ 0 ∷ 0x44000000 ∷ []

-- a name of block 0x41 in two packets: thirteen bytes, and then one
abbrev block : List ℕ
block = 0xF4124161 ∷ 0x62636465 ∷ 0x66676869 ∷ 0x6A6B6C6D ∷ 0xFC12416E ∷ 0 ∷ 0 ∷ 0 ∷ []

abbrev seven : List ℕ
seven = 7 ∷ 7 ∷ 7 ∷ 7 ∷ []

pub record ToldCopies : Type 0 where
  -- the text stands at the start, and the rest is unchanged
  pub at_the_start : Copies accented seven (accepted (2 ∷ [])) (0xC3 ∷ 0xA9 ∷ 7 ∷ 7 ∷ [])
  -- just enough room, and one byte too little
  pub just_room : Copies accented (7 ∷ 7 ∷ []) (accepted (2 ∷ [])) (0xC3 ∷ 0xA9 ∷ [])
  pub one_too_few : Copies accented (7 ∷ []) (no_room 2) (7 ∷ [])
  pub no_bytes : Copies accented [] (no_room 2) []
  -- every zero is dropped
  pub zeros_dropped : Copies holed seven (accepted (4 ∷ [])) (0x41 ∷ 0x42 ∷ 0x43 ∷ 0x44 ∷ [])
  pub holed_too_long : Copies holed (7 ∷ 7 ∷ 7 ∷ []) (no_room 4) (7 ∷ 7 ∷ 7 ∷ [])
  -- a character in two packets, with zeros between its octets
  pub across : Copies (0xF4030000 ∷ 0 ∷ 0 ∷ 0x000000C3 ∷ 0xFC03A900 ∷ 0 ∷ 0 ∷ 0 ∷ []) seven (accepted (2 ∷ [])) (0xC3 ∷ 0xA9 ∷ 7 ∷ 7 ∷ [])
  -- a block name starts at octet 3: its number is not text
  pub block-name : Copies block (0 ∷ 0 ∷ 0 ∷ 0 ∷ 0 ∷ 0 ∷ 0 ∷ 0 ∷ 0 ∷ 0 ∷ 0 ∷ 0 ∷ 0 ∷ 0 ∷ 9 ∷ []) (accepted (14 ∷ [])) (0x61 ∷ 0x62 ∷ 0x63 ∷ 0x64 ∷ 0x65 ∷ 0x66 ∷ 0x67 ∷ 0x68 ∷ 0x69 ∷ 0x6A ∷ 0x6B ∷ 0x6C ∷ 0x6D ∷ 0x6E ∷ 9 ∷ [])
  pub block_too_long : Copies block seven (no_room 14) seven
  -- an empty text leaves every byte, and fits into none
  pub empty_text : Copies (0xF0030000 ∷ 0 ∷ 0 ∷ 0 ∷ []) seven (accepted (0 ∷ [])) seven
  pub empty_into_none : Copies (0xF0030000 ∷ 0 ∷ 0 ∷ 0 ∷ []) [] (accepted (0 ∷ [])) []
  -- the four kinds without text are refusal 13
  pub discovery : Copies (0xF0000101 ∷ 0x1F ∷ 0 ∷ 0 ∷ []) seven (refusal 13 0) seven
  pub info : Copies (0xF0010101 ∷ 0x41414141 ∷ 0x41414141 ∷ 0 ∷ []) seven (refusal 13 0) seven
  pub identity : Copies (0xF0020000 ∷ 0x00414141 ∷ 0 ∷ 0 ∷ []) seven (refusal 13 0) seven
  pub block-info : Copies (0xF0110003 ∷ 0 ∷ 0 ∷ 0 ∷ []) seven (refusal 13 0) seven
  -- what reading refuses is refused the same
  pub no_words : Copies [] seven (refusal 1 0) seven
  pub not_whole : Copies (0xF0034141 ∷ 0 ∷ 0 ∷ 0 ∷ 0 ∷ []) seven (refusal 2 0) seven
  pub second_format : Copies (0xF4034141 ∷ 0 ∷ 0 ∷ 0 ∷ 0xF8034141 ∷ 0 ∷ 0 ∷ 0 ∷ []) seven (refusal 7 1) seven
  pub not_utf8 : Copies (0xF003C300 ∷ 0 ∷ 0 ∷ 0 ∷ []) seven (refusal 11 0) seven
