-- CODES, RECORDS AND TYPES FROM C, TOLD ONCE MORE, by examples in literal words and numbers.
use Rattle.std.specs.Prelude.{ℕ, ◌≡◌, true, List, [], ◌∷◌}
use Rattle.laws.specs.Lists.{map}
use Rattle.kinds.specs.Fields.{Flag, Setting}
use Rattle.records.specs.Answers.{Said, accepted, said_answer}
use Rattle.records.specs.Told.{refusal}
use Rattle.standard.specs.Words.{Outcome}
use Rattle.numbers.specs.declared.Numbers.{Numbers}
use Rattle.numbers.specs.Numbers.{numbered}
use Rattle.c_structs.specs.Crossed.{with_numbers, said_with}
use Rattle.frayedbin.specs.Calls.{words_of_type, hint_on, port_on, direction_on, set_in, hint_in, port_in, direction_in, write_in, fresh_in}

-- a call says this and leaves these words; refused, it leaves the words as they were
abbrev Leaves : Outcome → Said → List ℕ → Type 0
Leaves o said ws = (said_answer o.answer ≡ said) × (o.words ≡ ws)

-- a packet of this first word
abbrev one : ℕ → List ℕ
one w = w ∷ 0 ∷ 0 ∷ 0 ∷ []

pub record ToldCodes : Type 0 where
  -- what the walk refuses comes before a code that names no choice
  pub empty : Leaves (hint_on 4 []) (refusal 1 0) []
  pub other_type : Leaves (direction_on 0 (one 0x20000000)) (refusal 4 0) (one 0x20000000)
  pub no_kind : Leaves (port_on 3 (one 0xF0780000)) (refusal 5 0) (one 0xF0780000)
  -- and so does 13
  pub name : Leaves (port_on 3 (one 0xF0030000)) (refusal 13 0) (one 0xF0030000)
  -- else it is 12
  pub hint_four : Leaves (hint_on 4 (one 0xF0110003)) (refusal 12 0) (one 0xF0110003)
  pub port_three : Leaves (port_on 3 (one 0xF0110003)) (refusal 12 0) (one 0xF0110003)
  pub direction_none : Leaves (direction_on 0 (one 0xF0110003)) (refusal 12 0) (one 0xF0110003)
  pub direction_four : Leaves (direction_on 4 (one 0xF0110003)) (refusal 12 0) (one 0xF0110003)
  -- a code that names one sets it
  pub hint : Leaves (hint_on 3 (one 0xF0110003)) (accepted []) (one 0xF0110033)
  pub port : Leaves (port_on 2 (one 0xF0110003)) (accepted []) (one 0xF011000B)
  pub direction : Leaves (direction_on 1 (one 0xF0110003)) (accepted []) (one 0xF0110001)

-- a block info from C, its flag and its choices
abbrev block_info : ℕ → ℕ → ℕ → ℕ → Numbers
block_info a h p d = numbered 0x11 1 (a ∷ 0 ∷ h ∷ p ∷ d ∷ [])

abbrev block_name : ℕ → Numbers
block_name n = numbered 0x12 1 (n ∷ [])

pub record ToldRecords : Type 0 where
  -- of a record from C: 13 before the 12 of its numbers, which are handed back
  pub port_of_a_name : port_in 3 (block_name 256) ≡ said_with (refusal 13 0) (block_name 256)
  pub flag_of_a_name : set_in (λ k. Setting.flag Flag.active true) (block_name 256) ≡ said_with (refusal 13 0) (block_name 256)
  pub no_record : set_in (λ k. Setting.flag Flag.active true) (block_info 0 0 3 3) ≡ said_with (refusal 12 0) (block_info 0 0 3 3)
  pub hint_four : hint_in 4 (block_info 0 0 0 3) ≡ said_with (refusal 12 0) (block_info 0 0 0 3)
  pub port_three : port_in 3 (block_info 0 0 0 3) ≡ said_with (refusal 12 0) (block_info 0 0 0 3)
  pub direction_none : direction_in 0 (block_info 0 0 0 3) ≡ said_with (refusal 12 0) (block_info 0 0 0 3)
  pub port : port_in 2 (block_info 1 0 0 3) ≡ with_numbers (block_info 1 0 2 3)
  -- written: 13 for a kind with text comes before 12, and 12 before 14
  pub write_name : Leaves (write_in (block_name 256) []) (refusal 13 0) []
  pub write_large : Leaves (write_in (block_info 2 0 0 3) []) (refusal 12 0) []
  pub write_short : Leaves (write_in (block_info 1 0 0 3) []) (refusal 14 0) []
  -- the record of a fresh message: one packet, and direction 3
  pub fresh-block : fresh_in 0x11 ≡ with_numbers (block_info 0 0 0 3)
  pub fresh-name : fresh_in 0x03 ≡ with_numbers (numbered 0x03 1 [])
  pub fresh-none : fresh_in 0x05 ≡ said_with (refusal 5 0) (numbered 0 0 [])

pub record ToldTypes : Type 0 where
  -- each type has its words
  pub types : map words_of_type (0x0 ∷ 0x4 ∷ 0x5 ∷ 0x7 ∷ 0x8 ∷ 0xA ∷ 0xB ∷ 0xC ∷ 0xD ∷ 0xF ∷ []) ≡ 1 ∷ 2 ∷ 4 ∷ 1 ∷ 2 ∷ 2 ∷ 3 ∷ 3 ∷ 4 ∷ 4 ∷ []
  -- a number above 15 has none, and so has a whole word in place of its type
  pub no_type : map words_of_type (16 ∷ 0x20000000 ∷ 0xFFFFFFFF ∷ []) ≡ 0 ∷ 0 ∷ 0 ∷ []
