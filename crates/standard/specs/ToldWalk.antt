-- THE WALK, TOLD ONCE MORE: each sentence of document 01 by an example in literal words and numbers. Words not shown are zero.
use Rattle.std.specs.Prelude.{ℕ, ◌≡◌, List, [], ◌∷◌, ◌++◌, length, eqb}
use Rattle.laws.specs.Pick.{pick}
use Rattle.laws.specs.Lists.{tabulate, map, each}
use Rattle.records.specs.Answers.{Said, accepted, said_read, walked_case, said_walked}
use Rattle.records.specs.Told.{refusal}
use Rattle.standard.specs.Reading.{read_of}
use Rattle.standard.specs.Walk.{sizes, size_of, walk_of}
use Rattle.standard.specs.ToldReading.{heads, start_and}

-- at a position of the words the walk says this
abbrev Walks : List ℕ → ℕ → Said → Type 0
Walks ws pos said = said_walked (walk_of ws pos) ≡ said

-- another type, its size and the next position; a message and a refusal with the next position
abbrev other : ℕ → ℕ → ℕ → Said
other t size next = accepted (next ∷ t ∷ size ∷ [])

abbrev message : ℕ → List ℕ → Said
message next values = accepted (next ∷ 0 ∷ 0 ∷ values)

abbrev refused_to : ℕ → ℕ → ℕ → Said
refused_to next n p = record { refusal = n; place = p; values = next ∷ [] }

-- one of each type, in order
abbrev every_type : List ℕ
every_type =
    0x00000000
    ∷ 0x10000000
    ∷ 0x20000000
    ∷ 0x30000000 ∷ 0
    ∷ 0x40000000 ∷ 0
    ∷ 0x50000000 ∷ 0 ∷ 0 ∷ 0
    ∷ 0x60000000
    ∷ 0x70000000
    ∷ 0x80000000 ∷ 0
    ∷ 0x90000000 ∷ 0
    ∷ 0xA0000000 ∷ 0
    ∷ 0xB0000000 ∷ 0 ∷ 0
    ∷ 0xC0000000 ∷ 0 ∷ 0
    ∷ 0xD0000000 ∷ 0 ∷ 0 ∷ 0
    ∷ 0xE0000000 ∷ 0 ∷ 0 ∷ 0
    ∷ 0xF0040000 ∷ 0 ∷ 0 ∷ 0
    ∷ []

-- words in front of which another one stands
abbrev after : List ℕ → List ℕ
after ws = 0x10000000 ∷ ws

-- the types that have so many words
abbrev types_of : ℕ → List ℕ
types_of n = each (λ t. pick (eqb (size_of t) n) (t ∷ []) []) (tabulate 16 (λ t. t))

pub record ToldSizes : Type 0 where
  -- sizes: 0, 1, 2, 6, 7: 1; 3, 4, 8, 9, A: 2; B, C: 3; 5, D, E, F: 4
  pub sixteen : length sizes ≡ 16
  pub of_one : types_of 1 ≡ 0x0 ∷ 0x1 ∷ 0x2 ∷ 0x6 ∷ 0x7 ∷ []
  pub of_two : types_of 2 ≡ 0x3 ∷ 0x4 ∷ 0x8 ∷ 0x9 ∷ 0xA ∷ []
  pub of_three : types_of 3 ≡ 0xB ∷ 0xC ∷ []
  pub of_four : types_of 4 ≡ 0x5 ∷ 0xD ∷ 0xE ∷ 0xF ∷ []
  -- a number above 15 is no type, and is given four
  pub no_type : size_of 16 ≡ 4
  -- the walk passes so many words of each type
  pub type_0 : Walks every_type 0 (other 0x0 1 1)
  pub type_1 : Walks every_type 1 (other 0x1 1 2)
  pub type_2 : Walks every_type 2 (other 0x2 1 3)
  pub type_3 : Walks every_type 3 (other 0x3 2 5)
  pub type_4 : Walks every_type 5 (other 0x4 2 7)
  pub type_5 : Walks every_type 7 (other 0x5 4 11)
  pub type_6 : Walks every_type 11 (other 0x6 1 12)
  pub type_7 : Walks every_type 12 (other 0x7 1 13)
  pub type_8 : Walks every_type 13 (other 0x8 2 15)
  pub type_9 : Walks every_type 15 (other 0x9 2 17)
  pub type_a : Walks every_type 17 (other 0xA 2 19)
  pub type_b : Walks every_type 19 (other 0xB 3 22)
  pub type_c : Walks every_type 22 (other 0xC 3 25)
  pub type_d : Walks every_type 25 (other 0xD 4 29)
  pub type_e : Walks every_type 29 (other 0xE 4 33)
  pub type_f : Walks every_type 33 (message 37 (0x04 ∷ 1 ∷ []))
  -- a position at or past the length is the end
  pub at_length : Walks every_type 37 (accepted [])
  pub past_length : Walks every_type 40 (accepted [])
  pub empty : Walks [] 0 (accepted [])
  -- which answer it is: the end, another type, a message, a refusal
  pub cases : map walked_case (walk_of [] 0 ∷ walk_of every_type 0 ∷ walk_of every_type 33 ∷ walk_of (0x30000000 ∷ []) 0 ∷ []) ≡ 0 ∷ 1 ∷ 2 ∷ 3 ∷ []
  -- another type with words missing is refusal 1, and the length is next
  pub two_cut : Walks (0x30000000 ∷ []) 0 (refused_to 1 1 0)
  pub three_cut : Walks (after (0xC0000000 ∷ 0 ∷ [])) 1 (refused_to 3 1 0)
  pub four_cut : Walks (after (0x50000000 ∷ 0 ∷ 0 ∷ [])) 1 (refused_to 4 1 0)

pub record ToldMessages : Type 0 where
  -- after a message the word after it is next, whatever stands there
  pub complete : Walks (after (heads (0xF0035A00 ∷ 0x00000000 ∷ []))) 1 (message 5 (0x03 ∷ 1 ∷ []))
  pub three_packets : Walks (after (heads (0xF4120700 ∷ 0xF8120700 ∷ 0xFC120700 ∷ 0xF8120700 ∷ []))) 1 (message 13 (0x12 ∷ 3 ∷ 7 ∷ []))
  pub fields : Walks (after (0xF0118539 ∷ 0x0F060708 ∷ 0 ∷ 0 ∷ [])) 1 (message 5 (0x11 ∷ 1 ∷ 1 ∷ 5 ∷ 3 ∷ 2 ∷ 1 ∷ 15 ∷ 6 ∷ 7 ∷ 8 ∷ []))
  -- after a refusal in reading it too: 5, 7 of a fixed kind in several packets, 8, 9, 10, 11
  pub status : Walks (after (heads (0xF4780000 ∷ 0xFC780000 ∷ []))) 1 (refused_to 9 5 0)
  pub fixed_kind : Walks (after (heads (0xF4110003 ∷ 0xF8110003 ∷ 0xFC110003 ∷ []))) 1 (refused_to 13 7 1)
  pub numbers : Walks (after (heads (0xF4120500 ∷ 0xF8120500 ∷ 0xFC120600 ∷ []))) 1 (refused_to 13 8 2)
  pub port : Walks (heads (0xF011000C ∷ [])) 0 (refused_to 4 9 0)
  pub direction : Walks (after (heads (0xF0110000 ∷ []))) 1 (refused_to 5 10 0)
  pub text : Walks (heads (0xF4030000 ∷ 0xFC03C300 ∷ [])) 0 (refused_to 8 11 0)
  -- reading and walking differ on the same words
  pub read_five : said_read (read_of (heads (0xF4780000 ∷ 0xFC030000 ∷ []))) ≡ refusal 5 0
  pub walked_six : Walks (heads (0xF4780000 ∷ 0xFC030000 ∷ [])) 0 (refused_to 4 6 1)
  pub read_seven : said_read (read_of (heads (0xF0030000 ∷ 0xF0030000 ∷ []))) ≡ refusal 7 0
  pub walked_twice : Walks (heads (0xF0030000 ∷ 0xF0030000 ∷ [])) 0 (message 4 (0x03 ∷ 1 ∷ []))
  pub walked_fixed : Walks (heads (0xF4110003 ∷ 0xFC110003 ∷ [])) 0 (refused_to 8 7 1)
  pub walked_continue : Walks (heads (0xF8110003 ∷ [])) 0 (refused_to 4 7 0)
  pub walked_short : Walks (heads (0xF4780000 ∷ [])) 0 (refused_to 4 1 0)

pub record ToldFraming : Type 0 where
  -- outside a message only Complete or Start, inside only Continue or End: else 7, and four words on
  pub continue_outside : Walks (after (heads (0xF8030000 ∷ 0xFC030000 ∷ []))) 1 (refused_to 5 7 0)
  pub end_outside : Walks (after (heads (0xFC030000 ∷ 0xF0030000 ∷ []))) 1 (refused_to 5 7 0)
  pub complete_inside : Walks (heads (0xF4030000 ∷ 0xF0030000 ∷ 0xF0030000 ∷ [])) 0 (refused_to 4 7 1)
  pub start-inside : Walks (heads (0xF4030000 ∷ 0xF8030000 ∷ 0xF4030000 ∷ [])) 0 (refused_to 4 7 2)
  -- before the status is looked at
  pub unknown_outside : Walks (after (heads (0xFC780000 ∷ []))) 1 (refused_to 5 7 0)
  pub unknown_inside : Walks (heads (0xF4780000 ∷ 0xF0780000 ∷ [])) 0 (refused_to 4 7 1)
  -- 4 and 6 in framing: four words on
  pub type : Walks (after (heads (0xF4030000 ∷ 0xF8030000 ∷ 0x3C030000 ∷ []))) 1 (refused_to 5 4 2)
  pub status : Walks (after (heads (0xF4030000 ∷ 0xFC040000 ∷ []))) 1 (refused_to 5 6 1)
  pub later_status : Walks (heads (0xF4030000 ∷ 0xF8030000 ∷ 0xFC040000 ∷ [])) 0 (refused_to 4 6 2)
  -- 1: fewer than four words left, and the length is next
  pub first_cut : Walks (0xF0030000 ∷ 0 ∷ 0 ∷ []) 0 (refused_to 3 1 0)
  pub later_cut : Walks (after (heads (0xF4030000 ∷ 0xF8030000 ∷ []) ++ 0xFC030000 ∷ 0 ∷ 0 ∷ [])) 1 (refused_to 12 1 0)
  pub none_left : Walks (after (heads (0xF4030000 ∷ []))) 1 (refused_to 5 1 0)
  -- 3: packet 64 is due, even with no words left; four words on
  pub sixty_four_due : Walks (after (start_and 63)) 1 (refused_to 5 3 0)
  pub sixty_five : Walks (start_and 63 ++ heads (0xFC030000 ∷ [])) 0 (refused_to 4 3 0)
  pub sixty_three_due : Walks (after (start_and 62)) 1 (refused_to 253 1 0)
  pub sixty_four : Walks (after (start_and 62 ++ heads (0xFC030000 ∷ []))) 1 (message 257 (0x03 ∷ 64 ∷ []))
  -- each packet breaks both rules: 3 before 4, 1 before 4, 4 before 6, 6 before 7
  pub three_four : Walks (start_and 63 ++ heads (0x10040000 ∷ [])) 0 (refused_to 4 3 0)
  pub one_four : Walks (heads (0xF4030000 ∷ []) ++ 0x10030000 ∷ 0 ∷ 0 ∷ []) 0 (refused_to 7 1 0)
  pub four_six : Walks (heads (0xF4030000 ∷ 0x10040000 ∷ [])) 0 (refused_to 4 4 1)
  pub six_seven : Walks (heads (0xF4030000 ∷ 0xF4040000 ∷ [])) 0 (refused_to 4 6 1)
  -- but the first packet that breaks one counts, whichever it is
  pub seven-first : Walks (heads (0xF4030000 ∷ 0xF0030000 ∷ 0x10040000 ∷ [])) 0 (refused_to 4 7 1)

-- the examples of the walk
pub record ToldWalk : Type 0 where
  pub sizes : ToldSizes
  pub messages : ToldMessages
  pub framing : ToldFraming
