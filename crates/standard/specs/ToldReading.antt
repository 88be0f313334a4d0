-- READING, TOLD ONCE MORE: each sentence of document 01 by an example in literal words and numbers. Words not shown are zero.
use Rattle.std.specs.Prelude.{ℕ, ◌≡◌, List, [], ◌∷◌, ◌++◌, replicate}
use Rattle.kinds.specs.declared.kind.Kind.TheVariants as K
use Rattle.records.specs.Answers.{Said, accepted, said_read}
use Rattle.records.specs.Told.{refusal}
use Rattle.standard.specs.Reading.{read_of, text_at}

-- packets of which only the first words are shown
abbrev pub heads : List ℕ → List ℕ
heads [] = []
heads (h ∷ hs) = h ∷ 0 ∷ 0 ∷ 0 ∷ heads hs

-- reading the words says this
abbrev Reads : List ℕ → Said → Type 0
Reads ws said = said_read (read_of ws) ≡ said

-- a Start and n Continues of an endpoint name
abbrev pub start_and : ℕ → List ℕ
start_and n = heads (0xF4030000 ∷ replicate n 0xF8030000)

pub record ToldKinds : Type 0 where
  -- endpoint discovery: major, minor, five requests from bit 0 up
  pub discovery : Reads (0xF0000102 ∷ 0x00000015 ∷ 0 ∷ 0 ∷ []) (accepted (0x00 ∷ 1 ∷ 1 ∷ 2 ∷ 1 ∷ 0 ∷ 1 ∷ 0 ∷ 1 ∷ []))
  pub other_requests : Reads (0xF000FF80 ∷ 0x0000000A ∷ 0 ∷ 0 ∷ []) (accepted (0x00 ∷ 1 ∷ 255 ∷ 128 ∷ 0 ∷ 1 ∷ 0 ∷ 1 ∷ 0 ∷ []))
  -- endpoint info: major, minor, static, MIDI 2, MIDI 1, receives JR, sends JR, blocks
  pub info : Reads (0xF0010304 ∷ 0x85000202 ∷ 0 ∷ 0 ∷ []) (accepted (0x01 ∷ 1 ∷ 3 ∷ 4 ∷ 1 ∷ 1 ∷ 0 ∷ 1 ∷ 0 ∷ 5 ∷ []))
  pub other_flags : Reads (0xF0010000 ∷ 0x7F000101 ∷ 0 ∷ 0 ∷ []) (accepted (0x01 ∷ 1 ∷ 0 ∷ 0 ∷ 0 ∷ 0 ∷ 1 ∷ 0 ∷ 1 ∷ 127 ∷ []))
  -- device identity: manufacturer, family and model with their low seven bits first, version
  pub identity : Reads (0xF0020000 ∷ 0x00010203 ∷ 0x04050607 ∷ 0x08090A0B ∷ []) (accepted (0x02 ∷ 1 ∷ 1 ∷ 2 ∷ 3 ∷ 644 ∷ 902 ∷ 8 ∷ 9 ∷ 10 ∷ 11 ∷ []))
  -- texts: status and packets
  pub endpoint_name : Reads (0xF0034142 ∷ 0 ∷ 0 ∷ 0 ∷ []) (accepted (0x03 ∷ 1 ∷ []))
  pub product_instance_id : Reads (heads (0xF4040000 ∷ 0xF8040000 ∷ 0xFC040000 ∷ [])) (accepted (0x04 ∷ 3 ∷ []))
  -- block info: active, number, hint, port, direction, group, spanned, MIDI-CI version, streams
  pub block-info : Reads (0xF0118539 ∷ 0x0F060708 ∷ 0 ∷ 0 ∷ []) (accepted (0x11 ∷ 1 ∷ 1 ∷ 5 ∷ 3 ∷ 2 ∷ 1 ∷ 15 ∷ 6 ∷ 7 ∷ 8 ∷ []))
  pub other_choices : Reads (0xF0117F16 ∷ 0 ∷ 0 ∷ 0 ∷ []) (accepted (0x11 ∷ 1 ∷ 0 ∷ 127 ∷ 1 ∷ 1 ∷ 2 ∷ 0 ∷ 0 ∷ 0 ∷ 0 ∷ []))
  -- block name: status, packets, number
  pub block-name : Reads (heads (0xF412FF41 ∷ 0xFC12FF42 ∷ [])) (accepted (0x12 ∷ 2 ∷ 255 ∷ []))
  -- bits in no field are read past
  pub past_discovery : Reads (0xF0000102 ∷ 0xFFFFFFE0 ∷ 0xFFFFFFFF ∷ 0xFFFFFFFF ∷ []) (accepted (0x00 ∷ 1 ∷ 1 ∷ 2 ∷ 0 ∷ 0 ∷ 0 ∷ 0 ∷ 0 ∷ []))
  pub past_info : Reads (0xF0010304 ∷ 0x00FFFCFC ∷ 0xFFFFFFFF ∷ 0xFFFFFFFF ∷ []) (accepted (0x01 ∷ 1 ∷ 3 ∷ 4 ∷ 0 ∷ 0 ∷ 0 ∷ 0 ∷ 0 ∷ 0 ∷ []))
  pub past_identity : Reads (0xF002FFFF ∷ 0xFF808080 ∷ 0x80808080 ∷ 0x80808080 ∷ []) (accepted (0x02 ∷ 1 ∷ 0 ∷ 0 ∷ 0 ∷ 0 ∷ 0 ∷ 0 ∷ 0 ∷ 0 ∷ 0 ∷ []))
  pub past_block : Reads (0xF01100C3 ∷ 0xF0000000 ∷ 0xFFFFFFFF ∷ 0xFFFFFFFF ∷ []) (accepted (0x11 ∷ 1 ∷ 0 ∷ 0 ∷ 0 ∷ 0 ∷ 3 ∷ 0 ∷ 0 ∷ 0 ∷ 0 ∷ []))

pub record ToldText : Type 0 where
  -- fourteen bytes from octet 2 of word 0; thirteen from octet 3 for a block name
  pub fourteen : text_at K.EndpointName (0xF0030102 ∷ 0x03040506 ∷ 0x0708090A ∷ 0x0B0C0D0E ∷ []) ≡ 1 ∷ 2 ∷ 3 ∷ 4 ∷ 5 ∷ 6 ∷ 7 ∷ 8 ∷ 9 ∷ 10 ∷ 11 ∷ 12 ∷ 13 ∷ 14 ∷ []
  pub product : text_at K.ProductInstanceId (0xF0040102 ∷ 0x03040506 ∷ 0x0708090A ∷ 0x0B0C0D0E ∷ []) ≡ 1 ∷ 2 ∷ 3 ∷ 4 ∷ 5 ∷ 6 ∷ 7 ∷ 8 ∷ 9 ∷ 10 ∷ 11 ∷ 12 ∷ 13 ∷ 14 ∷ []
  pub thirteen : text_at K.FunctionBlockName (0xF0120102 ∷ 0x03040506 ∷ 0x0708090A ∷ 0x0B0C0D0E ∷ []) ≡ 2 ∷ 3 ∷ 4 ∷ 5 ∷ 6 ∷ 7 ∷ 8 ∷ 9 ∷ 10 ∷ 11 ∷ 12 ∷ 13 ∷ 14 ∷ []
  -- of packet after packet, without their heads and without every zero
  pub packets : text_at K.FunctionBlockName (heads (0xF4120541 ∷ 0xF8120500 ∷ 0xFC120542 ∷ [])) ≡ 0x41 ∷ 0x42 ∷ []
  pub zeros : text_at K.EndpointName (0xF0030041 ∷ 0x00420043 ∷ 0 ∷ 0x44 ∷ []) ≡ 0x41 ∷ 0x42 ∷ 0x43 ∷ 0x44 ∷ []
  -- a fixed kind has none
  pub none : text_at K.EndpointInfo (0xF0014142 ∷ 0x43434343 ∷ 0 ∷ 0 ∷ []) ≡ []
  -- a character may stand in two packets
  pub across : Reads (0xF4030000 ∷ 0 ∷ 0 ∷ 0x000000C3 ∷ 0xFC03A900 ∷ 0 ∷ 0 ∷ 0 ∷ []) (accepted (0x03 ∷ 2 ∷ []))
  pub unfinished : Reads (0xF4030000 ∷ 0 ∷ 0 ∷ 0x000000C3 ∷ 0xFC030000 ∷ 0 ∷ 0 ∷ 0 ∷ []) (refusal 11 0)
  -- a block number is not text
  pub number-apart : Reads (heads (0xF0128000 ∷ [])) (accepted (0x12 ∷ 1 ∷ 0x80 ∷ []))

pub record ToldRefusals : Type 0 where
  -- 1: under four words
  pub empty : Reads [] (refusal 1 0)
  pub three_words : Reads (0xF0030000 ∷ 0 ∷ 0 ∷ []) (refusal 1 0)
  -- 2: not a multiple of four
  pub five_words : Reads (heads (0xF0030000 ∷ []) ++ 0xF0030000 ∷ []) (refusal 2 0)
  pub six_words : Reads (heads (0xF0030000 ∷ []) ++ 0xF0030000 ∷ 0 ∷ []) (refusal 2 0)
  -- 3: 64 packets are accepted, 65 refused
  pub sixty_four : Reads (start_and 62 ++ heads (0xFC030000 ∷ [])) (accepted (0x03 ∷ 64 ∷ []))
  pub sixty_five : Reads (start_and 63 ++ heads (0xFC030000 ∷ [])) (refusal 3 0)
  -- 4: the first packet of another type
  pub first_type : Reads (heads (0x00030000 ∷ [])) (refusal 4 0)
  pub later_type : Reads (heads (0xF4030000 ∷ 0xE8030000 ∷ 0x0C030000 ∷ [])) (refusal 4 1)
  pub last_type : Reads (heads (0xF4030000 ∷ 0xF8030000 ∷ 0x7C030000 ∷ [])) (refusal 4 2)
  -- 5: a status of none of the seven; ten bits count
  pub status_05 : Reads (heads (0xF0050000 ∷ [])) (refusal 5 0)
  pub status_06 : Reads (heads (0xF0060000 ∷ [])) (refusal 5 0)
  pub status_10 : Reads (heads (0xF0100000 ∷ [])) (refusal 5 0)
  pub status_20 : Reads (heads (0xF0200000 ∷ [])) (refusal 5 0)
  pub status_21 : Reads (heads (0xF0210000 ∷ [])) (refusal 5 0)
  pub status_103 : Reads (heads (0xF1030000 ∷ [])) (refusal 5 0)
  pub status_203 : Reads (heads (0xF2030000 ∷ [])) (refusal 5 0)
  -- 6: the first later status that differs
  pub later_status : Reads (heads (0xF4030000 ∷ 0xF8040000 ∷ 0xFC110000 ∷ [])) (refusal 6 1)
  pub last_status : Reads (heads (0xF4030000 ∷ 0xF8030000 ∷ 0xFC030000 ∷ 0xFD030000 ∷ [])) (refusal 6 3)
  -- 7: a fixed kind in several packets, at place 1 before formats
  pub fixed_kind : Reads (heads (0xF0110003 ∷ 0xF0110003 ∷ [])) (refusal 7 1)
  pub fixed_kind_framed : Reads (heads (0xF4000000 ∷ 0xF8000000 ∷ 0xFC000000 ∷ [])) (refusal 7 1)
  -- 7: the first format that is not due by the packet count
  pub lone_start : Reads (heads (0xF4030000 ∷ [])) (refusal 7 0)
  pub lone_continue : Reads (heads (0xF8110003 ∷ [])) (refusal 7 0)
  pub lone_end : Reads (heads (0xFC030000 ∷ [])) (refusal 7 0)
  pub complete_twice : Reads (heads (0xF0030000 ∷ 0xF0030000 ∷ [])) (refusal 7 0)
  pub start_twice : Reads (heads (0xF4030000 ∷ 0xF4030000 ∷ [])) (refusal 7 1)
  pub end_early : Reads (heads (0xF4030000 ∷ 0xFC030000 ∷ 0xFC030000 ∷ [])) (refusal 7 1)
  pub end_missing : Reads (heads (0xF4030000 ∷ 0xF8030000 ∷ 0xF8030000 ∷ [])) (refusal 7 2)
  -- 8: the first block number unlike that of the first packet
  pub later-number : Reads (heads (0xF4120500 ∷ 0xF8120600 ∷ 0xFC120700 ∷ [])) (refusal 8 1)
  pub last_number : Reads (heads (0xF4120500 ∷ 0xF8120500 ∷ 0xFC120400 ∷ [])) (refusal 8 2)
  -- 9: port 3; 10: direction 0; 11: not UTF-8
  pub port : Reads (heads (0xF011000D ∷ [])) (refusal 9 0)
  pub direction : Reads (heads (0xF0110008 ∷ [])) (refusal 10 0)
  pub text : Reads (heads (0xF01205FF ∷ [])) (refusal 11 0)

pub record ToldOrder : Type 0 where
  -- each slice breaks both rules, and the lower number is given, though its place be later
  pub one_two : Reads (0 ∷ []) (refusal 1 0)
  pub two_three : Reads (start_and 63 ++ heads (0xFC030000 ∷ []) ++ 0 ∷ []) (refusal 2 0)
  pub two_four : Reads (replicate 5 0) (refusal 2 0)
  pub three_four : Reads (replicate 260 0) (refusal 3 0)
  pub not_three : Reads (replicate 256 0) (refusal 4 0)
  pub four_five : Reads (heads (0xF4780000 ∷ 0xFC780000 ∷ 0x00780000 ∷ [])) (refusal 4 2)
  pub five_six : Reads (heads (0xF4780000 ∷ 0xFC030000 ∷ [])) (refusal 5 0)
  pub six_seven : Reads (heads (0xF0030000 ∷ 0xF4030000 ∷ 0xF0040000 ∷ [])) (refusal 6 2)
  pub six_fixed : Reads (heads (0xF4110003 ∷ 0xF8110003 ∷ 0xFC120003 ∷ [])) (refusal 6 2)
  pub seven_eight : Reads (heads (0xF4120500 ∷ 0xF8120600 ∷ 0xF8120500 ∷ [])) (refusal 7 2)
  pub seven_nine : Reads (heads (0xF4110000 ∷ [])) (refusal 7 0)
  pub eight_eleven : Reads (heads (0xF41205FF ∷ 0xFC120600 ∷ [])) (refusal 8 1)
  pub nine_ten : Reads (heads (0xF01180FC ∷ [])) (refusal 9 0)

-- the examples of reading, a part for each of its rules
pub record ToldReading : Type 0 where
  pub kinds : ToldKinds
  pub text : ToldText
  pub refusals : ToldRefusals
  pub order : ToldOrder
