-- FRESH MESSAGES, SETTINGS ON WORDS AND WRITING, TOLD ONCE MORE, by examples in literal words and numbers. Words not shown are zero.
use Rattle.std.specs.Prelude.{ℕ, ◌≡◌, true, false, List, [], ◌∷◌, ◌++◌, replicate}
use Rattle.laws.specs.Lists.{map}
use Rattle.counts.specs.Counts.{packet}
use Rattle.kinds.specs.declared.kind.Kind.TheVariants as K
use Rattle.kinds.specs.declared.choices.UiHint.TheVariants as H
use Rattle.kinds.specs.declared.choices.Midi1Port.TheVariants as P
use Rattle.kinds.specs.declared.choices.Direction.TheVariants as D
use Rattle.kinds.specs.Fields.{Flag, Number, Pair, Text, Field, Setting, field_in}
use Rattle.records.specs.declared.message.Message.{Message}
use Rattle.records.specs.declared.message.Message.TheVariants as M
use Rattle.records.specs.Answers.{Said, accepted, said_answer}
use Rattle.records.specs.Told.{refusal, info_of, discovery, info, identity, block_info, discovery_settings, info_settings, identity_settings, block_settings, blocks, group, block}
use Rattle.standard.specs.Words.{Outcome, fresh_on, set_on, write_on}
use Rattle.standard.specs.Lists.{SettingAnswer, set_all, answer_all, last_accepted, only_field}
use Rattle.standard.specs.Cases.{letters, full}
use Rattle.standard.specs.ToldReading.{heads}

-- a call says this and leaves these words
abbrev Leaves : Outcome → Said → List ℕ → Type 0
Leaves o said ws = (said_answer o.answer ≡ said) × (o.words ≡ ws)

-- a fresh message of a status: accepted, or refused and no word changed
abbrev LeavesFresh : ℕ → List ℕ → List ℕ → Type 0
LeavesFresh status ws left = Leaves (fresh_on status ws) (accepted []) left

abbrev KeepsFresh : ℕ → List ℕ → ℕ → Type 0
KeepsFresh status ws n = Leaves (fresh_on status ws) (refusal n 0) ws

-- a setting, likewise
abbrev LeavesSet : Setting → List ℕ → List ℕ → Type 0
LeavesSet s ws left = Leaves (set_on s ws) (accepted []) left

abbrev KeepsSet : Setting → List ℕ → ℕ → ℕ → Type 0
KeepsSet s ws n p = Leaves (set_on s ws) (refusal n p) ws

-- a record written, likewise
abbrev LeavesWritten : Message → List ℕ → List ℕ → Type 0
LeavesWritten m ws left = Leaves (write_on m ws) (accepted []) left

abbrev KeepsWritten : Message → List ℕ → ℕ → Type 0
KeepsWritten m ws n = Leaves (write_on m ws) (refusal n 0) ws

-- words that stood in a buffer before
abbrev old : ℕ → List ℕ
old n = replicate n 0x12345678

pub record ToldFresh : Type 0 where
  -- every whole packet is zeroed, then type, Complete and status; block info starts with direction 3
  pub discovery : LeavesFresh 0x00 (old 4) (heads (0xF0000000 ∷ []))
  pub info : LeavesFresh 0x01 (old 4) (heads (0xF0010000 ∷ []))
  pub identity : LeavesFresh 0x02 (old 4) (heads (0xF0020000 ∷ []))
  pub endpoint_name : LeavesFresh 0x03 (old 4) (heads (0xF0030000 ∷ []))
  pub product_instance_id : LeavesFresh 0x04 (old 4) (heads (0xF0040000 ∷ []))
  pub block-info : LeavesFresh 0x11 (old 12) (heads (0xF0110003 ∷ 0 ∷ 0 ∷ []))
  pub block-name : LeavesFresh 0x12 (old 4) (heads (0xF0120000 ∷ []))
  -- up to three words after the whole packets are kept
  pub tail : LeavesFresh 0x03 (old 7) (0xF0030000 ∷ 0 ∷ 0 ∷ 0 ∷ old 3)
  -- 5: none of the seven; 14: no whole packet; 5 before 14; no word changes
  pub unknown : KeepsFresh 0x05 (old 8) 5
  pub ten_bits : KeepsFresh 0x103 (old 8) 5
  pub no_room : KeepsFresh 0x03 (old 3) 14
  pub empty : KeepsFresh 0x11 [] 14
  pub five_fourteen : KeepsFresh 0x78 (old 3) 5

-- some settings
abbrev name : List ℕ → Setting
name t = Setting.text Text.endpoint_name t

abbrev block_name : List ℕ → Setting
block_name t = Setting.text Text.function_block_name t

-- packets of the kinds with all bits of the fields set, and those in no field
abbrev discovery_ones : List ℕ
discovery_ones = 0xF000FFFF ∷ replicate 3 0xFFFFFFFF

abbrev info_ones : List ℕ
info_ones = 0xF001FFFF ∷ replicate 3 0xFFFFFFFF

abbrev identity_ones : List ℕ
identity_ones = 0xF002FFFF ∷ replicate 3 0xFFFFFFFF

-- a block info may have port 2, not 3
abbrev block_ones : List ℕ
block_ones = 0xF011FFFB ∷ replicate 3 0xFFFFFFFF

pub record ToldFields : Type 0 where
  -- a setting changes the bits of its field, and keeps every other, also those in no field
  pub flag_off : LeavesSet (Setting.flag Flag.request_device_identity false) discovery_ones (0xF000FFFF ∷ 0xFFFFFFFD ∷ 0xFFFFFFFF ∷ 0xFFFFFFFF ∷ [])
  pub flag_on : LeavesSet (Setting.flag Flag.static_function_blocks true) (heads (0xF0010000 ∷ [])) (0xF0010000 ∷ 0x80000000 ∷ 0 ∷ 0 ∷ [])
  pub number : LeavesSet (blocks 5) info_ones (0xF001FFFF ∷ 0x85FFFFFF ∷ 0xFFFFFFFF ∷ 0xFFFFFFFF ∷ [])
  pub four_bits : LeavesSet (group 0) block_ones (0xF011FFFB ∷ 0xF0FFFFFF ∷ 0xFFFFFFFF ∷ 0xFFFFFFFF ∷ [])
  pub in_word_0 : LeavesSet (Setting.number Number.function_block_number 1) block_ones (0xF01181FB ∷ 0xFFFFFFFF ∷ 0xFFFFFFFF ∷ 0xFFFFFFFF ∷ [])
  pub hint : LeavesSet (Setting.ui_hint H.Receiver) block_ones (0xF011FFDB ∷ 0xFFFFFFFF ∷ 0xFFFFFFFF ∷ 0xFFFFFFFF ∷ [])
  pub port : LeavesSet (Setting.midi1_port P.None) block_ones (0xF011FFF3 ∷ 0xFFFFFFFF ∷ 0xFFFFFFFF ∷ 0xFFFFFFFF ∷ [])
  pub direction : LeavesSet (Setting.direction D.Input) block_ones (0xF011FFF9 ∷ 0xFFFFFFFF ∷ 0xFFFFFFFF ∷ 0xFFFFFFFF ∷ [])
  pub manufacturer : LeavesSet (Setting.device_manufacturer 1 2 3) identity_ones (0xF002FFFF ∷ 0xFF818283 ∷ 0xFFFFFFFF ∷ 0xFFFFFFFF ∷ [])
  pub family : LeavesSet (Setting.pair Pair.device_family 644) identity_ones (0xF002FFFF ∷ 0xFFFFFFFF ∷ 0x8485FFFF ∷ 0xFFFFFFFF ∷ [])
  pub model : LeavesSet (Setting.pair Pair.device_family_model_number 902) identity_ones (0xF002FFFF ∷ 0xFFFFFFFF ∷ 0xFFFF8687 ∷ 0xFFFFFFFF ∷ [])
  pub version : LeavesSet (Setting.software_version 8 9 10 11) identity_ones (0xF002FFFF ∷ 0xFFFFFFFF ∷ 0xFFFFFFFF ∷ 0x88898A8B ∷ [])
  -- of words after the message none changes
  pub words_after : LeavesSet (Setting.direction D.Output) (heads (0xF0110003 ∷ 0xF0110003 ∷ []) ++ old 2) (heads (0xF0110002 ∷ 0xF0110003 ∷ []) ++ old 2)

pub record ToldTexts : Type 0 where
  -- the block number: each packet of the message, and none after
  pub block-number : LeavesSet (block 6) (heads (0xF4120541 ∷ 0xF8120542 ∷ 0xFC120543 ∷ 0xF0120544 ∷ [])) (heads (0xF4120641 ∷ 0xF8120642 ∷ 0xFC120643 ∷ 0xF0120544 ∷ []))
  -- text: type, status, format and number in each needed packet, zeros in every whole packet after them, the tail kept
  pub grown : LeavesSet (block_name (letters 14)) (heads (0xF0120541 ∷ []) ++ old 10) ((0xF4120561 ∷ full) ++ heads (0xFC120561 ∷ 0 ∷ []) ++ old 2)
  pub shrunk : LeavesSet (name (0x42 ∷ [])) (heads (0xF4034100 ∷ 0xF8034100 ∷ 0xFC034100 ∷ []) ++ old 3) (heads (0xF0034200 ∷ 0 ∷ 0 ∷ []) ++ old 3)
  pub emptied : LeavesSet (Setting.text Text.product_instance_id []) (0xF0046161 ∷ full) (heads (0xF0040000 ∷ []))
  pub in_order : LeavesSet (name (1 ∷ 2 ∷ 3 ∷ 4 ∷ 5 ∷ 6 ∷ 7 ∷ 8 ∷ 9 ∷ 10 ∷ 11 ∷ 12 ∷ 13 ∷ 14 ∷ 15 ∷ [])) (heads (0xF0030000 ∷ 0 ∷ [])) (0xF4030102 ∷ 0x03040506 ∷ 0x0708090A ∷ 0x0B0C0D0E ∷ heads (0xFC030F00 ∷ []))
  -- text is checked as given: a zero byte is a character, is written, and vanishes on reading
  pub zero_byte : LeavesSet (name (0x41 ∷ 0 ∷ 0x42 ∷ [])) (heads (0xF0030000 ∷ [])) (0xF0034100 ∷ 0x42000000 ∷ 0 ∷ 0 ∷ [])
  pub zero_inside : KeepsSet (name (0xC3 ∷ 0 ∷ 0xA9 ∷ [])) (heads (0xF0030000 ∷ [])) 11 0

pub record ToldLimits : Type 0 where
  -- 12: above 127 in seven bits, 255 in eight, 16,383 in fourteen, 15 for the group
  pub seven : LeavesSet (blocks 127) (heads (0xF0010000 ∷ [])) (0xF0010000 ∷ 0x7F000000 ∷ 0 ∷ 0 ∷ [])
  pub above_seven : KeepsSet (blocks 128) (heads (0xF0010000 ∷ [])) 12 0
  pub eight : LeavesSet (Setting.number Number.discovery_version_major 255) (heads (0xF0000000 ∷ [])) (heads (0xF000FF00 ∷ []))
  pub above_eight : KeepsSet (Setting.number Number.discovery_version_minor 256) (heads (0xF0000000 ∷ [])) 12 0
  pub fourteen : LeavesSet (Setting.pair Pair.device_family 16383) (heads (0xF0020000 ∷ [])) (0xF0020000 ∷ 0 ∷ 0x7F7F0000 ∷ 0 ∷ [])
  pub above_fourteen : KeepsSet (Setting.pair Pair.device_family_model_number 16384) (heads (0xF0020000 ∷ [])) 12 0
  pub four : LeavesSet (group 15) (heads (0xF0110003 ∷ [])) (0xF0110003 ∷ 0x0F000000 ∷ 0 ∷ 0 ∷ [])
  pub above_four : KeepsSet (group 16) (heads (0xF0110003 ∷ [])) 12 0
  pub manufacturer : KeepsSet (Setting.device_manufacturer 1 2 128) (heads (0xF0020000 ∷ [])) 12 0
  pub version : KeepsSet (Setting.software_version 128 0 0 0) (heads (0xF0020000 ∷ [])) 12 0
  pub block-name : KeepsSet (block 256) (heads (0xF0120000 ∷ [])) 12 0

pub record ToldRoom : Type 0 where
  -- 3: text that needs more than 64 packets: above 896 bytes at offset 0, above 832 at offset 1
  pub offset_0 : KeepsSet (name (letters 897)) (heads (0xF0030000 ∷ [])) 3 0
  pub offset_1 : KeepsSet (block_name (letters 833)) (heads (0xF0120000 ∷ [])) 3 0
  -- 14: fewer whole packets than needed
  pub two_packets : KeepsSet (name (letters 15)) (heads (0xF0030000 ∷ []) ++ old 3) 14 0
  pub sixty_four_at_0 : KeepsSet (name (letters 896)) (heads (0xF0030000 ∷ [])) 14 0
  pub sixty_four_at_1 : KeepsSet (block_name (letters 832)) (heads (0xF0120000 ∷ [])) 14 0

pub record ToldSettings : Type 0 where
  -- what the walk refuses at position 0 comes first: each of these is a setting of a field that the kind lacks
  pub empty : KeepsSet (group 16) [] 1 0
  pub other_type : KeepsSet (group 16) (0x30000000 ∷ 0 ∷ []) 4 0
  pub other_type_cut : KeepsSet (group 16) (0x30000000 ∷ []) 1 0
  pub cut : KeepsSet (group 16) (heads (0xF4030000 ∷ [])) 1 0
  pub framing_type : KeepsSet (group 16) (heads (0xF4030000 ∷ 0x1C030000 ∷ [])) 4 1
  pub framing_status : KeepsSet (group 16) (heads (0xF4030000 ∷ 0xFC040000 ∷ [])) 6 1
  pub framing_format : KeepsSet (group 16) (heads (0xF8030000 ∷ [])) 7 0
  pub status : KeepsSet (group 16) (heads (0xF0780000 ∷ [])) 5 0
  pub fixed_kind : KeepsSet (group 16) (heads (0xF4010000 ∷ 0xFC010000 ∷ [])) 7 1
  pub numbers : KeepsSet (group 16) (heads (0xF4120500 ∷ 0xFC120600 ∷ [])) 8 1
  pub text : KeepsSet (group 16) (heads (0xF003FF00 ∷ [])) 11 0
  -- and a bad choice is not mended by setting it
  pub port : KeepsSet (Setting.midi1_port P.None) (heads (0xF011000F ∷ [])) 9 0
  pub direction : KeepsSet (Setting.direction D.Input) (heads (0xF0110000 ∷ [])) 10 0
  -- a second message does not matter
  pub second : LeavesSet (blocks 1) (heads (0xF0010000 ∷ 0xF8780000 ∷ [])) (0xF0010000 ∷ 0x01000000 ∷ 0 ∷ 0 ∷ heads (0xF8780000 ∷ []))
  -- 13: a field of another kind, also where the name is the same; text of another kind
  pub elsewhere : KeepsSet (blocks 1) (heads (0xF0110003 ∷ [])) 13 0
  pub same_name : KeepsSet (Setting.number Number.info_version_major 1) (heads (0xF0000000 ∷ [])) 13 0
  pub other_text : KeepsSet (name (0x41 ∷ [])) (heads (0xF0040000 ∷ [])) 13 0
  pub text_of_fixed : KeepsSet (name []) (heads (0xF0010000 ∷ [])) 13 0
  -- each breaks both rules: 13 before 12, 11, 3 and 14; 11 before 3 and 14; 3 before 14
  pub thirteen_twelve : KeepsSet (blocks 128) (heads (0xF0110003 ∷ [])) 13 0
  pub thirteen_eleven : KeepsSet (name (0xFF ∷ [])) (heads (0xF0040000 ∷ [])) 13 0
  pub thirteen_three : KeepsSet (name (letters 897)) (heads (0xF0040000 ∷ [])) 13 0
  pub thirteen_fourteen : KeepsSet (block_name (letters 15)) (heads (0xF0040000 ∷ [])) 13 0
  pub eleven_three : KeepsSet (name (0xFF ∷ letters 896)) (heads (0xF0030000 ∷ [])) 11 0
  pub eleven_fourteen : KeepsSet (name (letters 14 ++ 0xC3 ∷ [])) (heads (0xF0030000 ∷ [])) 11 0
  pub three_fourteen : KeepsSet (name (letters 897)) (heads (0xF0030000 ∷ [])) 3 0

-- settings on an endpoint info: accepted, 12, 13, accepted
abbrev some : List Setting
some = blocks 4 ∷ blocks 200 ∷ group 1 ∷ Setting.flag Flag.supports_midi2_protocol true ∷ []

abbrev said : SettingAnswer → Said
said a = said_answer a.answer

pub record ToldLists : Type 0 where
  -- each setting is made on what the one before it left; a refused one changes nothing
  pub all : set_all some (heads (0xF0010000 ∷ [])) ≡ 0xF0010000 ∷ 0x04000200 ∷ 0 ∷ 0 ∷ []
  -- every field of a fixed kind
  pub discovery-set : set_all discovery_settings (0xF0000000 ∷ 0x0000000A ∷ 0 ∷ 0 ∷ []) ≡ 0xF0000102 ∷ 0x00000015 ∷ 0 ∷ 0 ∷ []
  pub info-set : set_all info_settings (0xF0010000 ∷ 0x00000101 ∷ 0 ∷ 0 ∷ []) ≡ 0xF0010304 ∷ 0x85000202 ∷ 0 ∷ 0 ∷ []
  pub identity-set : set_all identity_settings (heads (0xF0020000 ∷ [])) ≡ 0xF0020000 ∷ 0x00010203 ∷ 0x04050607 ∷ 0x08090A0B ∷ []
  pub block-set : set_all block_settings (heads (0xF0110003 ∷ [])) ≡ 0xF0118539 ∷ 0x0F060708 ∷ 0 ∷ 0 ∷ []
  -- the answers in order
  pub answers : map said (answer_all some (heads (0xF0010000 ∷ []))) ≡ accepted [] ∷ refusal 12 0 ∷ refusal 13 0 ∷ accepted [] ∷ []
  -- the last accepted value of a field, whatever was refused after it; the one given where none is
  pub last : last_accepted K.EndpointInfo 1 (Field.number Number.number_of_function_blocks) (9 ∷ []) some ≡ 4 ∷ []
  pub last_of_two : last_accepted K.EndpointInfo 1 (Field.number Number.number_of_function_blocks) (9 ∷ []) (some ++ blocks 6 ∷ blocks 128 ∷ []) ≡ 6 ∷ []
  pub none-accepted : last_accepted K.EndpointInfo 1 (Field.number Number.info_version_major) (9 ∷ []) some ≡ 9 ∷ []
  pub last_text : last_accepted K.EndpointName 1 (Field.text Text.endpoint_name) [] (name (letters 2) ∷ name (letters 15) ∷ name (0xFF ∷ []) ∷ []) ≡ letters 2
  -- the settings of one field, in order
  pub of_one_field : only_field field_in (Field.number Number.number_of_function_blocks) some ≡ blocks 4 ∷ blocks 200 ∷ []

-- an endpoint info with this number of blocks, a block name with this number
abbrev info_with : ℕ → Message
info_with n = info_of 3 4 true true false true false n

abbrev block_name_of : ℕ → Message
block_name_of n = M.FunctionBlockName n (packet 1)

pub record ToldWriting : Type 0 where
  -- writing a record of a fixed kind: the fresh message with its fields
  pub discovery-written : LeavesWritten discovery (old 4) (0xF0000102 ∷ 0x00000015 ∷ 0 ∷ 0 ∷ [])
  pub info-written : LeavesWritten info (old 11) (0xF0010304 ∷ 0x85000202 ∷ 0 ∷ 0 ∷ 0 ∷ 0 ∷ 0 ∷ 0 ∷ old 3)
  pub identity-written : LeavesWritten identity (old 4) (0xF0020000 ∷ 0x00010203 ∷ 0x04050607 ∷ 0x08090A0B ∷ [])
  pub block_written : LeavesWritten block_info (old 4) (0xF0118539 ∷ 0x0F060708 ∷ 0 ∷ 0 ∷ [])
  -- 13 for a text kind, 12, 14
  pub endpoint_name : KeepsWritten (M.EndpointName (packet 1)) (old 4) 13
  pub product_instance_id : KeepsWritten (M.ProductInstanceId (packet 1)) (old 4) 13
  pub block-name : KeepsWritten (block_name_of 5) (old 4) 13
  pub too_large : KeepsWritten (info_with 128) (old 4) 12
  pub no_room : KeepsWritten (info_with 127) (old 3) 14
  -- each breaks both rules: 13 before 12 and 14, 12 before 14
  pub thirteen_twelve : KeepsWritten (block_name_of 256) (old 4) 13
  pub thirteen_fourteen : KeepsWritten (M.EndpointName (packet 1)) (old 3) 13
  pub twelve_fourteen : KeepsWritten (info_with 128) (old 3) 12

-- the examples of calls that change words
pub record ToldWords : Type 0 where
  pub fresh : ToldFresh
  pub fields : ToldFields
  pub texts : ToldTexts
  pub limits : ToldLimits
  pub room : ToldRoom
  pub settings : ToldSettings
  pub lists : ToldLists
  pub writing : ToldWriting
