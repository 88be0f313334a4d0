-- Strings, sentences and names told once more, by examples in bytes.
use Prim.Native.String.{String}
use Rattle.std.specs.Prelude.{◌≡◌, [], ◌∷◌, ◌++◌}
use Rattle.laws.specs.Lists.{map}
use Rattle.counts.specs.declared.PacketNumber.{PacketNumber}
use Rattle.kinds.specs.declared.refusal.Refusal.{Refusal}
use Rattle.kinds.specs.declared.refusal.Refusal.TheVariants.{TooFewWords, NotWholePackets, TooManyPackets, WrongType, UnknownStatus, StatusDiffers, WrongFormat, BlockNumberDiffers, BadPort, BadDirection, NotUtf8, NumberTooLarge, NoSuchField, NoRoom}
use Rattle.kinds.specs.Refusals.{refusal_number}
use Rattle.ascii_lines.specs.Ascii.{ascii}
use Rattle.sentences.specs.Strings.{as_string}
use Rattle.sentences.specs.Sentences.{refusal_sentence, status_name}

-- a refusal's number has this sentence
abbrev Says : Refusal → String → Type 0
Says refusal sentence = refusal_sentence (refusal_number refusal) ≡ ascii sentence

pub record ToldSentences : Type 0 where
  -- a string with room to spare, with just enough room, and with one byte less
  pub spare : as_string (ascii "done") (1 ∷ 2 ∷ 3 ∷ 4 ∷ 5 ∷ 6 ∷ 7 ∷ []) ≡ ascii "done" ++ 0 ∷ 6 ∷ 7 ∷ []
  pub enough : as_string (ascii "done") (1 ∷ 2 ∷ 3 ∷ 4 ∷ 5 ∷ []) ≡ ascii "done" ++ 0 ∷ []
  pub one_less : as_string (ascii "done") (1 ∷ 2 ∷ 3 ∷ 4 ∷ []) ≡ ascii "don" ++ 0 ∷ []
  -- cut to five bytes, to one, to none
  pub five : as_string (refusal_sentence 10) (1 ∷ 2 ∷ 3 ∷ 4 ∷ 5 ∷ []) ≡ ascii "the " ++ 0 ∷ []
  pub one : as_string (refusal_sentence 10) (1 ∷ []) ≡ 0 ∷ []
  pub no_room : as_string (refusal_sentence 10) [] ≡ []
  -- no text is a zero alone
  pub no_text : as_string (refusal_sentence 15) (1 ∷ 2 ∷ []) ≡ 0 ∷ 2 ∷ []
  -- the sentence of each refusal
  pub done : refusal_sentence 0 ≡ ascii "done"
  pub too_few_words : Says TooFewWords "there are too few words"
  pub not_whole_packets : Says NotWholePackets "the length is not a multiple of four words"
  pub too_many_packets : Says TooManyPackets "there are more than 64 packets"
  pub wrong_type : (p : PacketNumber) → Says (WrongType p) "a packet's type is not F"
  pub unknown_status : Says UnknownStatus "the status is none of the seven"
  pub status_differs : (p : PacketNumber) → Says (StatusDiffers p) "a later packet has another status"
  pub wrong_format : (p : PacketNumber) → Says (WrongFormat p) "a packet's format is not the one due"
  pub block_number_differs : (p : PacketNumber) → Says (BlockNumberDiffers p) "a later packet has another block number"
  pub bad_port : Says BadPort "the MIDI 1.0 port is 3"
  pub bad_direction : Says BadDirection "the direction is 0"
  pub not_utf8 : Says NotUtf8 "the text is not UTF-8"
  pub number_too_large : Says NumberTooLarge "a number is above its field's largest, or a code names no choice"
  pub no_such_field : Says NoSuchField "this kind has no such field"
  pub too_little_room : Says NoRoom "there is too little room"
  -- a number that no refusal has
  pub no_refusal : map refusal_sentence (15 ∷ 16 ∷ 30 ∷ 256 ∷ 0xFFFFFFFF ∷ []) ≡ [] ∷ [] ∷ [] ∷ [] ∷ [] ∷ []
  -- the name of each status's kind
  pub endpoint_names : map status_name (0x00 ∷ 0x01 ∷ 0x03 ∷ []) ≡ ascii "endpoint-discovery" ∷ ascii "endpoint-info" ∷ ascii "endpoint-name" ∷ []
  pub device_names : map status_name (0x02 ∷ 0x04 ∷ []) ≡ ascii "device-identity" ∷ ascii "product-instance-id" ∷ []
  pub block_names : map status_name (0x11 ∷ 0x12 ∷ []) ≡ ascii "function-block-info" ∷ ascii "function-block-name" ∷ []
  -- a status that no kind has
  pub no_kind : map status_name (0x05 ∷ 0x10 ∷ 0x13 ∷ 0x112 ∷ []) ≡ [] ∷ [] ∷ [] ∷ [] ∷ []
