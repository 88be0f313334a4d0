-- `Packet` AND THE TEXT PLACE, TOLD ONCE MORE, by examples in literal words and numbers. Words not shown are zero.
use Rattle.std.specs.Prelude.{ℕ, ◌≡◌, List, [], ◌∷◌, ◌++◌}
use Rattle.counts.specs.Counts.{packet, byte}
use Rattle.text.specs.declared.TextPlace.{TextPlace}
use Rattle.kinds.specs.declared.choices.Format.TheVariants as F
use Rattle.records.specs.Answers.{Said, accepted, said_packet, said_size}
use Rattle.records.specs.Told.{refusal}
use Rattle.standard.specs.Said.{said_step}
use Rattle.standard.specs.Packet.{packet_of, packet_format, message_size}
use Rattle.standard.specs.Place.{next_byte}
use Rattle.standard.specs.ToldReading.{heads}

abbrev Packs : List ℕ → Said → Type 0
Packs ws said = said_packet (packet_of ws) ≡ said

abbrev Sized : List ℕ → Said → Type 0
Sized ws said = said_size (message_size ws) ≡ said

pub record ToldPacket : Type 0 where
  -- an empty slice is 1, a type other than F is 4
  pub empty : Packs [] (refusal 1 0)
  pub other_type : Packs (0xE0030000 ∷ 0xF0030000 ∷ []) (refusal 4 0)
  -- else the first four words, missing ones zero; status and format are not looked at
  pub one_word : Packs (0xFBFF4142 ∷ []) (accepted (0xFBFF4142 ∷ 0 ∷ 0 ∷ 0 ∷ []))
  pub three_words : Packs (0xF0030001 ∷ 2 ∷ 3 ∷ []) (accepted (0xF0030001 ∷ 2 ∷ 3 ∷ 0 ∷ []))
  pub five_words : Packs (0xF0030001 ∷ 2 ∷ 3 ∷ 4 ∷ 5 ∷ []) (accepted (0xF0030001 ∷ 2 ∷ 3 ∷ 4 ∷ []))
  -- its format, bits 27 and 26 of its first word
  pub complete : packet_format (record { 0 = 0xF3FFFFFF; 1 = 0; 2 = 0; 3 = 0 }) ≡ F.Complete
  pub start : packet_format (record { 0 = 0xF4000000; 1 = 0; 2 = 0; 3 = 0 }) ≡ F.Start
  pub continue : packet_format (record { 0 = 0xFBFFFFFF; 1 = 0; 2 = 0; 3 = 0 }) ≡ F.Continue
  pub end : packet_format (record { 0 = 0xFC000000; 1 = 0; 2 = 0; 3 = 0 }) ≡ F.End
  -- the size of the message at the start: the words up to the first whole packet that is Complete or End
  pub one_packet : Sized (heads (0xF0030000 ∷ 0xF0030000 ∷ [])) (accepted (4 ∷ []))
  pub three_packets : Sized (heads (0xF4030000 ∷ 0xF8030000 ∷ 0xFC030000 ∷ 0xFC030000 ∷ [])) (accepted (12 ∷ []))
  pub complete_ends : Sized (heads (0xF4030000 ∷ 0xF0030000 ∷ [])) (accepted (8 ∷ []))
  pub unfinished : Sized (heads (0xF4030000 ∷ 0xF8030000 ∷ []) ++ 0xFC030000 ∷ 0 ∷ 0 ∷ []) (refusal 1 0)
  pub none : Sized (0xF0030000 ∷ 0 ∷ 0 ∷ []) (refusal 1 0)

-- a text place by its packet and its byte
abbrev at : ℕ → ℕ → TextPlace
at p b = record { packet = packet p; byte = byte b }

-- from a place the next byte says this, and leaves that place
abbrev Steps : List ℕ → TextPlace → Said → TextPlace → Type 0
Steps ws from said to = (said_step (next_byte ws from).step ≡ said) × ((next_byte ws from).place ≡ to)

pub record ToldPlace : Type 0 where
  -- offset 1 where the ten status bits of the first word are 0x12, whatever its type and format
  pub block-name : Steps (heads (0xF0124142 ∷ [])) (at 0 0) (accepted (0x42 ∷ [])) (at 0 1)
  pub any_type : Steps (heads (0x00124142 ∷ [])) (at 0 0) (accepted (0x42 ∷ [])) (at 0 1)
  pub any_format : Steps (heads (0xFC124142 ∷ [])) (at 0 0) (accepted (0x42 ∷ [])) (at 0 1)
  -- else offset 0, also where no kind has that status
  pub endpoint_name : Steps (heads (0xF0034142 ∷ [])) (at 0 0) (accepted (0x41 ∷ [])) (at 0 1)
  pub ten_bits : Steps (heads (0xF1124142 ∷ [])) (at 0 0) (accepted (0x41 ∷ [])) (at 0 1)
  pub no_kind : Steps (heads (0xF0784142 ∷ [])) (at 0 0) (accepted (0x41 ∷ [])) (at 0 1)
  -- by the first word alone
  pub first-word : Steps (heads (0xF0030000 ∷ 0xF0124142 ∷ [])) (at 1 0) (accepted (0x41 ∷ [])) (at 1 1)
  -- it moves past zeros, and from a packet's last byte to the next packet
  pub past_zeros : Steps (0xF0030000 ∷ 0x00430000 ∷ 0 ∷ 0 ∷ []) (at 0 0) (accepted (0x43 ∷ [])) (at 0 4)
  pub last_byte : Steps (0xF0030000 ∷ 0 ∷ 0 ∷ 0x00000044 ∷ 0xF0034500 ∷ 0 ∷ 0 ∷ 0 ∷ []) (at 0 13) (accepted (0x44 ∷ [])) (at 1 0)
  pub over_packets : Steps (heads (0xF4120541 ∷ 0xF8120500 ∷ 0xFC120542 ∷ [])) (at 0 1) (accepted (0x42 ∷ [])) (at 2 1)
  -- after the last byte the end, at packet count, byte 0
  pub ends : Steps (heads (0xF0034100 ∷ 0xF0030000 ∷ [])) (at 0 1) (accepted []) (at 2 0)
  -- whole packets only
  pub whole_packets : Steps (heads (0xF0030000 ∷ []) ++ 0xF0034142 ∷ 0x43434343 ∷ 0 ∷ []) (at 0 0) (accepted []) (at 1 0)
  pub empty : Steps [] (at 0 0) (accepted []) (at 0 0)
  pub three_words : Steps (0xF0034142 ∷ 0 ∷ 0 ∷ []) (at 0 3) (accepted []) (at 0 3)
  -- at or past the packet count or the capacity is the end, and does not move
  pub at_count : Steps (heads (0xF0034142 ∷ [])) (at 1 3) (accepted []) (at 1 3)
  pub past_count : Steps (heads (0xF0034142 ∷ [])) (at 7 0) (accepted []) (at 7 0)
  pub at_fourteen : Steps (heads (0xF0034142 ∷ 0xF0034344 ∷ [])) (at 0 14) (accepted []) (at 0 14)
  pub at_thirteen : Steps (heads (0xF0120541 ∷ 0xF0120542 ∷ [])) (at 0 13) (accepted []) (at 0 13)
