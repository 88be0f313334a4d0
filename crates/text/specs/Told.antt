-- Document 01's section "Text" told once more, by examples in plain numbers: packets needed, formats, which octets are text, and the text place.
use Rattle.std.specs.Prelude.{ℕ, ◌+◌, ◌*◌, ◌≡◌, List, [], ◌∷◌, ◌++◌, replicate, Some, None}
use Rattle.laws.specs.Lists.{map}
use Rattle.counts.specs.Counts.{packet, byte}
use Rattle.text.specs.Octets.{octet_of, needed, due_format}
use Rattle.text.specs.Written.{written, blank, each_first}
use Rattle.text.specs.Bytes.{text_of}
use Rattle.text.specs.Place.{byte_at, stepped, step_at}
use Rattle.text.specs.Handed.{start_place, end_place, next_place}
use Rattle.text.specs.BigEndian.{big_endian_at}
use Rattle.text.specs.declared.TextPlace.{TextPlace}

-- packet number and byte number as a text place
abbrev at : ℕ → ℕ → TextPlace
at p b = record { packet = packet p; byte = byte b }

-- from a place a step gives a byte and leaves the second place; a step gives the end
abbrev Finds : List ℕ → ℕ → TextPlace → ℕ → TextPlace → Type 0
Finds ws cap from x to = step_at ws cap from ≡ stepped (Some x) to

abbrev Ends : List ℕ → ℕ → TextPlace → TextPlace → Type 0
Ends ws cap from to = step_at ws cap from ≡ stepped None to

-- a packet whose text octets are their own numbers
abbrev numbered : List ℕ
numbered = 0xF0030203 ∷ 0x04050607 ∷ 0x08090A0B ∷ 0x0C0D0E0F ∷ []

-- `A` and `B` among zeros; the same before three words that are no whole packet
abbrev holed : List ℕ
holed = 0xF0030041 ∷ 0x00000000 ∷ 0x00420000 ∷ 0x00000000 ∷ []

abbrev holed_and_cut : List ℕ
holed_and_cut = holed ++ 0xFC036161 ∷ 0x61616161 ∷ 0x61616161 ∷ []

-- two packets, the first full; two packets with a byte in the second alone
abbrev two : List ℕ
two = 0xF4030203 ∷ 0x04050607 ∷ 0x08090A0B ∷ 0x0C0D0E0F ∷ 0xFC031011 ∷ 0x00000000 ∷ 0x00120000 ∷ 0x00000013 ∷ []

abbrev second : List ℕ
second = 0xF4030000 ∷ 0 ∷ 0 ∷ 0 ∷ 0xFC030041 ∷ 0 ∷ 0 ∷ 0 ∷ []

-- the numbers 1 to 13 before others, and n words with every bit set
abbrev thirteen : List ℕ → List ℕ
thirteen rest = 1 ∷ 2 ∷ 3 ∷ 4 ∷ 5 ∷ 6 ∷ 7 ∷ 8 ∷ 9 ∷ 10 ∷ 11 ∷ 12 ∷ 13 ∷ rest

abbrev ones : ℕ → List ℕ
ones n = replicate n 0xFFFFFFFF

-- the heads of an endpoint name, and of a name of block 5, by their format
abbrev name_head : ℕ → ℕ
name_head f = 0xF0030000 + f * 0x4000000

abbrev block_head : ℕ → ℕ
block_head f = 0xF0120500 + f * 0x4000000

pub record ToldTextPackets : Type 0 where
  -- octet 0 of a word is its highest byte
  pub octets : map (octet_of 0x12345678) (0 ∷ 1 ∷ 2 ∷ 3 ∷ []) ≡ 0x12 ∷ 0x34 ∷ 0x56 ∷ 0x78 ∷ []
  -- packets needed: 1 for empty text, else bytes divided by capacity, rounded up
  pub needed_14 : map (needed 14) (0 ∷ 1 ∷ 14 ∷ 15 ∷ 28 ∷ 29 ∷ 896 ∷ 897 ∷ []) ≡ 1 ∷ 1 ∷ 1 ∷ 2 ∷ 2 ∷ 3 ∷ 64 ∷ 65 ∷ []
  pub needed_13 : map (needed 13) (0 ∷ 1 ∷ 13 ∷ 14 ∷ 26 ∷ 27 ∷ 832 ∷ 833 ∷ []) ≡ 1 ∷ 1 ∷ 1 ∷ 2 ∷ 2 ∷ 3 ∷ 64 ∷ 65 ∷ []
  -- a lone packet is Complete (0); else Start (1), any Continues (2), End (3)
  pub lone : due_format 1 0 ≡ 0
  pub pair : map (due_format 2) (0 ∷ 1 ∷ []) ≡ 1 ∷ 3 ∷ []
  pub three : map (due_format 3) (0 ∷ 1 ∷ 2 ∷ []) ≡ 1 ∷ 2 ∷ 3 ∷ []
  pub five : map (due_format 5) (0 ∷ 1 ∷ 2 ∷ 3 ∷ 4 ∷ []) ≡ 1 ∷ 2 ∷ 2 ∷ 2 ∷ 3 ∷ []
  -- text starts at octet 2 of word 0, 14 bytes a packet, or at octet 3, 13 bytes
  pub from_octet_2 : text_of numbered 14 1 ≡ 2 ∷ 3 ∷ 4 ∷ 5 ∷ 6 ∷ 7 ∷ 8 ∷ 9 ∷ 10 ∷ 11 ∷ 12 ∷ 13 ∷ 14 ∷ 15 ∷ []
  pub from_octet_3 : text_of numbered 13 1 ≡ 3 ∷ 4 ∷ 5 ∷ 6 ∷ 7 ∷ 8 ∷ 9 ∷ 10 ∷ 11 ∷ 12 ∷ 13 ∷ 14 ∷ 15 ∷ []
  -- reading drops every zero byte, in any place, and keeps the others in order
  pub zeros_dropped : text_of holed 14 1 ≡ 0x41 ∷ 0x42 ∷ []
  pub in_order : text_of two 14 2 ≡ 2 ∷ 3 ∷ 4 ∷ 5 ∷ 6 ∷ 7 ∷ 8 ∷ 9 ∷ 10 ∷ 11 ∷ 12 ∷ 13 ∷ 14 ∷ 15 ∷ 16 ∷ 17 ∷ 18 ∷ 19 ∷ []
  pub in_order_13 : text_of two 13 2 ≡ 3 ∷ 4 ∷ 5 ∷ 6 ∷ 7 ∷ 8 ∷ 9 ∷ 10 ∷ 11 ∷ 12 ∷ 13 ∷ 14 ∷ 15 ∷ 17 ∷ 18 ∷ 19 ∷ []
  pub no_text : text_of second 14 1 ≡ []
  -- text written: type, status and format into each needed packet, the rest of the last packet zero, and zeros in whole packets after it; no other word changes
  pub written_14 : written (ones 14) (thirteen (14 ∷ 15 ∷ [])) name_head 14 2 ≡ 0xF4030102 ∷ 0x03040506 ∷ 0x0708090A ∷ 0x0B0C0D0E ∷ 0xFC030F00 ∷ 0 ∷ 0 ∷ 0 ∷ 0 ∷ 0 ∷ 0 ∷ 0 ∷ 0xFFFFFFFF ∷ 0xFFFFFFFF ∷ []
  -- for a block name its number too
  pub written_13 : written (ones 8) (thirteen (14 ∷ [])) block_head 13 2 ≡ 0xF4120501 ∷ 0x02030405 ∷ 0x06070809 ∷ 0x0A0B0C0D ∷ 0xFC12050E ∷ 0 ∷ 0 ∷ 0 ∷ []
  pub written-full : written (ones 4) (thirteen (14 ∷ [])) name_head 14 1 ≡ 0xF0030102 ∷ 0x03040506 ∷ 0x0708090A ∷ 0x0B0C0D0E ∷ []
  pub written_empty : written (ones 5) [] name_head 14 1 ≡ 0xF0030000 ∷ 0 ∷ 0 ∷ 0 ∷ 0xFFFFFFFF ∷ []
  -- a fresh message zeroes every whole packet of the buffer and writes its head
  pub fresh : blank 0xF0110003 (ones 9) ≡ 0xF0110003 ∷ 0 ∷ 0 ∷ 0 ∷ 0 ∷ 0 ∷ 0 ∷ 0 ∷ 0xFFFFFFFF ∷ []
  -- a block number is written into each packet of the message and none after
  pub each-packet : each_first 2 (λ w. w + 0x500) (1 ∷ 2 ∷ 3 ∷ 4 ∷ 5 ∷ 6 ∷ 7 ∷ 8 ∷ 9 ∷ 10 ∷ 11 ∷ 12 ∷ []) ≡ 0x501 ∷ 2 ∷ 3 ∷ 4 ∷ 0x505 ∷ 6 ∷ 7 ∷ 8 ∷ 9 ∷ 10 ∷ 11 ∷ 12 ∷ []
  -- the text place starts at packet 0, byte 0, and moves past zeros
  pub starts : start_place ≡ at 0 0
  pub past_zero : Finds holed 14 (at 0 0) 0x41 (at 0 2)
  pub past_zeros : Finds holed 14 (at 0 2) 0x42 (at 0 8)
  pub from_a_byte : Finds holed 14 (at 0 7) 0x42 (at 0 8)
  pub into_the_next : Finds second 14 (at 0 0) 0x41 (at 1 2)
  -- after a packet's last byte comes byte 0 of the next
  pub last_byte : Finds two 14 (at 0 13) 0x0F (at 1 0)
  pub next_packet : Finds two 14 (at 1 0) 0x10 (at 1 1)
  pub very_last : Finds two 14 (at 1 10) 0x13 (at 2 0)
  pub next_place_told : (next_place 14 (at 0 12) ≡ at 0 13) × (next_place 14 (at 0 13) ≡ at 1 0)
  -- 13 bytes a packet
  pub first_13 : Finds holed 13 (at 0 0) 0x41 (at 0 1)
  pub past_zeros_13 : Finds holed 13 (at 0 1) 0x42 (at 0 7)
  pub last_byte_13 : Finds two 13 (at 0 12) 0x0F (at 1 0)
  -- after the last byte that isn't zero, the next call says end and leaves the place at packet count, byte 0
  pub end : Ends holed 14 (at 0 8) (at 1 0)
  pub end_13 : Ends holed 13 (at 0 7) (at 1 0)
  pub end_of_two : Ends two 14 (at 1 14) (at 1 14) × Ends two 14 (at 2 0) (at 2 0)
  pub no_byte : Ends (0xF0030000 ∷ 0 ∷ 0 ∷ 0 ∷ []) 14 (at 0 0) (at 1 0)
  pub end_place_told : end_place holed_and_cut ≡ at 1 0
  -- it looks at whole packets only
  pub whole_only : Ends holed_and_cut 14 (at 0 8) (at 1 0)
  pub cut_stays : Ends holed_and_cut 14 (at 1 0) (at 1 0)
  pub no_packet : Ends (0xF0036161 ∷ 0x61616161 ∷ 0x61616161 ∷ []) 14 (at 0 0) (at 0 0)
  pub no_word : Ends [] 14 (at 0 0) (at 0 0)
  -- a place with its packet number at or past the count, or its byte number at or past the capacity, is the end too and doesn't move
  pub at_the_count : Ends numbered 14 (at 1 0) (at 1 0)
  pub past_the_count : Ends numbered 14 (at 2 3) (at 2 3)
  pub at_the_capacity : Ends numbered 14 (at 0 14) (at 0 14)
  pub past_the_capacity : Ends numbered 14 (at 0 20) (at 0 20)
  pub at_the_capacity_13 : Ends two 13 (at 0 13) (at 0 13)
  -- the byte at a place, 0 where no whole packet has it
  pub byte_there : (byte_at holed 14 (at 0 1) ≡ 0x41) × (byte_at holed 14 (at 0 7) ≡ 0x42) × (byte_at holed 14 (at 0 0) ≡ 0)
  pub no_byte_there : (byte_at two 14 (at 0 14) ≡ 0) × (byte_at holed_and_cut 14 (at 1 0) ≡ 0)
  -- four bytes from one on as a word, the first the highest; 0 if they are not all there
  pub big_endian : map (big_endian_at (0x12 ∷ 0x34 ∷ 0x56 ∷ 0x78 ∷ 0x9A ∷ [])) (0 ∷ 1 ∷ 2 ∷ []) ≡ 0x12345678 ∷ 0x3456789A ∷ 0 ∷ []
