-- THE LISTING, TOLD ONCE MORE: each sentence of document 01 by an example in literal bytes, words and lines.
use Rattle.std.specs.Prelude.{ℕ, ◌/◌, ◌%◌, ◌<◌, ◌≡◌, List, [], ◌∷◌, ◌++◌, length}
use Rattle.laws.specs.Lists.{each}
use Rattle.standard.specs.Reading.{read_of}
use Rattle.ascii_lines.specs.Ascii.{ascii}
use Rattle.listing.specs.Lines.{read_shown}
use Rattle.listing.specs.Listing.{words_of, lines_of, listing_of}

-- a word's four bytes, the highest first
abbrev pub octets : ℕ → List ℕ
octets w = w / 0x1000000 ∷ w / 0x10000 % 256 ∷ w / 0x100 % 256 ∷ w % 256 ∷ []

-- every kind with all its values different, another type, a refusal with a place
abbrev stream : List ℕ
stream =
    0xF0000102 ∷ 0x00000015 ∷ 0 ∷ 0
    ∷ 0xF0010304 ∷ 0x85000202 ∷ 0 ∷ 0
    ∷ 0xF0020000 ∷ 0x00010203 ∷ 0x04050607 ∷ 0x08090A0B
    ∷ 0xF403C3A9 ∷ 0 ∷ 0 ∷ 0 ∷ 0xFC037A7F ∷ 0 ∷ 0 ∷ 0
    ∷ 0xF0040000 ∷ 0 ∷ 0 ∷ 0
    ∷ 0xF0118539 ∷ 0x0F060708 ∷ 0 ∷ 0
    ∷ 0xF012FF0A ∷ 0x0B000000 ∷ 0 ∷ 0
    ∷ 0xD0000000 ∷ 0 ∷ 0 ∷ 0
    ∷ 0xF4120500 ∷ 0 ∷ 0 ∷ 0 ∷ 0xFC120600 ∷ 0 ∷ 0 ∷ 0
    ∷ []

abbrev lines : List ℕ
lines =
    ascii "0 endpoint-discovery 1 1 2 1 0 1 0 1\n"
    ++ ascii "4 endpoint-info 1 3 4 1 1 0 1 0 5\n"
    ++ ascii "8 device-identity 1 1 2 3 644 902 8 9 10 11\n"
    ++ ascii "12 endpoint-name 2 c3a97a7f\n"
    ++ ascii "20 product-instance-id 1 -\n"
    ++ ascii "24 function-block-info 1 1 5 3 2 1 15 6 7 8\n"
    ++ ascii "28 function-block-name 1 255 0a0b\n"
    ++ ascii "32 other 13 4\n"
    ++ ascii "36 refused 8 1\n"

pub record ToldListing : Type 0 where
  -- a line for each answer of the walk, from its position on
  pub every_kind : lines_of stream ≡ lines
  -- big-endian words; bytes left over make none
  pub words : words_of (1 ∷ 2 ∷ 3 ∷ 4 ∷ 5 ∷ 6 ∷ 7 ∷ 8 ∷ 9 ∷ []) ≡ 0x01020304 ∷ 0x05060708 ∷ []
  -- last: `end`, whole words, leftover bytes, and a newline
  pub nothing : listing_of [] ≡ 0x65 ∷ 0x6E ∷ 0x64 ∷ 0x20 ∷ 0x30 ∷ 0x20 ∷ 0x30 ∷ 0x0A ∷ []
  pub left_over : listing_of (0x10 ∷ 0 ∷ 0 ∷ 0 ∷ 0xF0 ∷ 3 ∷ 0 ∷ []) ≡ ascii "0 other 1 1\nend 1 3\n"
  pub cut : listing_of (each octets (0xF0030000 ∷ 0 ∷ 0 ∷ [])) ≡ ascii "0 refused 1 0\nend 3 0\n"
  -- at most 32,768 bytes; above that only `input too long`
  pub longest : (bytes : List ℕ) → length bytes ≡ 32768 → listing_of bytes ≡ lines_of (words_of bytes) ++ ascii "end 8192 0\n"
  pub too_long : (bytes : List ℕ) → 32768 < length bytes → listing_of bytes ≡ ascii "input too long\n"
  -- one message without its position
  pub one_message : read_shown (read_of (0xF0034100 ∷ 0 ∷ 0 ∷ 0 ∷ [])) (0xF0034100 ∷ 0 ∷ 0 ∷ 0 ∷ []) ≡ ascii " endpoint-name 1 41"
  pub one_refusal : read_shown (read_of (0xF011000D ∷ 0 ∷ 0 ∷ 0 ∷ [])) (0xF011000D ∷ 0 ∷ 0 ∷ 0 ∷ []) ≡ ascii " refused 9 0"
