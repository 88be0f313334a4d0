-- Numbers and bytes as the listing prints them, by examples.
use Rattle.std.specs.Prelude.{◌≡◌, [], ◌∷◌}
use Rattle.ascii_lines.specs.Ascii.{ascii}
use Rattle.ascii_lines.specs.Numbers.{decimal, hex_byte, hex_word, numbers, hex_or_dash}

pub record ToldLines : Type 0 where
  -- numbers in decimal, with no zeros before them
  pub nought : decimal 0 ≡ ascii "0"
  pub nine : decimal 9 ≡ ascii "9"
  pub ten : decimal 10 ≡ ascii "10"
  pub hundreds : decimal 907 ≡ ascii "907"
  pub largest_pair : decimal 16383 ≡ ascii "16383"
  -- a byte is two digits of lower-case hex, the high one first
  pub low : hex_byte 0x0A ≡ ascii "0a"
  pub high : hex_byte 0x90 ≡ ascii "90"
  pub letters : hex_byte 0xBC ≡ ascii "bc"
  pub last_letters : hex_byte 0xDF ≡ ascii "df"
  -- a word is eight digits, its highest byte first
  pub word : hex_word 0xF1A0030C ≡ ascii "f1a0030c"
  -- single spaces before numbers
  pub spaced : numbers (1 ∷ 20 ∷ 0 ∷ []) ≡ ascii " 1 20 0"
  -- text in hex with nothing between the bytes, `-` if it is empty
  pub text : hex_or_dash (0x41 ∷ 0xE6 ∷ 0x0D ∷ []) ≡ ascii "41e60d"
  pub empty : hex_or_dash [] ≡ ascii "-"
