-- Four bytes of a text as a big-endian word.
use Rattle.std.specs.Prelude.{ℕ, ◌+◌, List, length, get_or, ltb}
use Rattle.laws.specs.Pick.{pick}
use Rattle.laws.specs.Bits.{word_of}

-- the word of the four bytes from byte i on; 0 if they are not all there
unfoldable pub big_endian_at : List ℕ → ℕ → ℕ
big_endian_at bytes i =
    pick (ltb (length bytes) (i + 4)) 0 (word_of (get_or bytes i 0) (get_or bytes (i + 1) 0) (get_or bytes (i + 2) 0) (get_or bytes (i + 3) 0))
