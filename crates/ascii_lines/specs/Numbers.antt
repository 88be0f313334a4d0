-- Numbers as text.
use Rattle.std.specs.Prelude.{ℕ, zero, suc, ◌+◌, ◌/◌, ◌%◌, List, [], ◌∷◌, ◌++◌, ltb}
use Rattle.std.specs.Int.{w32, to_be_bytes}
use Rattle.laws.specs.Pick.{pick}
use Rattle.laws.specs.Lists.{each}
use Rattle.ascii_lines.specs.Ascii.{ascii}

-- a digit below 16: `0` to `9`, then `a` to `f`
abbrev pub digit : ℕ → ℕ
digit d = pick (ltb d 10) (48 + d) (87 + d)

-- the decimal digits of n, in at most `most` steps
unfoldable pub decimal_in : ℕ → ℕ → List ℕ
decimal_in zero n = digit n ∷ []
decimal_in (suc most) n = pick (ltb n 10) (digit n ∷ []) (decimal_in most (n / 10) ++ digit (n % 10) ∷ [])

-- the decimal digits of n; n steps are enough, since n / 10 is less than n
unfoldable pub decimal : ℕ → List ℕ
decimal n = decimal_in n n

-- the two digits of a byte, in lower-case hex
abbrev pub hex_byte : ℕ → List ℕ
hex_byte b = digit (b / 16) ∷ digit (b % 16) ∷ []

-- the eight digits of a word, in lower-case hex: its bytes from the highest on
abbrev pub hex_word : ℕ → List ℕ
hex_word w = each hex_byte (to_be_bytes w32 w)

-- a number in decimal after a space
abbrev pub number : ℕ → List ℕ
number n = ascii " " ++ decimal n

-- several numbers, each after a space
abbrev pub numbers : List ℕ → List ℕ
numbers ns = each number ns

-- bytes in hex; `-` if there are none
unfoldable pub hex_or_dash : List ℕ → List ℕ
hex_or_dash [] = ascii "-"
hex_or_dash (b ∷ bs) = each hex_byte (b ∷ bs)
