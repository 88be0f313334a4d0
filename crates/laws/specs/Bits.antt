-- A field of a word, given by its lowest bit `at` and its width `span`.
use Rattle.std.specs.Prelude.{ℕ, ◌+◌, ◌*◌, ◌/◌, ◌%◌, ◌^◌}

-- the number in the field
abbrev pub field_of : ℕ → ℕ → ℕ → ℕ
field_of w at span = w / 2 ^ at % 2 ^ span

-- the word with number v in the field, and every other bit unchanged
abbrev pub put_field : ℕ → ℕ → ℕ → ℕ → ℕ
put_field w at span v = w / 2 ^ (at + span) * 2 ^ (at + span) + v * 2 ^ at + w % 2 ^ at

-- a word of four octets, the highest first
abbrev pub word_of : ℕ → ℕ → ℕ → ℕ → ℕ
word_of a b c d = a * 0x1000000 + b * 0x10000 + c * 0x100 + d
