-- The equal parts of a 32-bit word, numbered from the highest: a part begins every `stride` bits, and is the lowest `span` bits of its stride.
use Rattle.std.specs.Prelude.{ℕ, ◌+◌, ◌-◌, ◌*◌, ◌/◌, ◌^◌, ◌<◌, ◌≤◌, Bool, ltb}
use Rattle.laws.specs.Pick.{pick}
use Rattle.laws.specs.Bits.{field_of, put_field}

-- a part has at least one bit, fits its stride, and a word has several strides
pub record IsPart (stride span : ℕ) : Type 0 where
  pub some : 0 < span
  pub within : span ≤ stride
  pub narrow : stride < 32

-- the number of parts in a word
abbrev pub parts_of : ℕ → ℕ
parts_of stride = 32 / stride

-- the lowest bit of part i
abbrev pub lowest_bit : ℕ → ℕ → ℕ
lowest_bit stride i = 32 - stride * (i + 1)

-- part i of a word; 0 if there is no such part
unfoldable pub part_in : ℕ → ℕ → ℕ → ℕ → ℕ
part_in stride span w i = pick (ltb i (parts_of stride)) (field_of w (lowest_bit stride i) span) 0

-- the word with v as its part i; unchanged if there is no such part or v is too large
unfoldable pub put_part : ℕ → ℕ → ℕ → ℕ → ℕ → ℕ
put_part stride span w i v = pick (ltb i (parts_of stride)) (pick (ltb v (2 ^ span)) (put_field w (lowest_bit stride i) span v) w) w

-- a bool as a part of one bit
abbrev pub bit_of : Bool → ℕ
bit_of b = pick b 1 0
