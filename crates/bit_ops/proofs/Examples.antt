-- The definitions at a few words, one example for each kind of part. Proved by computation.
use mathlib.Core.Path.{◌≡◌, refl}
use Rattle.bit_ops.specs.Parts.{part_in, put_part}

-- part 0 is the highest; past the last part 0 is read
pub bits_example : (part_in 1 1 0x80000000 0 ≡ 1) × (part_in 1 1 0x80000000 31 ≡ 0) × (part_in 1 1 0xFFFFFFFF 32 ≡ 0)
unfolding part_in
bits_example = (refl, refl, refl)

pub crumbs_example : (part_in 2 2 0x9C000000 0 ≡ 2) × (part_in 2 2 0x9C000000 1 ≡ 1) × (part_in 2 2 0x9C000000 2 ≡ 3)
unfolding part_in
crumbs_example = (refl, refl, refl)

pub nibbles_example : (part_in 4 4 0x12345678 0 ≡ 1) × (part_in 4 4 0x12345678 7 ≡ 8)
unfolding part_in
nibbles_example = (refl, refl)

pub octets_example : (part_in 8 8 0x12C45678 0 ≡ 0x12) × (part_in 8 8 0x12C45678 1 ≡ 0xC4) × (part_in 8 7 0x12C45678 1 ≡ 0x44)
unfolding part_in
octets_example = (refl, refl, refl)

pub words_example : (part_in 16 16 0x12345678 0 ≡ 0x1234) × (part_in 16 16 0x12345678 1 ≡ 0x5678)
unfolding part_in
words_example = (refl, refl)

-- setting a septet keeps the highest bit of its octet
pub septet_example : (put_part 8 7 0x00800000 1 0x7F ≡ 0x00FF0000) × (put_part 8 7 0x00000000 1 0x7F ≡ 0x007F0000)
unfolding put_part
septet_example = (refl, refl)

-- an index out of range or a value too large changes nothing
pub unchanged_example : (put_part 8 8 0x12345678 4 0xFF ≡ 0x12345678) × (put_part 8 7 0x12345678 0 0x80 ≡ 0x12345678)
unfolding put_part
unchanged_example = (refl, refl)
