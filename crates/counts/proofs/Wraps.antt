-- A word number within 64 bits.
use Prim.Native.Nat.{ℕ, ◌*◌, ◌%◌, ◌^◌, ◌<◌}
use mathlib.Core.Path.{◌≡◌, ap}
use native.Mathlib.Omega.{arith}
use Rattle.counts.specs.Counts.{packet, word, first_word, wrapped}

-- the remainder by 2 ^ 62, times four, is the product as 64 bits hold it
pub wraps : (p : ℕ) → p % 0x4000_0000_0000_0000 * 4 ≡ p * 4 % 2 ^ 64
wraps p = omega arith

-- the first word of a packet that a slice can hold
pub first-word : (p : ℕ) → p * 4 < 2 ^ 64 → wrapped (first_word (packet p)) ≡ word (p * 4)
first-word p h = let e : p * 4 % 2 ^ 64 ≡ p * 4 = omega arith in ap word e
