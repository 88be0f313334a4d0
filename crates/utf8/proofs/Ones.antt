-- The leading zeros of the inverted byte are the leading ones of the byte, so they give the character's length. Proved by computing a test for all 256 bytes.
use Rattle.std.proofs.Common.{◌≡◌, ℕ, ◌-◌, ◌<◌, Bool, eqb, sym, refl, ap, ◌∙◌, eqb→eq, ne_eqb}
use lib.Count.{count_leading_zeros}
use Rattle.laws.proofs.EachBelow.{each_at}
use Rattle.utf8.specs.Scan.{leading_ones, length_by_ones, char_length}

ones_test : ℕ → Bool
ones_test b = eqb (count_leading_zeros 8 (255 - b)) (leading_ones 8 b)

pub ones_law : (b : ℕ) → b < 256 → count_leading_zeros 8 (255 - b) ≡ leading_ones 8 b
unfolding ones_test count_leading_zeros leading_ones
ones_law b h = eqb→eq (count_leading_zeros 8 (255 - b)) (leading_ones 8 b) (each_at ones_test 256 tt b h)

pub length_law : (b n : ℕ) → b < 256 → count_leading_zeros 8 (255 - b) ≡ n → length_by_ones n ≡ char_length b
unfolding char_length
length_law b n h e = ap length_by_ones (sym e ∙ ones_law b h)

other : (n : ℕ) → (n ≡ 0 → ⊥) → (n ≡ 2 → ⊥) → (n ≡ 3 → ⊥) → (n ≡ 4 → ⊥) → 0 ≡ length_by_ones n
unfolding length_by_ones
other n h₀ h₂ h₃ h₄ = rw (ne_eqb n 0 h₀, ne_eqb n 2 h₂, ne_eqb n 3 h₃, ne_eqb n 4 h₄)

pub no_length : (b : ℕ) → b < 256 → (count_leading_zeros 8 (255 - b) ≡ 0 → ⊥) → (count_leading_zeros 8 (255 - b) ≡ 2 → ⊥) → (count_leading_zeros 8 (255 - b) ≡ 3 → ⊥) → (count_leading_zeros 8 (255 - b) ≡ 4 → ⊥) → 0 ≡ char_length b
no_length b h h₀ h₂ h₃ h₄ = other (count_leading_zeros 8 (255 - b)) h₀ h₂ h₃ h₄ ∙ length_law b (count_leading_zeros 8 (255 - b)) h refl
