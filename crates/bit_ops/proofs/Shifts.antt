-- Shifts of a 32-bit word that lose no bit, and a field put by them. From `put_sum`.
use Prim.Native.Nat.{ℕ, ◌+◌, ◌-◌, ◌*◌, ◌/◌, ◌%◌, ◌^◌, ◌<◌, ◌≤◌}
use mathlib.Core.Path.{◌≡◌}
use native.Mathlib.Omega.{arith}
use native.Mathlib.Nat.{mod-lt}
use lib.Pow.{pow_pos, shl_exact}
use Rattle.laws.specs.Bits.{field_of, put_field}
use Rattle.laws.proofs.Bits.{put_sum, put_lt}

module _ (w at span v r : ℕ) (fits : at + span ≤ 32) (hv : v < 2 ^ span) (got : r ≡ field_of w at span) where
  -- the old and the new value of the field, shifted to its place
  old_shl : r * 2 ^ at % 2 ^ 32 ≡ field_of w at span * 2 ^ at
  old_shl = rw got (shl_exact span at 32 (mod-lt (w / 2 ^ at) (pow_pos span)) (omega arith))

  new_shl : v * 2 ^ at % 2 ^ 32 ≡ v * 2 ^ at
  new_shl = shl_exact span at 32 hv (omega arith)

  pub old_le : r * 2 ^ at % 2 ^ 32 ≤ w
  old_le =
      let s : put_field w at span 0 + field_of w at span * 2 ^ at ≡ w + 0 * 2 ^ at = put_sum w at span 0 in
      rw old_shl (omega arith)

  pub put_shl : w - r * 2 ^ at % 2 ^ 32 + v * 2 ^ at % 2 ^ 32 ≡ put_field w at span v
  put_shl =
      let l : r * 2 ^ at % 2 ^ 32 ≤ w = old_le in
      let s : put_field w at span v + field_of w at span * 2 ^ at ≡ w + v * 2 ^ at = put_sum w at span v in
      omega (arith, old_shl, new_shl)

  pub put_fits : w < 2 ^ 32 → w - r * 2 ^ at % 2 ^ 32 + v * 2 ^ at % 2 ^ 32 < 2 ^ 32
  put_fits hw = rw put_shl (put_lt w at span v hw fits hv)
