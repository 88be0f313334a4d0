-- The packets of a slice: where a whole packet starts, and the first word that the code finds there.
use Prim.Native.Nat.{ℕ, ◌*◌, ◌/◌, ◌^◌, ◌≤◌, ◌<◌}
use mathlib.Core.Path.{◌≡◌, ap}
use mathlib.Core.List.{List}
use native.Mathlib.Omega.{arith}
use lib.ListN.{length, get_or}
use borrow.Author.Tests.{le-leb, lt-leb}
use Rattle.counts.specs.Counts.{first_word, wrapped}
use Rattle.counts.specs.declared.PacketNumber.{PacketNumber}
use Rattle.counts.specs.declared.WordNumber.{WordNumber}
use Rattle.text.specs.Heads.{head_in}

pub head_in_lem : (ws : List ℕ) (p : PacketNumber) → p.0 < length ws / 4 → head_in ws p ≡ get_or ws (p.0 * 4) 0
unfolding head_in
head_in_lem ws p h = rw (lt-leb (length ws / 4) p.0 h)

pub head_out : (ws : List ℕ) (p : PacketNumber) → length ws / 4 ≤ p.0 → head_in ws p ≡ 0
unfolding head_in
head_out ws p h = rw (le-leb (length ws / 4) p.0 h)

-- the first word of a whole packet, as 64 bits hold it
pub starts_at : (ws : List ℕ) {k : WordNumber} (p : PacketNumber) → k ≡ wrapped (first_word p) → p.0 < length ws / 4 → length ws < 2 ^ 64 → k.0 ≡ p.0 * 4
starts_at ws p e h l = let f = ap (λ (x : WordNumber). x.0) e in omega (arith, f)
