-- The text bytes of packets, one packet after another. Proved by dividing a byte's number by the capacity.
use Prim.Native.Nat.{ℕ, zero, suc, ◌+◌, ◌*◌, ◌/◌, ◌%◌, ◌<◌}
use mathlib.Core.Path.{◌≡◌}
use mathlib.Core.List.{List, ◌++◌}
use native.Mathlib.Nat.{add-zero, add_comm, suc-mul, mul-zero, div-eq_of_lt, mod-eq_of_lt, add-div_left, add-mod_left}
use native.Mathlib.Omega.{arith}
use Rattle.laws.specs.Lists.{tabulate}
use Rattle.laws.proofs.Lists.{tabulate_join}
use Rattle.text.specs.Bytes.{text_byte}

-- the text bytes of n packets from packet p on
abbrev pub bytes_from : List ℕ → ℕ → ℕ → ℕ → List ℕ
bytes_from ws cap p n = tabulate (n * cap) (λ m. text_byte ws cap (p + m / cap) (m % cap))

some_text : (n cap i : ℕ) → i < n * cap → 0 < cap
some_text n zero i h = absurd (omega (arith, mul-zero n))
some_text n (suc cap) i h = omega arith

-- the bytes of packet p, then those of the packets after it
pub bytes_packet : (ws : List ℕ) (cap p n : ℕ) → bytes_from ws cap p (suc n) ≡ tabulate cap (text_byte ws cap p) ++ bytes_from ws cap (suc p) n
bytes_packet ws cap p n =
    rw (suc-mul, add_comm (n * cap) cap)
    (tabulate_join cap (n * cap) (λ m. text_byte ws cap (p + m / cap) (m % cap)) (text_byte ws cap p) (λ m. text_byte ws cap (suc p + m / cap) (m % cap))
    (λ i l. rw (div-eq_of_lt l, mod-eq_of_lt l, add-zero))
    (λ i l. let e : p + (i / cap + 1) ≡ suc p + i / cap = omega arith in rw (add-div_left i (some_text n cap i l), add-mod_left cap i, e)))
