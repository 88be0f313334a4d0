-- The octets of a word, the packets that a text needs, and the format of each packet.
use Rattle.std.specs.Prelude.{ℕ, ◌+◌, ◌-◌, ◌*◌, ◌/◌, ltb, leb, eqb}
use Rattle.laws.specs.Pick.{pick}
use Rattle.laws.specs.Bits.{field_of}

-- octet j of a word; octet 0 is the highest
unfoldable pub octet_of : ℕ → ℕ → ℕ
octet_of w j = field_of w (24 - j * 8) 8

-- packets needed for a number of bytes: 1 for empty text, otherwise bytes divided by capacity, rounded up
unfoldable pub needed : ℕ → ℕ → ℕ
needed cap bytes = pick (eqb bytes 0) 1 ((bytes + (cap - 1)) / cap)

-- the format of packet p of n: a single packet is Complete (0); otherwise Start (1), then Continue (2), and End (3) at the last
unfoldable pub due_format : ℕ → ℕ → ℕ
due_format n p = pick (leb n 1) 0 (pick (eqb p 0) 1 (pick (ltb p (n - 1)) 2 3))
