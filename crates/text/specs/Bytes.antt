-- The text bytes of packets.
use Rattle.std.specs.Prelude.{ℕ, ◌+◌, ◌-◌, ◌*◌, ◌/◌, ◌%◌, List, get_or}
use Rattle.laws.specs.Lists.{tabulate, nonzero}
use Rattle.text.specs.Octets.{octet_of}

-- text byte b of packet p; the text is the last `cap` octets of a packet
unfoldable pub text_byte : List ℕ → ℕ → ℕ → ℕ → ℕ
text_byte ws cap p b = octet_of (get_or ws (p * 4 + (16 - cap + b) / 4) 0) ((16 - cap + b) % 4)

-- the text bytes of n packets, zeros included
unfoldable pub all_bytes : List ℕ → ℕ → ℕ → List ℕ
all_bytes ws cap n = tabulate (n * cap) (λ m. text_byte ws cap (m / cap) (m % cap))

-- the text of n packets: all nonzero text bytes, in order
abbrev pub text_of : List ℕ → ℕ → ℕ → List ℕ
text_of ws cap n = nonzero (all_bytes ws cap n)
