-- The first word of a packet: type, format and status.
use Rattle.std.specs.Prelude.{ℕ, ◌+◌, ◌*◌, ◌/◌, List, length, get_or, drop}
use Rattle.laws.specs.Bits.{field_of}

-- bits 31..28
abbrev pub type_of : ℕ → ℕ
type_of w = field_of w 28 4

-- bits 27..26
abbrev pub format_of : ℕ → ℕ
format_of w = field_of w 26 2

-- bits 25..16
abbrev pub status_of : ℕ → ℕ
status_of w = field_of w 16 10

-- the type of all seven kinds
abbrev pub stream_type : ℕ
stream_type = 0xF

-- the head with this status and format
abbrev pub head_word : ℕ → ℕ → ℕ
head_word status format = stream_type * 0x1000_0000 + format * 0x400_0000 + status * 0x1_0000

-- the number of whole packets
abbrev pub packets_of : List ℕ → ℕ
packets_of ws = length ws / 4

-- the words from packet p on
abbrev pub packet_from : List ℕ → ℕ → List ℕ
packet_from ws p = drop (p * 4) ws

-- the first word of packet p
abbrev pub head_at : List ℕ → ℕ → ℕ
head_at ws p = get_or ws (p * 4) 0
