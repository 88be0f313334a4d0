-- The first word of a packet of a slice.
use Rattle.std.specs.Prelude.{ℕ, List, length, get_or, leb}
use Rattle.laws.specs.Pick.{pick}
use Rattle.counts.specs.Counts.{word, first_word, whole_packets}
use Rattle.counts.specs.declared.PacketNumber.{PacketNumber}

-- the first word of a packet; 0 if there is no such whole packet
unfoldable pub head_in : List ℕ → PacketNumber → ℕ
head_in ws p = pick (leb (whole_packets (word (length ws))).0 p.0) 0 (get_or ws (first_word p).0 0)
