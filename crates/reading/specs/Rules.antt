-- The first packet of a message that passes a test, as the code searches for it.
use Rattle.std.specs.Prelude.{ℕ, ◌<◌, ◌≡◌, Bool, true, List, ltb, eqb, Option, Some, None}
use Rattle.laws.specs.Pick.{pick}
use Rattle.laws.specs.First.{first}
use Rattle.counts.specs.Counts.{packet}
use Rattle.counts.specs.declared.PacketNumber.{PacketNumber}
use Rattle.standard.specs.Heads.{format_of, head_at, packets_of}

-- a test in the code, by what its calls answer, tells for each packet what t says of it
abbrev pub Tells : (ℕ → PacketNumber → Bool → Type 0) → List ℕ → (ℕ → Bool) → Type 0
Tells answers ws t = (p : ℕ) (b : Bool) → p < packets_of ws → answers (head_at ws p) (packet p) b → b ≡ t p

-- the first of n packets that passes a test
unfoldable pub first_packet : (ℕ → Bool) → ℕ → Option PacketNumber
first_packet t n = pick (ltb (first t n) n) (Some (packet (first t n))) None

-- a first word whose packet ends a message
unfoldable pub ends : ℕ → Bool
ends w = pick (eqb (format_of w) 0) true (eqb (format_of w) 3)
