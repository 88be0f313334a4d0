-- The words of a packet as text: their octets without zeros.
use Rattle.std.specs.Prelude.{ℕ, ◌+◌, ◌*◌, ◌%◌, List, [], ◌∷◌, ◌++◌, get_or, eqb}
use Rattle.laws.specs.Pick.{pick}
use Rattle.laws.specs.Lists.{nonzero}
use Rattle.text.specs.Octets.{octet_of}
use Rattle.records.specs.declared.packet.Packet.{Packet}

-- the four octets of a word, the highest first
abbrev pub octets_of : ℕ → List ℕ
octets_of w = octet_of w 0 ∷ octet_of w 1 ∷ octet_of w 2 ∷ octet_of w 3 ∷ []

-- a packet's first word with zeros in place of what is not text: octets 0 and 1, and octet 2 too unless the offset is 0
unfoldable pub first_text : ℕ → ℕ → ℕ
first_text w offset = pick (eqb offset 0) (w % 0x10000) (w % 0x100)

-- packet p, with zeros in place of what is not text
abbrev pub text_words_at : List ℕ → ℕ → ℕ → Packet
text_words_at ws offset p =
    record {
      0 = first_text (get_or ws (p * 4) 0) offset;
      1 = get_or ws (p * 4 + 1) 0;
      2 = get_or ws (p * 4 + 2) 0;
      3 = get_or ws (p * 4 + 3) 0;
    }

-- the octets of a packet's words without zeros
abbrev pub packet_text : Packet → List ℕ
packet_text t = nonzero (octets_of t.0) ++ nonzero (octets_of t.1) ++ nonzero (octets_of t.2) ++ nonzero (octets_of t.3)
