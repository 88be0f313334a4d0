-- Reading text one byte at a time: the step from a text place.
use Rattle.std.specs.Prelude.{ℕ, suc, ◌/◌, ◌%◌, List, [], ◌∷◌, length, drop, leb, eqb, Option, Some, None}
use Rattle.laws.specs.Pick.{pick}
use Rattle.counts.specs.Counts.{packet, byte, byte_of_text}
use Rattle.text.specs.Bytes.{text_byte, all_bytes}
use Rattle.text.specs.declared.TextPlace.{TextPlace}
use Rattle.text.specs.declared.Stepped.{Stepped}

-- the place of byte number m, counted over the text bytes of all packets
abbrev pub text_place_at : ℕ → ℕ → TextPlace
text_place_at cap m = record { packet = packet (m / cap); byte = byte (m % cap) }

-- the byte number of a place
abbrev pub byte_from : ℕ → TextPlace → ℕ
byte_from cap at = (byte_of_text cap at.packet at.byte).0

-- the text byte at a place; 0 if no whole packet has such a byte
unfoldable pub byte_at : List ℕ → ℕ → TextPlace → ℕ
byte_at ws cap at =
    pick (leb (length ws / 4) at.packet.0) 0 (pick (leb cap at.byte.0) 0 (text_byte ws cap at.packet.0 at.byte.0))

-- a step and the place after it
abbrev pub stepped : Option ℕ → TextPlace → Stepped
stepped s at = record { step = s; place = at }

-- the first nonzero byte of the bytes from number m on, with the place after it; the end if there is none
unfoldable pub seek : ℕ → List ℕ → ℕ → Stepped
seek cap [] m = stepped None (text_place_at cap m)
seek cap (x ∷ xs) m = pick (eqb x 0) (seek cap xs (suc m)) (stepped (Some x) (text_place_at cap (suc m)))

-- a place at or past the packet count or the capacity is the end and does not move
unfoldable pub step_at : List ℕ → ℕ → TextPlace → Stepped
step_at ws cap at =
    pick (leb (length ws / 4) at.packet.0) (stepped None at)
    (pick (leb cap at.byte.0) (stepped None at)
    (seek cap (drop (byte_from cap at) (all_bytes ws cap (length ws / 4))) (byte_from cap at)))
