-- Several steps in a row: the bytes that they return, and the place that they reach.
use Rattle.std.specs.Prelude.{ℕ, zero, suc, ◌/◌, ◌≡◌, List, [], ◌∷◌, length, Option, Some, None}
use Rattle.counts.specs.Counts.{packet, byte}
use Rattle.text.specs.Place.{text_place_at, byte_from, stepped, step_at}
use Rattle.text.specs.declared.TextPlace.{TextPlace}

-- the first place of any text
abbrev pub start_place : TextPlace
start_place = record { packet = packet 0; byte = byte 0 }

-- the place at the end: packet count, byte 0
abbrev pub end_place : List ℕ → TextPlace
end_place ws = record { packet = packet (length ws / 4); byte = byte 0 }

-- the next place; after a packet's last byte comes byte 0 of the next packet
abbrev pub next_place : ℕ → TextPlace → TextPlace
next_place cap at = text_place_at cap (suc (byte_from cap at))

-- a step's byte in front of the later ones; nothing if the step is the end
abbrev pub prepend_byte : Option ℕ → List ℕ → List ℕ
prepend_byte (Some x) rest = x ∷ rest
prepend_byte None rest = []

-- the bytes of at most n steps from a place, up to the end
unfoldable pub handed : ℕ → List ℕ → ℕ → TextPlace → List ℕ
handed zero ws cap at = []
handed (suc n) ws cap at = prepend_byte (step_at ws cap at).step (handed n ws cap (step_at ws cap at).place)

-- the place after n steps
unfoldable pub place_after : ℕ → List ℕ → ℕ → TextPlace → TextPlace
place_after zero ws cap at = at
place_after (suc n) ws cap at = place_after n ws cap (step_at ws cap at).place

-- the steps from a place return these bytes and then the end, at packet count, byte 0
pub data HandsOut (ws : List ℕ) (cap : ℕ) : TextPlace → List ℕ → Type 0 where
  none : {at : TextPlace} → step_at ws cap at ≡ stepped None (end_place ws) → HandsOut ws cap at []
  more : {at to : TextPlace} {x : ℕ} {xs : List ℕ} → step_at ws cap at ≡ stepped (Some x) to → HandsOut ws cap to xs → HandsOut ws cap at (x ∷ xs)
