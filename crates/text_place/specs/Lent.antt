-- ONE TEXT PLACE LENT AGAIN AND AGAIN: the answers of the calls, and where they leave the place.
use Rattle.std.specs.Prelude.{ℕ, zero, suc, ◌-◌, ◌/◌, List, [], ◌∷◌, length, Option}
use Rattle.text.specs.Bytes.{text_of}
use Rattle.text.specs.Handed.{place_after}
use Rattle.text.specs.declared.TextPlace.{TextPlace}
use Rattle.standard.specs.Place.{offset_here, next_byte}

-- the text bytes in a packet: 13 if the status of the first word is 0x12, otherwise 14
abbrev pub capacity_here : List ℕ → ℕ
capacity_here ws = 14 - offset_here ws

-- the text of the whole packets: all nonzero text bytes, in order
abbrev pub text_here : List ℕ → List ℕ
text_here ws = text_of ws (capacity_here ws) (length ws / 4)

-- the answers of n calls, each from where the one before left the place
unfoldable pub answers : ℕ → List ℕ → TextPlace → List (Option ℕ)
answers zero ws at = []
answers (suc n) ws at = (next_byte ws at).step ∷ answers n ws (next_byte ws at).place

-- where n calls leave the place
abbrev pub left_after : ℕ → List ℕ → TextPlace → TextPlace
left_after n ws at = place_after n ws (capacity_here ws) at
