-- A number put into a field, of a word, of a buffer, or of each packet: what cannot be put changes nothing.
use Rattle.std.specs.Prelude.{ℕ, ◌+◌, ◌/◌, ◌^◌, List, [], ◌∷◌, length, get_or, set, ltb}
use Rattle.laws.specs.Pick.{pick}
use Rattle.laws.specs.Bits.{put_field}
use Rattle.slots.specs.Slots.{Slot}
use Rattle.text.specs.Written.{each_first}

-- a word with number v in a field; unchanged if the field leaves the word or the number is too large
unfoldable pub put_if_fits : ℕ → ℕ → ℕ → ℕ → ℕ
put_if_fits w at span v = pick (ltb 32 (at + span)) w (pick (ltb v (2 ^ span)) (put_field w at span v) w)

-- the same in one word of a buffer
unfoldable pub put_in : ℕ → ℕ → ℕ → ℕ → List ℕ → List ℕ
put_in word at span v ws = set ws word (put_if_fits (get_or ws word 0) at span v)

-- a table put slot by slot, the last slot first
unfoldable pub put_ins : {K : Type 0} → List (Slot K) → (K → ℕ) → List ℕ → List ℕ
put_ins [] v ws = ws
put_ins (s ∷ ss) v ws = put_in s.word s.at s.span (v s.key) (put_ins ss v ws)

-- a number in the first word of each of n packets; unchanged if the buffer has fewer packets
unfoldable pub put_each : ℕ → ℕ → ℕ → ℕ → List ℕ → List ℕ
put_each n at span v ws = pick (ltb (length ws / 4) n) ws (each_first n (λ w. put_if_fits w at span v) ws)
