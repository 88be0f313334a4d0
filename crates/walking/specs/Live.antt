-- A LIVE STREAM walked as its words arrive.
use Rattle.std.specs.Prelude.{ℕ, List, [], ◌∷◌}
use Rattle.laws.specs.Pick.{pick}
use Rattle.standard.specs.Live.{final}
use Rattle.walking.specs.Visits.{Visit, next_in}

-- the visits before the first whose answer is not final
unfoldable pub settled : List Visit → List Visit
settled [] = []
settled (v ∷ vs) = pick (final v.answer) (v ∷ settled vs) []

-- the position after some visits from a position on: there the walk waits
unfoldable pub waits_at : ℕ → List Visit → ℕ
waits_at pos [] = pos
waits_at pos (v ∷ vs) = waits_at (next_in v) vs
