-- THE WHOLE WALK of a stream, from position 0 to the end, and what it means that each word is passed once.
use Rattle.std.specs.Prelude.{ℕ, zero, suc, ◌<◌, ◌≡◌, Bool, List, [], ◌∷◌, length, ltb, leb}
use Rattle.laws.specs.Pick.{pick, both}
use Rattle.records.specs.declared.answers.Walked.{Walked}
use Rattle.records.specs.declared.answers.Walked.TheVariants as W
use Rattle.standard.specs.Walk.{walk_of}

-- the position after an answer
abbrev pub next_of : Walked → ℕ → ℕ
next_of W.End pos = pos
next_of (W.Other t size next) pos = next.0
next_of (W.Message m next) pos = next.0
next_of (W.Refused r next) pos = next.0

-- a position, and what the walk answers there
pub record Visit : Type 0 where
  pub position : ℕ
  pub answer : Walked

abbrev pub next_in : Visit → ℕ
next_in v = next_of v.answer v.position

-- the visits from a position on, at most `most` of them
unfoldable pub visits : ℕ → List ℕ → ℕ → List Visit
visits zero ws pos = []
visits (suc most) ws pos =
    pick (ltb pos (length ws)) (record { position = pos; answer = walk_of ws pos } ∷ visits most ws (next_of (walk_of ws pos) pos)) []

-- all visits: each takes at least one word
abbrev pub visits_of : List ℕ → List Visit
visits_of ws = visits (length ws) ws 0

-- the first visit starts at a position, each other where the one before it ended, and the last ends at another; none is empty
abbrev pub Tiles : ℕ → List Visit → ℕ → Type 0
Tiles from [] to = from ≡ to
Tiles from (v ∷ vs) to = (v.position ≡ from) × (v.position < next_in v) × Tiles (next_in v) vs to

-- each answer is the walk's
abbrev pub Answers : List ℕ → List Visit → Type 0
Answers ws [] = Unit
Answers ws (v ∷ vs) = (v.answer ≡ walk_of ws v.position) × Answers ws vs

-- the word i is from a visit's position on and before its next
unfoldable pub covers : ℕ → Visit → Bool
covers i v = both (leb v.position i) (ltb i (next_in v))

-- how many visits cover a word
unfoldable pub covering : ℕ → List Visit → ℕ
covering i [] = 0
covering i (v ∷ vs) = pick (covers i v) (suc (covering i vs)) (covering i vs)
