-- Numbers held to the slots of a table, and put into them, one a slot from slot i on.
use Rattle.std.specs.Prelude.{ℕ, suc, ◌^◌, Bool, true, List, [], ◌∷◌, ltb}
use Rattle.laws.specs.Pick.{both}
use Rattle.slots.specs.Slots.{Slot}
use Rattle.fields.specs.Puts.{put_in}
use Rattle.kinds.specs.Layout.{Part}
use Rattle.table.specs.Places.{slot_at}

-- each number is at most its slot's largest
unfoldable pub fit_from : List (Slot Part) → ℕ → List ℕ → Bool
fit_from t i [] = true
fit_from t i (x ∷ xs) = both (ltb x (2 ^ (slot_at t i).span)) (fit_from t (suc i) xs)

-- one number put into one slot
abbrev pub put_slot : Slot Part → ℕ → List ℕ → List ℕ
put_slot s x ws = put_in s.word s.at s.span x ws

-- the numbers put, the last one first
unfoldable pub put_from : List (Slot Part) → ℕ → List ℕ → List ℕ → List ℕ
put_from t i [] ws = ws
put_from t i (x ∷ xs) ws = put_slot (slot_at t i) x (put_from t (suc i) xs ws)
