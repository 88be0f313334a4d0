-- `text::by_byte::step` meets its contract. Invariant: the step from the current place is the step from the given place.
use Prim.Native.Nat.{ℕ, ◌-◌, ◌*◌, ◌<◌}
use mathlib.Core.Path.{◌≡◌}
use mathlib.Core.List.{List}
use Rattle.text.specs.Place.{byte_from, step_at}
use Rattle.text.specs.declared.TextPlace.{TextPlace}
use Rattle.text.proofs.by_byte.step.Given as goal

pub record Sought (ws : List ℕ) (cap : ℕ) (at place : TextPlace) : Type 0 where
  pub low : place.byte.0 < cap
  pub same : step_at ws cap at ≡ step_at ws cap place

abbrev pub invariant-loop-place : goal.invariant-loop-place
invariant-loop-place l = Sought l.words (14 - l.offset) l.initial.place l.place

abbrev pub decreases-loop-place : goal.decreases-loop-place
decreases-loop-place l = l.packets.0 * (14 - l.offset) - byte_from (14 - l.offset) l.place
