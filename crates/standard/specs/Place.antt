-- THE TEXT PLACE in any slice: whole packets only; offset 1 if the status of the first word is 0x12, otherwise 0.
use Rattle.std.specs.Prelude.{ℕ, ◌-◌, List, get_or, eqb}
use Rattle.laws.specs.Pick.{pick}
use Rattle.text.specs.Place.{step_at}
use Rattle.text.specs.declared.TextPlace.{TextPlace}
use Rattle.text.specs.declared.Stepped.{Stepped}
use Rattle.kinds.specs.declared.kind.Kind.TheVariants as K
use Rattle.kinds.specs.Layout.{layout}
use Rattle.standard.specs.Heads.{status_of}

-- the offset, by the ten status bits of the first word; its type does not matter
unfoldable pub offset_here : List ℕ → ℕ
offset_here ws = pick (eqb (status_of (get_or ws 0 0)) (layout K.FunctionBlockName).status) 1 0

-- the next nonzero text byte from a place on, and the place after it
abbrev pub next_byte : List ℕ → TextPlace → Stepped
next_byte ws at = step_at ws (14 - offset_here ws) at
