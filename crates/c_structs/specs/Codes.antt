-- WHAT A CHOICE FROM ITS CODE SAYS in document 01's numbers.
use Rattle.std.specs.Prelude.{[], ◌∷◌, Result, Ok, Err}
use Rattle.kinds.specs.declared.refusal.Refusal.TheVariants.{NumberTooLarge}
use Rattle.kinds.specs.Choices.{hint_code, port_code, direction_code}
use Rattle.records.specs.Answers.{Said, accepted, refused}
use Rattle.kinds.specs.declared.choices.UiHint.{UiHint}
use Rattle.kinds.specs.declared.choices.Midi1Port.{Midi1Port}
use Rattle.kinds.specs.declared.choices.Direction.{Direction}
use Rattle.kinds.specs.declared.choices.NoChoice.{NoChoice}

-- the code of the choice, or refusal 12
abbrev pub said_hint : Result UiHint NoChoice → Said
said_hint (Ok h) = accepted (hint_code h ∷ [])
said_hint (Err n) = refused NumberTooLarge []

abbrev pub said_port : Result Midi1Port NoChoice → Said
said_port (Ok p) = accepted (port_code p ∷ [])
said_port (Err n) = refused NumberTooLarge []

abbrev pub said_direction : Result Direction NoChoice → Said
said_direction (Ok d) = accepted (direction_code d ∷ [])
said_direction (Err n) = refused NumberTooLarge []
