-- The answers about text in document 01's numbers; records/specs/Answers.antt has those for the others.
use Rattle.std.specs.Prelude.{ℕ, [], ◌∷◌, Option, Some, None, Result, Ok, Err}
use Rattle.kinds.specs.declared.refusal.Refusal.TheVariants.{NotUtf8}
use Rattle.records.specs.Answers.{Said, accepted, refused}
use Rattle.counts.specs.declared.TextByteNumber.{TextByteNumber}

-- a byte, or nothing at the end: this call never refuses
abbrev pub said_step : Option ℕ → Said
said_step (Some b) = accepted (b ∷ [])
said_step None = accepted []

-- refusal 11 at place 0; its value is the byte at which the bad character starts
abbrev pub said_utf8 : Result (Unit {0}) TextByteNumber → Said
said_utf8 (Ok tt) = accepted []
said_utf8 (Err n) = refused NotUtf8 (n.0 ∷ [])
