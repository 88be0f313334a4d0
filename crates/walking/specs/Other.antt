-- The size of another type's message at a position, for a caller that only steps over it.
use Rattle.std.specs.Prelude.{ℕ, List, Option, Some, None}
use Rattle.counts.specs.declared.WordNumber.{WordNumber}
use Rattle.records.specs.declared.answers.Walked.{Walked}
use Rattle.records.specs.declared.answers.Walked.TheVariants as W
use Rattle.standard.specs.Walk.{walk_of}

-- the words of another type's message; none of any other answer
abbrev pub size_in : Walked → Option WordNumber
size_in W.End = None
size_in (W.Other t size next) = Some size
size_in (W.Message m next) = None
size_in (W.Refused r next) = None

unfoldable pub other_size : List ℕ → ℕ → Option WordNumber
other_size ws pos = size_in (walk_of ws pos)
