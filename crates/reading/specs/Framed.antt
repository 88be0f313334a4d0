-- READING AFTER FRAMING: the refusals that are left where the walk has looked at every type, status and format.
use Rattle.std.specs.Prelude.{ℕ, List, length, ltb, Option, Some, None, Result, Err}
use Rattle.laws.specs.Pick.{pick}
use Rattle.counts.specs.Counts.{packet}
use Rattle.kinds.specs.declared.kind.Kind.{Kind}
use Rattle.kinds.specs.declared.refusal.Refusal.TheVariants.{TooFewWords, UnknownStatus, WrongFormat}
use Rattle.kinds.specs.Layout.{most_of, kind_of}
use Rattle.standard.specs.Heads.{status_of, packets_of, head_at}
use Rattle.reading.specs.Bodies.{fields_read}
use Rattle.records.specs.declared.message.Message.{Message}
use Rattle.kinds.specs.declared.refusal.Refusal.{Refusal}

-- refusal 7 at packet 1, where a fixed kind has several packets, and then 8 to 11
unfoldable pub framed_kind : Kind → List ℕ → Result Message Refusal
framed_kind k ws = pick (ltb (most_of k) (packets_of ws)) (Err (WrongFormat (packet 1))) (fields_read k ws)

-- refusal 5
abbrev pub framed_known : Option Kind → List ℕ → Result Message Refusal
framed_known None ws = Err UnknownStatus
framed_known (Some k) ws = framed_kind k ws

-- by the first packet's status; under four words, which no framed message has, refusal 1
unfoldable pub framed_read : List ℕ → Result Message Refusal
framed_read ws = pick (ltb (length ws) 4) (Err TooFewWords) (framed_known (kind_of (status_of (head_at ws 0))) ws)
