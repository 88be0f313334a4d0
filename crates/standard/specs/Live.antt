-- A LIVE STREAM: which answers of the walk more words can still change.
use Rattle.std.specs.Prelude.{ℕ, ◌+◌, Bool, true, false}
use Rattle.laws.specs.Pick.{differ}
use Rattle.counts.specs.Counts.{word}
use Rattle.kinds.specs.Refusals.{refusal_number}
use Rattle.records.specs.declared.answers.Walked.{Walked}
use Rattle.records.specs.declared.answers.Walked.TheVariants as W

-- more words cannot change the answer: every answer but the end and refusal 1
abbrev pub final : Walked → Bool
final W.End = false
final (W.Other t size next) = true
final (W.Message m next) = true
final (W.Refused r next) = differ (refusal_number r) 1

-- the answer with d more words before the stream: only its next position moves
abbrev pub later : ℕ → Walked → Walked
later d W.End = W.End
later d (W.Other t size next) = W.Other t size (word (d + next.0))
later d (W.Message m next) = W.Message m (word (d + next.0))
later d (W.Refused r next) = W.Refused r (word (d + next.0))
