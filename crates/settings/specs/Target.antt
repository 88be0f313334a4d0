-- What a setting of one kind finds at word position 0: the packets of a message of that kind, or why it is refused.
use Rattle.std.specs.Prelude.{ℕ, List, [], ◌∷◌, Result, Ok, Err}
use Rattle.laws.specs.Pick.{pick, differ}
use Rattle.counts.specs.Counts.{packet}
use Rattle.kinds.specs.declared.refusal.Refusal.TheVariants.{TooFewWords, WrongType, NoSuchField}
use Rattle.kinds.specs.Layout.{layout}
use Rattle.records.specs.declared.message.Message.{Message}
use Rattle.records.specs.declared.answers.Walked.{Walked}
use Rattle.records.specs.declared.answers.Walked.TheVariants as W
use Rattle.records.specs.Answers.{Said, accepted, refused}
use Rattle.records.specs.Records.{kind_in, packets_in}
use Rattle.standard.specs.Words.{Outcome, unchanged}
use Rattle.kinds.specs.declared.refusal.Refusal.{Refusal}
use Rattle.counts.specs.declared.PacketNumber.{PacketNumber}

-- a message of another kind is refusal 13
unfoldable pub own_in : ℕ → Message → Result PacketNumber Refusal
own_in status m =
    pick (differ (layout (kind_in m)).status status) (Err NoSuchField) (Ok (packet (packets_in m)))

-- what the walk refuses comes first
abbrev pub target_of : ℕ → Walked → Result PacketNumber Refusal
target_of status W.End = Err TooFewWords
target_of status (W.Other t size next) = Err (WrongType (packet 0))
target_of status (W.Refused r next) = Err r
target_of status (W.Message m next) = own_in status m

-- the same in document 01's numbers: the packets of the message, or the refusal
abbrev pub said_target : Result PacketNumber Refusal → Said
said_target (Ok n) = accepted (n.0 ∷ [])
said_target (Err r) = refused r []

-- what a setting leaves: the words unchanged if it is refused, else what `act` gives for the packets found
abbrev pub settled : Result PacketNumber Refusal → (ℕ → Outcome) → List ℕ → Outcome
settled (Ok n) act ws = act n.0
settled (Err r) act ws = unchanged r ws
