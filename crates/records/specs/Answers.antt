-- What each answer says in document 01's numbers: the refusal's number, 0 where there is none, its place, and the answer's values.
use Rattle.std.specs.Prelude.{ℕ, List, [], ◌∷◌, Option, Some, None, Result, Ok, Err}
use Rattle.kinds.specs.declared.refusal.Refusal.{Refusal}
use Rattle.kinds.specs.declared.refusal.Refusal.TheVariants.{UnknownStatus}
use Rattle.records.specs.declared.message.Message.{Message}
use Rattle.records.specs.declared.answers.Walked.{Walked}
use Rattle.records.specs.declared.answers.Walked.TheVariants as W
use Rattle.kinds.specs.Refusals.{refusal_number, refusal_place}
use Rattle.kinds.specs.Layout.{layout}
use Rattle.records.specs.Records.{kind_in, packets_in, numbers_in}
use Rattle.kinds.specs.declared.kind.Kind.{Kind}
use Rattle.records.specs.declared.packet.Packet.{Packet}
use Rattle.counts.specs.declared.WordNumber.{WordNumber}

pub record Said : Type 0 where
  pub refusal : ℕ
  pub place : ℕ
  pub values : List ℕ

abbrev pub accepted : List ℕ → Said
accepted xs = record { refusal = 0; place = 0; values = xs }

abbrev pub refused : Refusal → List ℕ → Said
refused r xs = record { refusal = refusal_number r; place = refusal_place r; values = xs }

-- a kind: its status; a status of no kind is refusal 5
abbrev pub said_known : Option Kind → Said
said_known (Some k) = accepted ((layout k).status ∷ [])
said_known None = refused UnknownStatus []

-- a message: its status, its packets, and its fields in the table's order
abbrev pub said_message : Message → List ℕ
said_message m = (layout (kind_in m)).status ∷ packets_in m ∷ numbers_in m

abbrev pub said_read : Result Message Refusal → Said
said_read (Ok m) = accepted (said_message m)
said_read (Err r) = refused r []

-- which answer of the walk it is: 0 the end, 1 another type, 2 a message, 3 a refusal
abbrev pub walked_case : Walked → ℕ
walked_case W.End = 0
walked_case (W.Other t size next) = 1
walked_case (W.Message m next) = 2
walked_case (W.Refused r next) = 3

-- the next position, then the type and size of another type, then the message; 0 and 0 for the type and size of a message
abbrev pub said_walked : Walked → Said
said_walked W.End = accepted []
said_walked (W.Other t size next) = accepted (next.0 ∷ t ∷ size.0 ∷ [])
said_walked (W.Message m next) = accepted (next.0 ∷ 0 ∷ 0 ∷ said_message m)
said_walked (W.Refused r next) = refused r (next.0 ∷ [])

abbrev pub said_packet : Result Packet Refusal → Said
said_packet (Ok p) = accepted (p.0 ∷ p.1 ∷ p.2 ∷ p.3 ∷ [])
said_packet (Err r) = refused r []

abbrev pub said_size : Result WordNumber Refusal → Said
said_size (Ok n) = accepted (n.0 ∷ [])
said_size (Err r) = refused r []

abbrev pub said_answer : Result (Unit {0}) Refusal → Said
said_answer (Ok tt) = accepted []
said_answer (Err r) = refused r []
