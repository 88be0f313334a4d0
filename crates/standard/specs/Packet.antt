-- A PACKET from any slice: its first four words, missing ones zero. And the size of the message at the start of a slice.
use Rattle.std.specs.Prelude.{ℕ, ◌+◌, Bool, true, List, length, get_or, ltb, eqb, Result, Ok, Err}
use Rattle.laws.specs.Pick.{pick, differ}
use Rattle.laws.specs.First.{first}
use Rattle.counts.specs.Counts.{packet, first_word}
use Rattle.kinds.specs.declared.refusal.Refusal.TheVariants.{TooFewWords, WrongType}
use Rattle.records.specs.declared.packet.Packet.{Packet}
use Rattle.kinds.specs.declared.choices.Format.{Format}
use Rattle.kinds.specs.Choices.{format_from}
use Rattle.standard.specs.Heads.{type_of, format_of, stream_type, packets_of, head_at}
use Rattle.kinds.specs.declared.refusal.Refusal.{Refusal}
use Rattle.counts.specs.declared.WordNumber.{WordNumber}

-- refusal 1 for an empty slice, refusal 4 for another type
unfoldable pub packet_of : List ℕ → Result Packet Refusal
packet_of ws =
    pick (eqb (length ws) 0) (Err TooFewWords)
    (pick (differ (type_of (get_or ws 0 0)) stream_type) (Err (WrongType (packet 0)))
    (Ok (record { 0 = get_or ws 0 0; 1 = get_or ws 1 0; 2 = get_or ws 2 0; 3 = get_or ws 3 0 })))

-- the format of a packet
abbrev pub packet_format : Packet → Format
packet_format p = format_from (format_of p.0)

-- a packet that ends a message: Complete or End
abbrev pub ends_message : List ℕ → ℕ → Bool
ends_message ws p = pick (eqb (format_of (head_at ws p)) 0) true (eqb (format_of (head_at ws p)) 3)

-- the words up to and including the first such packet; refusal 1 if no whole packet ends the message
unfoldable pub message_size : List ℕ → Result WordNumber Refusal
message_size ws =
    pick (ltb (first (ends_message ws) (packets_of ws)) (packets_of ws)) (Ok (first_word (packet (first (ends_message ws) (packets_of ws) + 1)))) (Err TooFewWords)
