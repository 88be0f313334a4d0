-- READING ONE MESSAGE: refusals 1 to 11 in document 01's order, each over all packets; otherwise the record.
use Rattle.std.specs.Prelude.{ℕ, ◌%◌, Bool, true, false, List, [], ◌∷◌, length, get_or, ltb, eqb, Option, Some, None, Result, Ok, Err}
use Rattle.laws.specs.Pick.{pick, differ}
use Rattle.laws.specs.First.{first}
use Rattle.counts.specs.Counts.{packet}
use Rattle.counts.specs.declared.PacketNumber.{PacketNumber}
use Rattle.slots.specs.Slots.{Slot, get}
use Rattle.utf8.specs.Utf8.{first_bad}
use Rattle.text.specs.Octets.{due_format}
use Rattle.text.specs.Bytes.{text_of}
use Rattle.kinds.specs.declared.refusal.Refusal.{Refusal}
use Rattle.kinds.specs.declared.refusal.Refusal.TheVariants.{TooFewWords, NotWholePackets, TooManyPackets, WrongType, UnknownStatus, StatusDiffers, WrongFormat, BlockNumberDiffers, BadPort, BadDirection, NotUtf8}
use Rattle.kinds.specs.declared.kind.Kind.{Kind}
use Rattle.records.specs.declared.message.Message.{Message}
use Rattle.kinds.specs.Choices.{no_port, no_direction}
use Rattle.kinds.specs.Fields.{Field}
use Rattle.kinds.specs.Layout.{Part, layout, capacity_of, most_of, kind_of, values_in}
use Rattle.records.specs.Records.{record_of}
use Rattle.standard.specs.Heads.{type_of, format_of, status_of, stream_type, packets_of, packet_from, head_at}
use Rattle.counts.specs.declared.TextByteNumber.{TextByteNumber}

-- the refusal at the first of n packets that breaks a rule; `rest` if none does
unfoldable pub ruled : (ℕ → Bool) → ℕ → (PacketNumber → Refusal) → Result Message Refusal → Result Message Refusal
ruled broken n why rest = pick (ltb (first broken n) n) (Err (why (packet (first broken n)))) rest

-- ---- the rules that a packet p can break: another type, another status than packet 0, not the format due
abbrev pub other_type : List ℕ → ℕ → Bool
other_type ws p = differ (type_of (head_at ws p)) stream_type

abbrev pub other_status : List ℕ → ℕ → Bool
other_status ws p = differ (status_of (head_at ws p)) (status_of (head_at ws 0))

abbrev pub other_format : List ℕ → ℕ → Bool
other_format ws p = differ (format_of (head_at ws p)) (due_format (packets_of ws) p)

-- a field of the kind differs from that in packet 0; of the seven kinds only the block name has a field in several packets
unfoldable pub other_field : List (Slot Part) → List ℕ → ℕ → Bool
other_field [] ws p = false
other_field (s ∷ ss) ws p = pick (differ (get s (packet_from ws p)) (get s (packet_from ws 0))) true (other_field ss ws p)

-- ---- the contents of the words, for a kind
abbrev pub values_at : Kind → List ℕ → Field → List ℕ
values_at k ws = values_in (layout k).fields ws

-- the code of a choice; a kind without this choice gives its starting value, which is valid
abbrev pub code_at : Kind → List ℕ → Field → ℕ
code_at k ws f = get_or (values_at k ws f) 0 0

-- the text; empty if the kind has none
abbrev pub text_at : Kind → List ℕ → List ℕ
text_at k ws = text_of ws (capacity_of k) (packets_of ws)

-- the record
abbrev pub message_at : Kind → List ℕ → Message
message_at k ws = record_of k (packets_of ws) (values_at k ws)

-- the text is not UTF-8
abbrev pub is_bad : Result (Unit {0}) TextByteNumber → Bool
is_bad (Ok tt) = false
is_bad (Err n) = true

-- ---- refusals 9, 10 and 11
unfoldable pub read_body : Kind → List ℕ → Result Message Refusal
read_body k ws =
    pick (eqb (code_at k ws Field.midi1_port) no_port) (Err BadPort)
    (pick (eqb (code_at k ws Field.direction) no_direction) (Err BadDirection)
    (pick (is_bad (first_bad (text_at k ws))) (Err NotUtf8)
    (Ok (message_at k ws))))

-- ---- refusals 6, 7 (first for a fixed kind in several packets, then for the formats) and 8
unfoldable pub read_kind : Kind → List ℕ → Result Message Refusal
read_kind k ws =
    ruled (other_status ws) (packets_of ws) StatusDiffers
    (pick (ltb (most_of k) (packets_of ws)) (Err (WrongFormat (packet 1)))
    (ruled (other_format ws) (packets_of ws) WrongFormat
    (ruled (other_field (layout k).fields ws) (packets_of ws) BlockNumberDiffers
    (read_body k ws))))

-- ---- refusal 5
abbrev pub read_known : Option Kind → List ℕ → Result Message Refusal
read_known None ws = Err UnknownStatus
read_known (Some k) ws = read_kind k ws

-- ---- refusals 1, 2, 3 and 4
unfoldable pub read_of : List ℕ → Result Message Refusal
read_of ws =
    pick (ltb (length ws) 4) (Err TooFewWords)
    (pick (differ (length ws % 4) 0) (Err NotWholePackets)
    (pick (ltb 64 (packets_of ws)) (Err TooManyPackets)
    (ruled (other_type ws) (packets_of ws) WrongType
    (read_known (kind_of (status_of (head_at ws 0))) ws))))
