-- The heads of a message, checked in one pass: a fast path to the answer that the rules give.
use Rattle.std.specs.Prelude.{ℕ, zero, suc, ◌+◌, ◌-◌, ◌*◌, ◌/◌, ◌^◌, Bool, false, List, take, leb, ltb, eqb, Option, Some, None}
use Rattle.laws.specs.Pick.{pick, differ}
use Rattle.laws.specs.Bits.{put_field}
use Rattle.counts.specs.Counts.{packet}
use Rattle.counts.specs.declared.PacketNumber.{PacketNumber}
use Rattle.utf8.specs.Utf8.{first_bad}
use Rattle.text.specs.Octets.{due_format}
use Rattle.text.specs.Bytes.{text_of}
use Rattle.text_check.specs.FastCheck.{is_good}
use Rattle.kinds.specs.declared.kind.Kind.{Kind}
use Rattle.kinds.specs.Layout.{layout, most_of, has_text}
use Rattle.standard.specs.Heads.{type_of, format_of, stream_type, head_at, packets_of}
use Rattle.reading.specs.Bodies.{offset_of}

-- the low bits of a packet's first word that may be text
unfoldable pub text_bits : ℕ → ℕ
text_bits offset = 16 - offset * 8

-- the bits of a first word above its text, with the format set to 0
unfoldable pub head_bits : ℕ → ℕ → ℕ
head_bits w offset = put_field w 26 2 0 / 2 ^ text_bits offset

-- packet p is there, with a head like the first except for its format
unfoldable pub like_first : List ℕ → ℕ → ℕ → Bool
like_first ws offset p = pick (leb (packets_of ws) p) false (eqb (head_bits (head_at ws p) offset) (head_bits (head_at ws 0) offset))

-- the number of packets if packet p, with this format, is the last one
unfoldable pub ends_at : ℕ → ℕ → Option PacketNumber
ends_at format p = pick (eqb format (due_format (p + 1) p)) (Some (packet (p + 1))) None

-- from packet p on, at most `left` packets: goes on while the format says that another packet follows
unfoldable pub headed_from : ℕ → List ℕ → ℕ → ℕ → Option PacketNumber
headed_from zero ws offset p = None
headed_from (suc left) ws offset p =
    pick (like_first ws offset p)
    (pick (eqb (format_of (head_at ws p)) (due_format (p + 2) p)) (headed_from left ws offset (p + 1)) (ends_at (format_of (head_at ws p)) p))
    None

-- the number of packets of the message at the start of the words, if no head is wrong
unfoldable pub headed_packets : List ℕ → ℕ → Option PacketNumber
headed_packets ws offset = pick (differ (type_of (head_at ws 0)) stream_type) None (headed_from 64 ws offset 0)

-- the first n packets have text that is UTF-8
abbrev pub good_text : List ℕ → ℕ → ℕ → Bool
good_text ws offset n = is_good (first_bad (text_of (take (n * 4) ws) (14 - offset) n))

-- packets that the heads say are there, if their text is UTF-8
abbrev pub seen_in : List ℕ → ℕ → Option PacketNumber → Option PacketNumber
seen_in ws offset None = None
seen_in ws offset (Some n) = pick (good_text ws offset n.0) (Some n) None

unfoldable pub seen_text : List ℕ → ℕ → Option PacketNumber
seen_text ws offset = seen_in ws offset (headed_packets ws offset)

-- the same for a kind; none for a kind without text
abbrev pub text_packets : Kind → List ℕ → Option PacketNumber
text_packets k ws = pick (has_text (layout k).body) (seen_text ws (offset_of k)) None

-- the number of packets that the heads say are there, 0 if they say none
abbrev pub number_in : Option PacketNumber → ℕ
number_in None = 0
number_in (Some n) = n.0

-- the heads of a message of this kind and n packets are right
unfoldable pub heads_right : Kind → List ℕ → ℕ → Bool
heads_right k ws n = pick (ltb (most_of k) n) false (eqb (number_in (headed_packets ws (offset_of k))) n)
