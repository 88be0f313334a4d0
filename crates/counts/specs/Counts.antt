-- The three counts and the formulas between them. A packet is four words.
use Rattle.std.specs.Prelude.{ℕ, ◌+◌, ◌*◌, ◌/◌, ◌%◌, ◌^◌}
use Rattle.counts.specs.declared.PacketNumber.{PacketNumber}
use Rattle.counts.specs.declared.WordNumber.{WordNumber}
use Rattle.counts.specs.declared.TextByteNumber.{TextByteNumber}

-- a number as a count of each kind
abbrev pub packet : ℕ → PacketNumber
packet n = record { 0 = n }

abbrev pub word : ℕ → WordNumber
word n = record { 0 = n }

abbrev pub byte : ℕ → TextByteNumber
byte n = record { 0 = n }

-- the first word of a packet
abbrev pub first_word : PacketNumber → WordNumber
first_word p = word (p.0 * 4)

-- the number of whole packets in some words
abbrev pub whole_packets : WordNumber → PacketNumber
whole_packets w = packet (w.0 / 4)

-- the number of a byte in a text, by its packet and its number in that packet, where each packet holds `capacity` bytes
abbrev pub byte_of_text : ℕ → PacketNumber → TextByteNumber → TextByteNumber
byte_of_text capacity p b = byte (p.0 * capacity + b.0)

-- a word number as 64 bits hold it; no slice reaches a number that this changes
abbrev pub wrapped : WordNumber → WordNumber
wrapped w = word (w.0 % 2 ^ 64)
