-- A WELL-FORMED MESSAGE, without any order of checks: its words, given the record and the text. Bits in no field are free.
use Rattle.std.specs.Prelude.{ℕ, ◌*◌, ◌≤◌, ◌<◌, ◌≡◌, List, length}
use Rattle.slots.specs.Slots.{reads}
use Rattle.utf8.specs.Utf8.{Valid}
use Rattle.text.specs.Octets.{due_format}
use Rattle.text.specs.Bytes.{text_of}
use Rattle.records.specs.declared.message.Message.{Message}
use Rattle.kinds.specs.Layout.{layout, capacity_of, most_of, parts}
use Rattle.records.specs.Records.{kind_in, packets_in, values_of}
use Rattle.standard.specs.Heads.{type_of, format_of, status_of, stream_type, packet_from, head_at}

-- the words are the message m with the text t
pub record Formed (m : Message) (t ws : List ℕ) : Type 0 where
  -- whole packets: as many as the record says, and no more than its kind may have
  pub some : 1 ≤ packets_in m
  pub most : packets_in m ≤ most_of (kind_in m)
  pub words : length ws ≡ packets_in m * 4
  -- the head of each packet
  pub type : (p : ℕ) → p < packets_in m → type_of (head_at ws p) ≡ stream_type
  pub format : (p : ℕ) → p < packets_in m → format_of (head_at ws p) ≡ due_format (packets_in m) p
  pub status : (p : ℕ) → p < packets_in m → status_of (head_at ws p) ≡ (layout (kind_in m)).status
  -- in each packet each slot holds its part of the record's value
  pub fields : (p : ℕ) → p < packets_in m → reads (layout (kind_in m)).fields (parts (values_of m)) (packet_from ws p)
  -- the text, and that it is UTF-8
  pub text : text_of ws (capacity_of (kind_in m)) (packets_in m) ≡ t
  pub valid : Valid t
