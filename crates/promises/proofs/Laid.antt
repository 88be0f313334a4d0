-- The contents of the buffer of given values, packet by packet, and that it is a message of their record. From the fields of a head.
use Prim.Native.Nat.{ℕ, ◌*◌, ◌≤◌, ◌<◌}
use mathlib.Core.Path.{◌≡◌, subst}
use mathlib.Core.List.{List}
use native.Mathlib.Omega.{arith}
use lib.ListN.{length, take}
use Rattle.laws.specs.Bits.{field_of}
use Rattle.laws.specs.Lists.{nonzero}
use Rattle.slots.specs.Slots.{reads}
use Rattle.utf8.proofs.Zeros.{nonzero_valid}
use Rattle.text.specs.Octets.{due_format}
use Rattle.text.specs.Bytes.{text_of}
use Rattle.text.proofs.Needed.{due_format_small}
use Rattle.kinds.specs.declared.kind.Kind.{Kind}
use Rattle.kinds.specs.Fields.{Field}
use Rattle.kinds.specs.Layout.{Body, Row, layout, capacity_in, parts}
use Rattle.kinds.proofs.Rows.{status_small, row_low, capacity_16}
use Rattle.records.specs.Records.{kind_in, packets_in, record_of}
use Rattle.records.proofs.Records.{record_kind, record_packets}
use Rattle.standard.specs.Heads.{type_of, format_of, status_of, stream_type, head_word, packet_from, head_at}
use Rattle.standard.specs.Formed.{Formed}
use Rattle.standard.proofs.Fields.{values_held}
use Rattle.promises.specs.Good.{text_for, packets_for, GoodValues}
use Rattle.standard.proofs.Front.{Starts, starts_formed}

-- the sixteen high bits of a head
abbrev pub top_bits : ℕ → ℕ
top_bits w = field_of w 16 16

head_parts : (w st f : ℕ) → st < 0x400 → f < 4 → top_bits w ≡ top_bits (head_word st f) → (type_of w ≡ stream_type) × (format_of w ≡ f) × (status_of w ≡ st)
head_parts w st f hs hf e = (omega arith, omega arith, omega arith)

-- n packets of a row with these values
pub record Laid (b : Body) (r : Row) (n : ℕ) (v : Field → List ℕ) (ws : List ℕ) : Type 0 where
  pub some : 1 ≤ n
  pub room : n * 4 ≤ length ws
  pub heads : (p : ℕ) → p < n → top_bits (head_at ws p) ≡ top_bits (head_word r.status (due_format n p))
  pub fields : (p : ℕ) → p < n → reads r.fields (parts v) (packet_from ws p)
  pub text : text_of ws (capacity_in b) n ≡ nonzero (text_for b v)

-- ---- THE MESSAGE: its record, and its text without zeros
module _ (k : Kind) (room : ℕ) (v : Field → List ℕ) (ws : List ℕ) (g : GoodValues k room v) (l : Laid (layout k).body (layout k) (packets_for (layout k).body v) v ws) where
  abbrev count : ℕ
  count = packets_for (layout k).body v

  packets : packets_in (record_of k count v) ≡ count
  packets = record_packets k count v l.some g.most

  kind : kind_in (record_of k count v) ≡ k
  kind = record_kind k count v

  head_at_lem : (p : ℕ) → p < count → (type_of (head_at ws p) ≡ stream_type) × (format_of (head_at ws p) ≡ due_format count p) × (status_of (head_at ws p) ≡ (layout k).status)
  head_at_lem p h = head_parts (head_at ws p) (layout k).status (due_format count p) (status_small k) (due_format_small count p) (l.heads p h)

  below : (p : ℕ) → p < packets_in (record_of k count v) → p < count
  below p h = rw packets at h

  starts : Starts (record_of k count v) (nonzero (text_for (layout k).body v)) ws
  starts =
      record {
        some = rw packets l.some;
        most = rw (packets, kind) g.most;
        room = rw packets l.room;
        type = λ p h. (head_at_lem p (below p h)).0;
        format = λ p h. rw packets (head_at_lem p (below p h)).1;
        status = λ p h. rw kind (head_at_lem p (below p h)).2;
        fields = λ p h. rw kind (values_held v (packet_from ws p) k count (l.fields p (below p h)) g.port g.direction);
        text = rw (packets, kind) l.text;
        valid = nonzero_valid g.valid;
      }

  pub laid_formed : Formed (record_of k count v) (nonzero (text_for (layout k).body v)) (take (count * 4) ws)
  laid_formed =
      subst (λ (n : ℕ). Formed (record_of k count v) (nonzero (text_for (layout k).body v)) (take (n * 4) ws)) packets
      (starts_formed (record_of k count v) _ ws (rw kind (row_low k)) (rw kind (capacity_16 (layout k).body)) starts)
