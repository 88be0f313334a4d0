-- Whether a message is well formed depends on its own words only, not on those after it. From the laws of `take`.
use Prim.Native.Nat.{ℕ, zero, suc, ◌+◌, ◌-◌, ◌*◌, ◌/◌, ◌%◌, ◌≤◌, ◌<◌}
use mathlib.Core.Path.{◌≡◌, sym, ap, ◌∙◌}
use mathlib.Core.Bool.{true}
use mathlib.Core.List.{List}
use native.Mathlib.Omega.{arith}
use native.Mathlib.Nat.{mod-lt, div-lt_iff_lt-mul}
use lib.ListN.{length, get_or, take}
use lib.Seq.{get_or-take, get_or-drop, length-take-le}
use Rattle.laws.specs.Lists.{tabulate, nonzero}
use Rattle.laws.proofs.Lists.{length-tabulate, get_or-tabulate, tabulate_ext}
use Rattle.slots.specs.Slots.{words_below, reads}
use Rattle.utf8.specs.Utf8.{Valid}
use Rattle.text.specs.Octets.{octet_of, due_format}
use Rattle.text.specs.Bytes.{text_byte, all_bytes, text_of}
use Rattle.kinds.specs.Layout.{layout, capacity_of, most_of, parts}
use Rattle.records.specs.declared.message.Message.{Message}
use Rattle.records.specs.Records.{kind_in, packets_in, values_of}
use Rattle.standard.specs.Heads.{type_of, format_of, status_of, stream_type, packet_from, head_at}
use Rattle.standard.specs.Formed.{Formed}
use Rattle.slots.proofs.Tables.{reads_words}

module _ (ws : List ℕ) (n : ℕ) (room : n * 4 ≤ length ws) where
  front_head : (p : ℕ) → p < n → head_at (take (n * 4) ws) p ≡ head_at ws p
  front_head p h = get_or-take (n * 4) ws (p * 4) 0 (omega arith)

  front_word : (p : ℕ) → p < n → (i : ℕ) → i < 4 → get_or (packet_from ws p) i 0 ≡ get_or (packet_from (take (n * 4) ws) p) i 0
  front_word p h i l = get_or-drop (p * 4) ws i 0 ∙ sym (get_or-drop (p * 4) (take (n * 4) ws) i 0 ∙ get_or-take (n * 4) ws (p * 4 + i) 0 (omega arith))

  -- the text of n packets depends on their words only
  module _ (cap : ℕ) (small : cap ≤ 16) where
    front_byte : (p b : ℕ) → p < n → b < cap → text_byte (take (n * 4) ws) cap p b ≡ text_byte ws cap p b
    unfolding text_byte
    front_byte p b hp hb = ap (λ (w : ℕ). octet_of w ((16 - cap + b) % 4)) (get_or-take (n * 4) ws (p * 4 + (16 - cap + b) / 4) 0 (omega arith))

    front_bytes : (pos : 0 < cap) → all_bytes (take (n * 4) ws) cap n ≡ all_bytes ws cap n
    unfolding all_bytes
    front_bytes pos =
        tabulate_ext (tabulate (n * cap) (λ m. text_byte (take (n * 4) ws) cap (m / cap) (m % cap))) (n * cap) (λ m. text_byte ws cap (m / cap) (m % cap)) (length-tabulate _ _)
        (λ m h. get_or-tabulate (n * cap) (λ i. text_byte (take (n * 4) ws) cap (i / cap) (i % cap)) m h ∙ front_byte (m / cap) (m % cap) ((div-lt_iff_lt-mul pos).1 h) (mod-lt m pos))

  no_bytes : (xs : List ℕ) → all_bytes xs 0 n ≡ tabulate 0 (λ m. 0)
  unfolding all_bytes tabulate
  no_bytes xs = let z : n * 0 ≡ 0 = omega arith in rw z

  front_text : (cap : ℕ) → cap ≤ 16 → text_of (take (n * 4) ws) cap n ≡ text_of ws cap n
  front_text zero h = ap nonzero (no_bytes (take (n * 4) ws) ∙ sym (no_bytes ws))
  front_text (suc cap) h = ap nonzero (front_bytes (suc cap) h (omega arith))

-- a slice that starts with the message m: well formed as far as the message goes
pub record Starts (m : Message) (t ws : List ℕ) : Type 0 where
  pub some : 1 ≤ packets_in m
  pub most : packets_in m ≤ most_of (kind_in m)
  pub room : packets_in m * 4 ≤ length ws
  pub type : (p : ℕ) → p < packets_in m → type_of (head_at ws p) ≡ stream_type
  pub format : (p : ℕ) → p < packets_in m → format_of (head_at ws p) ≡ due_format (packets_in m) p
  pub status : (p : ℕ) → p < packets_in m → status_of (head_at ws p) ≡ (layout (kind_in m)).status
  pub fields : (p : ℕ) → p < packets_in m → reads (layout (kind_in m)).fields (parts (values_of m)) (packet_from ws p)
  pub text : text_of ws (capacity_of (kind_in m)) (packets_in m) ≡ t
  pub valid : Valid t

pub starts_formed : (m : Message) (t ws : List ℕ) → words_below 4 (layout (kind_in m)).fields ≡ true → capacity_of (kind_in m) ≤ 16 → Starts m t ws → Formed m t (take (packets_in m * 4) ws)
starts_formed m t ws lo small s =
    let n = packets_in m in
    record {
      some = s.some;
      most = s.most;
      words = length-take-le (n * 4) ws s.room;
      type = λ p h. ap type_of (front_head ws n s.room p h) ∙ s.type p h;
      format = λ p h. ap format_of (front_head ws n s.room p h) ∙ s.format p h;
      status = λ p h. ap status_of (front_head ws n s.room p h) ∙ s.status p h;
      fields = λ p h. reads_words 4 _ _ (packet_from ws p) (packet_from (take (n * 4) ws) p) lo (front_word ws n s.room p h) (s.fields p h);
      text = front_text ws n s.room (capacity_of (kind_in m)) small ∙ s.text;
      valid = s.valid;
    }
