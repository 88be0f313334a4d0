-- A row in code, and what THE TABLE says of it.
use Rattle.std.specs.Prelude.{ℕ, ◌+◌, ◌-◌, ◌≡◌, List, [], ◌∷◌, length, get_or, eqb}
use Rattle.laws.specs.Pick.{pick}
use Rattle.slots.specs.Slots.{Slot, put_all}
use Rattle.kinds.specs.declared.kind.Kind.{Kind}
use Rattle.kinds.specs.Fields.{start}
use Rattle.kinds.specs.Layout.{Part, Body, fixed, texts, layout, kinds, most_of, parts}
use Rattle.table.specs.declared.rows.Row.{Row}

abbrev pub fixed_row : ℕ → ℕ → ℕ → ℕ → Row
fixed_row status first slots start =
    record { status = status; most_packets = 1; text_offset = 0; first_slot = first; slots = slots; start = start }

abbrev pub text_row : ℕ → ℕ → ℕ → ℕ → Row
text_row status first slots offset =
    record { status = status; most_packets = 64; text_offset = offset; first_slot = first; slots = slots; start = 0 }

-- equal, number by number
pub record RowIs (a r : Row) : Type 0 where
  pub status : r.status ≡ a.status
  pub most : r.most_packets ≡ a.most_packets
  pub offset : r.text_offset ≡ a.text_offset
  pub first : r.first_slot ≡ a.first_slot
  pub slots : r.slots ≡ a.slots
  pub start : r.start ≡ a.start

-- ---- what THE TABLE says of a row
-- octets between octet 2 and the text; 0 without text
abbrev pub offset_in : Body → ℕ
offset_in fixed = 0
offset_in (texts t from) = from - 2

-- the field bits of a fresh first word
abbrev pub start_bits : List (Slot Part) → ℕ
start_bits t = get_or (put_all t (parts start) (0 ∷ 0 ∷ 0 ∷ 0 ∷ [])) 0 0

-- how many slots the kinds before one have
unfoldable pub slots_before : List Kind → Kind → ℕ
slots_before [] k = 0
slots_before (j ∷ js) k =
    pick (eqb (layout k).status (layout j).status) 0 (length (layout j).fields + slots_before js k)

abbrev pub table_row : Kind → Row
table_row k =
    record {
      status = (layout k).status;
      most_packets = most_of k;
      text_offset = offset_in (layout k).body;
      first_slot = slots_before kinds k;
      slots = length (layout k).fields;
      start = start_bits (layout k).fields;
    }
