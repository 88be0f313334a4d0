-- Good values of a message, which every setting preserves: its numbers fit, its text is UTF-8 and has room, its port and direction are valid.
use Rattle.std.specs.Prelude.{ℕ, ◌≤◌, ◌≡◌, true, ◌≢◌, List, [], length, get_or}
use Rattle.slots.specs.Slots.{Slot, fits}
use Rattle.utf8.specs.Utf8.{Valid}
use Rattle.text.specs.Octets.{needed}
use Rattle.kinds.specs.declared.kind.Kind.{Kind}
use Rattle.kinds.specs.Choices.{no_port, no_direction}
use Rattle.kinds.specs.Fields.{Field}
use Rattle.kinds.specs.Layout.{Part, Body, fixed, texts, layout, capacity_in, most_in, parts}

-- the text among the values; empty for a fixed kind
abbrev pub text_for : Body → (Field → List ℕ) → List ℕ
text_for fixed v = []
text_for (texts t from) v = v (Field.text t)

-- the packets of a message with these values; one for a fixed kind
abbrev pub packets_for : Body → (Field → List ℕ) → ℕ
packets_for b v = needed (capacity_in b) (length (text_for b v))

-- values are good for a body and a table, in at most `room` packets
pub record GoodValuesIn (b : Body) (t : List (Slot Part)) (room : ℕ) (v : Field → List ℕ) : Type 0 where
  pub numbers : fits t (parts v) ≡ true
  pub valid : Valid (text_for b v)
  pub most : packets_for b v ≤ most_in b
  pub inside : packets_for b v ≤ room
  pub port : get_or (v Field.midi1_port) 0 0 ≢ no_port
  pub direction : get_or (v Field.direction) 0 0 ≢ no_direction

-- values for a message of kind k in at most `room` packets
abbrev pub GoodValues : Kind → ℕ → (Field → List ℕ) → Type 0
GoodValues k room v = GoodValuesIn (layout k).body (layout k).fields room v
