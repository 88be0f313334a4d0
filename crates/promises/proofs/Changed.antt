-- Good values stay good under an accepted setting. From what is known of an accepted setting.
use Prim.Native.Nat.{ℕ, ◌≤◌}
use mathlib.Core.Path.{sym, ap, ◌∙◌}
use mathlib.Core.List.{List}
use lib.ListN.{length}
use Rattle.slots.specs.Slots.{Slot, fits}
use Rattle.slots.proofs.Slots.{fits-those}
use Rattle.utf8.specs.Utf8.{Valid, empty}
use Rattle.text.specs.Octets.{needed}
use Rattle.kinds.specs.Fields.{Field, Setting, same, field_in, value_in}
use Rattle.kinds.specs.Layout.{Part, Body, fixed, texts, capacity_in, most_in, parts, numbers_set}
use Rattle.records.specs.Settings.{with}
use Rattle.records.proofs.With.{parts-with, text_with, port_kept, direction_kept}
use Rattle.standard.proofs.Accepted.{Accepted}
use Rattle.promises.specs.Good.{text_for, packets_for, GoodValuesIn}

-- GOOD VALUES stay good under any accepted setting
pub good_with : (b : Body) (t : List (Slot Part)) (room : ℕ) (v : Field → List ℕ) (s : Setting) → GoodValuesIn b t room v → Accepted b t room s → GoodValuesIn b t room (with (field_in s) (value_in s) v)
good_with b t room v s g a =
    record {
      numbers = ap (fits t) (sym (parts-with (field_in s) (value_in s) v)) ∙ fits-those (λ p. same p.field (field_in s)) (numbers_set s) (parts v) t a.numbers g.numbers;
      valid = (text b g a).0;
      most = (text b g a).1;
      inside = (text b g a).2;
      port = port_kept s v g.port;
      direction = direction_kept s v g.direction;
    }
  where
    text : (b : Body) → GoodValuesIn b t room v → Accepted b t room s → Valid (text_for b (with (field_in s) (value_in s) v)) × (packets_for b (with (field_in s) (value_in s) v) ≤ most_in b) × (packets_for b (with (field_in s) (value_in s) v) ≤ room)
    text fixed g a = (empty, g.most, g.inside)
    text (texts x from) g a =
        text_with (λ (l : List ℕ). Valid l × (needed (capacity_in (texts x from)) (length l) ≤ 64) × (needed (capacity_in (texts x from)) (length l) ≤ room)) x s v
        (a.valid, a.most, a.inside) (g.valid, g.most, g.inside)
