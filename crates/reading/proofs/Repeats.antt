-- Refusal 8 by the code's rule. Closed by the one slot of a block name, and that a packet is not unlike itself.
use Prim.Native.Nat.{ℕ, ◌*◌, ◌≤◌, ◌<◌}
use mathlib.Core.Path.{◌≡◌, refl, sym, ap, ◌∙◌}
use mathlib.Core.Bool.{Bool, false}
use mathlib.Core.List.{List, [], ◌∷◌}
use native.Mathlib.Omega.{arith}
use native.Mathlib.Nat.{add-zero}
use lib.ListN.{get_or}
use lib.Seq.{get_or-drop}
use Rattle.laws.specs.Pick.{differ}
use Rattle.laws.specs.Bits.{field_of}
use Rattle.laws.proofs.Pick.{split, eq_differ, is_picked}
use Rattle.slots.specs.Slots.{Slot, get}
use Rattle.kinds.specs.declared.kind.Kind.{Kind}
use Rattle.kinds.specs.declared.kind.Kind.TheVariants as K
use Rattle.kinds.specs.Layout.{Part, layout, most_of, has_text}
use Rattle.standard.specs.Heads.{packets_of, packet_from, head_at}
use Rattle.standard.specs.Reading.{other_field, read_body}
use Rattle.standard.proofs.Rules.{ruled_kept}
use Rattle.reading.specs.Bodies.{offset_of, fields_read}
use Rattle.reading.proofs.TextRows.{fixed_most, late_name, text_fields}

-- a packet's first word
from_head : (ws : List ℕ) (p : ℕ) → get_or (packet_from ws p) 0 0 ≡ head_at ws p
from_head ws p = get_or-drop (p * 4) ws 0 0 ∙ ap (λ (i : ℕ). get_or ws i 0) (add-zero (p * 4))

-- a packet's block number is not that of packet 0
abbrev pub other_block : List ℕ → ℕ → Bool
other_block ws p = differ (field_of (head_at ws p) 8 8) (field_of (head_at ws 0) 8 8)

block_rule : (ws : List ℕ) (p : ℕ) → other_block ws p ≡ other_field (layout K.FunctionBlockName).fields ws p
unfolding other_field layout get
block_rule ws p = rw (from_head ws p) (is_picked _)

pub late_rule : (k : Kind) (ws : List ℕ) → 0 < offset_of k → (p : ℕ) → other_block ws p ≡ other_field (layout k).fields ws p
late_rule k ws h p = block_rule ws p ∙ ap (λ (j : Kind). other_field (layout j).fields ws p) (sym (late_name k h))

-- packet 0 is not unlike itself
same-packet : (t : List (Slot Part)) (ws : List ℕ) → other_field t ws 0 ≡ false
unfolding other_field
same-packet [] ws = refl
same-packet (s ∷ ss) ws = rw (eq_differ (get s (packet_from ws 0)) (get s (packet_from ws 0)) refl) (same-packet ss ws)

one_packet : (k : Kind) (ws : List ℕ) → packets_of ws ≤ 1 → read_body k ws ≡ fields_read k ws
unfolding fields_read
one_packet k ws h = ruled_kept _ _ _ _ (λ p l. let e : p ≡ 0 = omega arith in rw e (same-packet (layout k).fields ws)) refl

-- fields in one packet, or none
pub none_late : (k : Kind) (ws : List ℕ) → offset_of k ≤ 0 → packets_of ws ≤ most_of k → read_body k ws ≡ fields_read k ws
unfolding fields_read other_field
none_late k ws h m = split (has_text (layout k).body)
    (λ t. rw (text_fields k h t) (ruled_kept _ _ _ _ (λ p l. refl) refl))
    (λ t. one_packet k ws (rw (fixed_most (layout k).body t) at m))
