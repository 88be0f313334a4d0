-- What a setting of a fixed kind leaves, and which slots the table gives it. Closed by the target's two laws; the table is computed.
use Rattle.std.specs.Prelude.{Result, Ok, Err}
use Prim.Native.Nat.{ℕ, ◌^◌, ◌≤◌}
use mathlib.Core.Path.{◌≡◌, refl, sym, ap, ◌∙◌}
use mathlib.Core.Bool.{Bool, true, false, not}
use mathlib.Core.List.{List, [], ◌∷◌}
use native.Mathlib.Omega.{arith}
use lib.Dec.{ltb}
use borrow.Author.Tests.{le-ltb}
use Rattle.laws.specs.Pick.{pick, both}
use Rattle.laws.proofs.Pick.{split, both_alone}
use Rattle.slots.specs.Slots.{Slot, fits, those, bits_within}
use Rattle.counts.specs.declared.PacketNumber.{PacketNumber}
use Rattle.utf8.specs.Utf8.{first_bad}
use Rattle.text.specs.Octets.{needed}
use Rattle.kinds.specs.declared.kind.Kind.{Kind}
use Rattle.kinds.specs.declared.refusal.Refusal.{Refusal}
use Rattle.kinds.specs.declared.refusal.Refusal.TheVariants.{NumberTooLarge}
use Rattle.kinds.specs.Fields.{Setting, field_in, text_in, part_of, same, decided}
use Rattle.kinds.specs.Layout.{Part, Row, Body, fixed, layout, slots_of, numbers_set}
use Rattle.kinds.proofs.Rows.{every_kind}
use Rattle.records.specs.Settings.{is_too_large}
use Rattle.standard.specs.Heads.{packets_of}
use Rattle.standard.specs.Walk.{walk_of}
use Rattle.standard.specs.Words.{outcome, missing, answer_to, act_in, set_on}
use Rattle.fields.specs.Puts.{put_ins}
use Rattle.table.specs.Places.{slot_at}
use Rattle.table.specs.Named.{HomeIs}
use Rattle.numbers.specs.BySlot.{fit_from, put_from}
use Rattle.fields.proofs.Puts.{ins_put}
use Rattle.table.specs.declared.names.Home.{Home}
use Rattle.settings.specs.Target.{target_of, settled}
use Rattle.settings.specs.Fixed.{fitted, place_on, home_on, slot_on, slots_on}
use Rattle.settings.proofs.Owned.{owned_by, own_has, Own, set-refused, set_own_lem}

-- by the home that the code was given for a slot
pub home_told : {k : Kind} {i : ℕ} (v : ℕ) (ws : List ℕ) {h : Home} → HomeIs k i h → slot_on k i v ws ≡ home_on h v ws
unfolding slot_on
home_told v ws h = rw (h.kind, h.place.word, h.place.low, h.place.width)

-- ---- what the table says of a setting and a kind, computed
pub record Facts : Type 0 where
  pub own : Bool
  pub narrow : Bool
  pub body : Body
  pub slots : List (Slot Part)
  pub text : List ℕ

unfoldable pub facts : Kind → Setting → Facts
unfolding layout those same decided part_of both every_kind owned_by bits_within
facts k s =
    record { own = owned_by k s; narrow = bits_within 32 (slots_of (field_in s) (layout k).fields); body = (layout k).body; slots = slots_of (field_in s) (layout k).fields; text = text_in s }

-- a field of this kind alone, without text, in these slots
abbrev pub plain : Body → List (Slot Part) → Facts
plain b t = record { own = true; narrow = true; body = b; slots = t; text = [] }

-- refusals 11, 3 and 14 cannot come where no text is set
plain_answer : (r : Row) (room : ℕ) (s : Setting) → missing r s ≡ false → text_in s ≡ [] → 1 ≤ room → answer_to r room s ≡ pick (is_too_large r.fields s) (Err NumberTooLarge) (Ok tt)
unfolding answer_to needed first_bad
plain_answer r room s m t h = rw (m, t, le-ltb room 1 h)

module _ (k : Kind) (s : Setting) (b : Body) (t : List (Slot Part)) (f : facts k s ≡ plain b t) where
  pub is_own : owned_by k s ≡ true
  unfolding facts
  is_own = ap (λ (x : Facts). x.own) f

  pub is_narrow : bits_within 32 t ≡ true
  unfolding facts
  is_narrow = ap (bits_within 32) (sym (ap (λ (x : Facts). x.slots) f)) ∙ ap (λ (x : Facts). x.narrow) f

  pub is_body : (layout k).body ≡ b
  unfolding facts
  is_body = ap (λ (x : Facts). x.body) f

  pub are_slots : slots_of (field_in s) (layout k).fields ≡ t
  unfolding facts
  are_slots = ap (λ (x : Facts). x.slots) f

  no_text : text_in s ≡ []
  unfolding facts
  no_text = ap (λ (x : Facts). x.text) f

  pub answer_is : (ws : List ℕ) (n : ℕ) → Own k n s ws → answer_to (layout k) (packets_of ws) s ≡ pick (not (fits t (numbers_set s))) (Err NumberTooLarge) (Ok tt)
  answer_is ws n o =
      plain_answer (layout k) (packets_of ws) s (own_has k s is_own) no_text (omega (arith, o.some, o.most)) ∙ ap (λ (x : List (Slot Part)). pick (not (fits x (numbers_set s))) (Err NumberTooLarge) (Ok tt)) are_slots

-- ---- such a setting of a fixed kind: refused by its target, or for a number, or the numbers are put into its slots
module _ (k : Kind) (s : Setting) (t : List (Slot Part)) (f : facts k s ≡ plain fixed t) (ws : List ℕ) where
  own_fixed : (n : ℕ) → Own k n s ws → set_on s ws ≡ fitted (fits t (numbers_set s)) (put_ins t (numbers_set s) ws) ws
  unfolding act_in
  own_fixed n o =
      o.set ∙ split (fits t (numbers_set s))
      (λ e. rw (answer_is k s fixed t f ws n o, e, is_body k s fixed t f, are_slots k s fixed t f) (ap (outcome (Ok tt)) (sym (ins_put t _ ws (is_narrow k s fixed t f) e))))
      (λ e. rw (answer_is k s fixed t f ws n o, e))

  set_fixed : (x : (Result PacketNumber Refusal)) → target_of (layout k).status (walk_of ws 0) ≡ x → set_on s ws ≡ settled x (λ n. fitted (fits t (numbers_set s)) (put_ins t (numbers_set s) ws) ws) ws
  set_fixed (Err r) e = set-refused k s (is_own k s fixed t f) ws e
  set_fixed (Ok n) e = own_fixed n.0 (set_own_lem k s (is_own k s fixed t f) ws e)

  -- the numbers in the slots from slot i on
  pub set_slots : (i : ℕ) (xs : List ℕ) → fits t (numbers_set s) ≡ fit_from (layout k).fields i xs → put_ins t (numbers_set s) ws ≡ put_from (layout k).fields i xs ws → set_on s ws ≡ slots_on k i xs ws
  unfolding slots_on
  set_slots i xs a p = rw (← a, ← p) (set_fixed _ refl)

-- one number in one slot
abbrev pub one : Kind → ℕ → List (Slot Part)
one k i = slot_at (layout k).fields i ∷ []

pub set_slot : (k : Kind) (s : Setting) (i v : ℕ) → facts k s ≡ plain fixed (one k i) → numbers_set s (slot_at (layout k).fields i).key ≡ v → (ws : List ℕ) → set_on s ws ≡ slot_on k i v ws
unfolding slot_on place_on fits put_ins
set_slot k s i v f e ws = rw (← e, ← both_alone (ltb (numbers_set s (slot_at (layout k).fields i).key) (2 ^ (slot_at (layout k).fields i).span))) (set_fixed k s (one k i) f ws _ refl)
