-- A setting of text, or of a number in each head, is the definition's by the row of the table. Closed by the target's two laws; a row's facts are computed.
use Rattle.std.specs.Prelude.{Result, Ok, Err}
use Prim.Native.Nat.{ℕ, ◌+◌, ◌*◌, ◌^◌, ◌<◌, ◌≤◌}
use mathlib.Core.Path.{◌≡◌, refl, sym, ap, ◌∙◌, fun_ext}
use mathlib.Core.Bool.{Bool, true, false}
use mathlib.Core.List.{List, [], ◌∷◌}
use native.Mathlib.Omega.{arith}
use lib.ListN.{length}
use lib.Dec.{ltb}
use borrow.Author.Tests.{ltb-true, ltb-false, leb-true}
use Rattle.laws.specs.Pick.{pick, both}
use Rattle.laws.specs.Bits.{put_field}
use Rattle.laws.proofs.Pick.{true_false, split, both_left, both_alone}
use Rattle.slots.specs.Slots.{Slot, put, put_all, fits, those, bits_within}
use Rattle.utf8.specs.Utf8.{first_bad}
use Rattle.text.specs.Octets.{needed}
use Rattle.text.specs.Written.{each_first}
use Rattle.kinds.specs.declared.kind.Kind.{Kind}
use Rattle.kinds.specs.declared.refusal.Refusal.TheVariants.{TooManyPackets, NotUtf8, NoRoom}
use Rattle.kinds.specs.declared.kind.Kind.TheVariants as K
use Rattle.kinds.specs.Fields.{Number, Text, Field, Setting, field_in, same, decided}
use Rattle.kinds.specs.Layout.{Part, Row, Body, fixed, texts, layout, capacity_in, capacity_of, has_text, is_text, slots_of, values_in, numbers_set}
use Rattle.kinds.proofs.Rows.{every_kind}
use Rattle.standard.specs.Heads.{packets_of}
use Rattle.standard.specs.Reading.{is_bad}
use Rattle.standard.specs.Walk.{walk_of}
use Rattle.standard.specs.Words.{outcome, answer_to, act_in, put_word, head_of, text_written, set_on}
use Rattle.fields.specs.Puts.{put_each}
use Rattle.buffer.specs.Acts.{formatted, fill_text}
use Rattle.fields.proofs.Puts.{each_put_lem}
use Rattle.buffer.proofs.Turns.{text_filled}
use Rattle.table.specs.Places.{slot_at}
use Rattle.reading.specs.Bodies.{offset_of}
use Rattle.reading.proofs.TextRows.{text_capacity, offset_few}
use Rattle.settings.specs.Target.{target_of, settled}
use Rattle.settings.proofs.Owned.{owned_by, own_has, Own, set-refused, set_own_lem}
use Rattle.settings.proofs.Slots.{facts, plain, is_own, is_narrow, are_slots, answer_is, one}
use Rattle.text_settings.proofs.Heads.{plain_head, block-heads}
use Rattle.text_settings.specs.Texts.{block_head, room_of, plan_of, carried, text_on, each_put, each_on}
use Rattle.kinds.specs.declared.refusal.Refusal.{Refusal}
use Rattle.counts.specs.declared.PacketNumber.{PacketNumber}

-- ---- what the table says of a text and a kind, computed
pub record Facts : Type 0 where
  pub own : Bool
  pub is : Bool
  pub has : Bool
  pub slots : List (Slot Part)

unfoldable pub text_facts : Kind → Text → List ℕ → Facts
unfolding layout those same decided both every_kind owned_by
text_facts k t bytes =
    record { own = owned_by k (Setting.text t bytes); is = is_text (Field.text t) (layout k).body; has = has_text (layout k).body; slots = slots_of (Field.text t) (layout k).fields }

-- a text of this kind alone, in no slot
abbrev pub textual : Facts
textual = record { own = true; is = true; has = true; slots = [] }

-- refusals 11, 3 and 14
abbrev text_answer : ℕ → List ℕ → ℕ → Result (Unit {0}) Refusal
text_answer cap bytes room =
    pick (is_bad (first_bad bytes)) (Err NotUtf8)
    (pick (ltb 64 (needed cap (length bytes))) (Err TooManyPackets)
    (pick (ltb room (needed cap (length bytes))) (Err NoRoom)
    (Ok tt)))

text_acts : (b : Body) (r : Row) (t : Text) (n : ℕ) (bytes ws : List ℕ) → is_text (Field.text t) b ≡ true → act_in b r n (Setting.text t bytes) ws ≡ text_written r (capacity_in b) (values_in r.fields ws) bytes ws
unfolding act_in
text_acts fixed r t n bytes ws i = true_false (sym i)
text_acts (texts u from) r t n bytes ws i = rw i

-- ---- SETTING TEXT
module _ (k : Kind) (t : Text) (head : ℕ) (bytes ws : List ℕ) (f : text_facts k t bytes ≡ textual) (h : (format : ℕ) → head_of (layout k) (values_in (layout k).fields ws) format ≡ formatted head format) where
  owned : owned_by k (Setting.text t bytes) ≡ true
  unfolding text_facts
  owned = ap (λ (x : Facts). x.own) f

  text_answer_lem : (room : ℕ) → answer_to (layout k) room (Setting.text t bytes) ≡ text_answer (capacity_of k) bytes room
  unfolding answer_to fits text_facts
  text_answer_lem room =
      let s : slots_of (Field.text t) (layout k).fields ≡ [] = ap (λ (x : Facts). x.slots) f in
      rw (own_has k (Setting.text t bytes) owned, s)

  text_act : (n : ℕ) → needed (capacity_of k) (length bytes) ≤ 64 → act_in (layout k).body (layout k) n (Setting.text t bytes) ws ≡ fill_text bytes (offset_of k) head (needed (capacity_of k) (length bytes)) ws
  unfolding text_facts
  text_act n l =
      text_acts (layout k).body (layout k) t n bytes ws (ap (λ (x : Facts). x.is) f)
      ∙ rw (fun_ext h, text_filled bytes (offset_of k) head (needed (capacity_of k) (length bytes)) ws (let s = offset_few k in omega arith) l, text_capacity k (ap (λ (x : Facts). x.has) f))

  own_text : (n : ℕ) → Own k n (Setting.text t bytes) ws → set_on (Setting.text t bytes) ws ≡ carried (plan_of bytes (capacity_of k) (packets_of ws)) (λ m. fill_text bytes (offset_of k) head m ws) ws
  unfolding plan_of room_of
  own_text n o =
      let a = text_answer_lem (packets_of ws) in
      o.set ∙ split (is_bad (first_bad bytes)) (λ x. rw (a, x))
      (λ x. split (ltb 64 (needed (capacity_of k) (length bytes))) (λ y. rw (a, x, y))
      (λ y. split (ltb (packets_of ws) (needed (capacity_of k) (length bytes))) (λ z. rw (a, x, y, z))
      (λ z. rw (a, x, y, z) (ap (outcome (Ok tt)) (text_act n (ltb-false 64 _ y))))))

  pub set_text : set_on (Setting.text t bytes) ws ≡ text_on k head bytes ws
  unfolding text_on
  set_text = go (target_of (layout k).status (walk_of ws 0)) refl
    where
      go : (x : (Result PacketNumber Refusal)) → target_of (layout k).status (walk_of ws 0) ≡ x → set_on (Setting.text t bytes) ws ≡ settled x (λ m. carried (plan_of bytes (capacity_of k) (packets_of ws)) (λ n. fill_text bytes (offset_of k) head n ws) ws) ws
      go (Err r) e = set-refused k (Setting.text t bytes) owned ws e
      go (Ok n) e = own_text n.0 (set_own_lem k (Setting.text t bytes) owned ws e)

-- ---- A NUMBER IN EACH HEAD
put_one : (s : Slot Part) (x : Part → ℕ) → s.word ≡ 0 → (w : ℕ) → put_word (s ∷ []) x w ≡ put_field w s.at s.span (x s.key)
unfolding put_word put_all put
put_one s x e w = rw e

narrow_one : (s : Slot Part) → bits_within 32 (s ∷ []) ≡ true → s.at + s.span ≤ 32
unfolding bits_within
narrow_one s e = leb-true _ _ (both_left _ _ e)

each_acts : (b : Body) (r : Row) (s : Setting) (n : ℕ) (ws : List ℕ) → has_text b ≡ true → is_text (field_in s) b ≡ false → act_in b r n s ws ≡ each_first n (put_word (slots_of (field_in s) r.fields) (numbers_set s)) ws
unfolding act_in
each_acts fixed r s n ws h i = true_false (sym h)
each_acts (texts t from) r s n ws h i = rw i

module _ (k : Kind) (s : Setting) (i : ℕ) (ws : List ℕ) (f : facts k s ≡ plain (layout k).body (one k i)) (first : (slot_at (layout k).fields i).word ≡ 0) (has : has_text (layout k).body ≡ true) (other : is_text (field_in s) (layout k).body ≡ false) where
  abbrev slot : Slot Part
  slot = slot_at (layout k).fields i

  -- the number that is set
  abbrev value : ℕ
  value = numbers_set s slot.key

  each_act : (n : ℕ) → n ≤ packets_of ws → value < 2 ^ slot.span → act_in (layout k).body (layout k) n s ws ≡ put_each n slot.at slot.span value ws
  each_act n l h =
      let w = narrow_one slot (is_narrow k s (layout k).body (one k i) f) in
      each_acts (layout k).body (layout k) s n ws has other
      ∙ rw (are_slots k s (layout k).body (one k i) f, fun_ext (put_one slot (numbers_set s) first)) (sym (each_put_lem n slot.at slot.span value ws l w h))

  own_each : (n : ℕ) → Own k n s ws → set_on s ws ≡ each_put n slot value ws
  unfolding fits
  own_each n o =
      let a = answer_is k s (layout k).body (one k i) f ws n o in
      o.set ∙ split (ltb value (2 ^ slot.span)) (λ x. rw (a, both_alone (ltb value (2 ^ slot.span)), x) (ap (outcome (Ok tt)) (each_act n o.most (ltb-true _ _ x)))) (λ x. rw (a, both_alone (ltb value (2 ^ slot.span)), x))

  pub set-each : set_on s ws ≡ each_on k i value ws
  unfolding each_on
  set-each = go (target_of (layout k).status (walk_of ws 0)) refl
    where
      owner : owned_by k s ≡ true
      owner = is_own k s (layout k).body (one k i) f

      go : (x : (Result PacketNumber Refusal)) → target_of (layout k).status (walk_of ws 0) ≡ x → set_on s ws ≡ settled x (λ n. each_put n slot value ws) ws
      go (Err r) q = set-refused k s owner ws q
      go (Ok n) q = own_each n.0 (set_own_lem k s owner ws q)

-- the block number of a function block name
pub block_put : (n : ℕ) (ws : List ℕ) → set_on (Setting.number Number.function_block n) ws ≡ each_on K.FunctionBlockName 0 n ws
unfolding facts
block_put n ws = set-each K.FunctionBlockName _ 0 ws refl refl refl refl

-- ---- the three texts, with the heads that the code has
module _ (bytes ws : List ℕ) where
  pub name_put : set_on (Setting.text Text.endpoint_name bytes) ws ≡ text_on K.EndpointName (0xF000_0000 + (layout K.EndpointName).status * 0x1_0000) bytes ws
  unfolding text_facts
  name_put = set_text K.EndpointName _ _ bytes ws refl (plain_head K.EndpointName _ refl)

  pub id_put : set_on (Setting.text Text.product_instance_id bytes) ws ≡ text_on K.ProductInstanceId (0xF000_0000 + (layout K.ProductInstanceId).status * 0x1_0000) bytes ws
  unfolding text_facts
  id_put = set_text K.ProductInstanceId _ _ bytes ws refl (plain_head K.ProductInstanceId _ refl)

  pub block_name_put : set_on (Setting.text Text.function_block_name bytes) ws ≡ text_on K.FunctionBlockName (block_head ws) bytes ws
  unfolding text_facts
  block_name_put = set_text K.FunctionBlockName _ _ bytes ws refl (block-heads ws)
