-- The search for a packet: its turns and its end, and what it finds as a rule over all packets. From the laws of the first number that passes a test.
use Rattle.std.specs.Prelude.{Option, Some, None, Result, Ok, Err}
use Prim.Native.Nat.{ℕ, ◌+◌, ◌-◌, ◌^◌, ◌≤◌, ◌<◌}
use mathlib.Core.Path.{◌≡◌, refl, sym, ap, ◌∙◌}
use mathlib.Core.Bool.{Bool, true, false}
use mathlib.Core.List.{List}
use native.Mathlib.Omega.{arith}
use lib.ListN.{length}
use lib.Dec.{ltb}
use borrow.Author.Tests.{lt-ltb, le-ltb, ltb-true, ltb-false}
use Rattle.laws.specs.First.{first, first_from}
use Rattle.laws.proofs.First.{first_turn, first_hit, first_end}
use Rattle.laws.proofs.Pick.{here, past, split}
use Rattle.counts.specs.Counts.{packet, word, first_word, whole_packets, wrapped}
use Rattle.counts.specs.declared.WordNumber.{WordNumber}
use Rattle.counts.specs.declared.PacketNumber.{PacketNumber}
use Rattle.text.specs.Heads.{head_in}
use Rattle.text.proofs.Heads.{head_in_lem}
use Rattle.kinds.specs.declared.refusal.Refusal.{Refusal}
use Rattle.kinds.specs.declared.refusal.Refusal.TheVariants.{TooFewWords}
use Rattle.records.specs.declared.message.Message.{Message}
use Rattle.standard.specs.Heads.{packets_of}
use Rattle.standard.specs.Packet.{ends_message, message_size}
use Rattle.standard.specs.Reading.{ruled}
use Rattle.standard.proofs.Rules.{ruled_here, ruled_past}
use Rattle.reading.specs.Rules.{Tells, first_packet}

-- ---- a turn at packet p, and the end
module _ (answers : ℕ → PacketNumber → Bool → Type 0) (ws : List ℕ) (t : ℕ → Bool) (tells : Tells answers ws t) {n : PacketNumber} (are : n ≡ whole_packets (word (length ws))) (p : ℕ) (so_far : first_from t (packets_of ws - p) p ≡ first t (packets_of ws)) where
  module _ (more : p < n.0) {w : ℕ} {b : Bool} (head : w ≡ head_in ws (packet p)) (answer : answers w (packet p) b) where
    room : p < packets_of ws
    room = rw are at more

    told : t p ≡ b
    told = sym (tells p b room (rw (head, head_in_lem ws (packet p) room) at answer))

    pub found_here : b ≡ true → Some (packet p) ≡ first_packet t (packets_of ws)
    unfolding first_packet
    found_here e = rw (← (first_hit t (packets_of ws) p room (told ∙ e) ∙ so_far)) (here _ (lt-ltb _ _ room) refl)

    pub not_here : b ≡ false → first_from t (packets_of ws - (p + 1)) (p + 1) ≡ first t (packets_of ws)
    not_here e = first_turn t (packets_of ws) p room (told ∙ e) ∙ so_far

  pub nowhere : n.0 ≤ p → None ≡ first_packet t (packets_of ws)
  unfolding first_packet
  nowhere over =
      let h : packets_of ws ≤ p = rw are at over in
      rw (← (first_end t (packets_of ws) p h ∙ so_far)) (past _ (le-ltb _ _ h) refl)

-- ---- what it found
module _ (t : ℕ → Bool) (n : ℕ) where
  pub found_is : {p : PacketNumber} → Some p ≡ first_packet t n → (p ≡ packet (first t n)) × (p.0 < n)
  unfolding first_packet
  found_is {p} e = split (ltb (first t n) n)
      (λ u. let q : Some p ≡ Some (packet (first t n)) = rw u at e in let s : p ≡ packet (first t n) = cc in (s, rw s (ltb-true _ _ u)))
      (λ u. let q : Some p ≡ None = rw u at e in absurd (cc))

  pub none_is : ◌≡◌ {A = Option PacketNumber} None (first_packet t n) → n ≤ first t n
  unfolding first_packet
  none_is e = split (ltb (first t n) n)
      (λ u. let q : None ≡ Some (packet (first t n)) = rw u at e in absurd (cc))
      (λ u. ltb-false _ _ u)

-- ---- a rule over all packets, by the search for one that breaks it
module _ (broken : ℕ → Bool) (n : ℕ) (why : PacketNumber → Refusal) (rest : Result Message Refusal) where
  pub ruled_found : {p : PacketNumber} → Some p ≡ first_packet broken n → Err (why p) ≡ ruled broken n why rest
  ruled_found e = let f = found_is broken n e in ruled_here broken n why rest _ (ap (λ (x : PacketNumber). x.0) f.0) f.1

  pub ruled_none : {z : Result Message Refusal} → ◌≡◌ {A = Option PacketNumber} None (first_packet broken n) → z ≡ rest → z ≡ ruled broken n why rest
  ruled_none e q = ruled_past broken n why rest _ refl (none_is broken n e) q

-- ---- the words up to the first packet that ends a message
module _ (ws : List ℕ) where
  pub size_room : {p : PacketNumber} → Some p ≡ first_packet (ends_message ws) (packets_of ws) → p.0 < packets_of ws
  size_room e = (found_is (ends_message ws) (packets_of ws) e).1

  pub size_found : {p : PacketNumber} {k : WordNumber} → Some p ≡ first_packet (ends_message ws) (packets_of ws) → k ≡ wrapped (first_word (packet (p.0 + 1))) → length ws < 2 ^ 64 → Ok k ≡ message_size ws
  unfolding message_size
  size_found {p} {k} e q l =
      let f = found_is (ends_message ws) (packets_of ws) e in
      let i = ap (λ (x : PacketNumber). x.0) f.0 in
      let r : k ≡ first_word (packet (first (ends_message ws) (packets_of ws) + 1)) = q ∙ ap word (omega (arith, f.1, i)) in
      rw r (here _ (lt-ltb _ _ (rw i at f.1)) refl)

  pub size_none : ◌≡◌ {A = Option PacketNumber} None (first_packet (ends_message ws) (packets_of ws)) → Err TooFewWords ≡ message_size ws
  unfolding message_size
  size_none e = past _ (le-ltb _ _ (none_is (ends_message ws) (packets_of ws) e)) refl
