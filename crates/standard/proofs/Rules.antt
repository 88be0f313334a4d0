-- Rules over all packets, and text that is not bad. From the laws of the first number that passes a test.
use Rattle.std.specs.Prelude.{Result, Ok, Err}
use Prim.Native.Nat.{ℕ, ◌≤◌, ◌<◌}
use mathlib.Core.Path.{◌≡◌, refl}
use mathlib.Core.Bool.{Bool, false}
use lib.Dec.{ltb}
use borrow.Author.Tests.{lt-ltb, le-ltb}
use Rattle.laws.specs.First.{first}
use Rattle.laws.proofs.Pick.{here, past, passed, true_false}
use Rattle.laws.proofs.First.{first-none, none_first}
use Rattle.counts.specs.Counts.{packet}
use Rattle.counts.specs.declared.PacketNumber.{PacketNumber}
use Rattle.kinds.specs.declared.refusal.Refusal.{Refusal}
use Rattle.records.specs.declared.message.Message.{Message}
use Rattle.records.proofs.Records.{refused-message}
use Rattle.standard.specs.Reading.{ruled, is_bad}
use Rattle.counts.specs.declared.TextByteNumber.{TextByteNumber}

-- none of n packets breaks the rule
abbrev pub Keeps : (ℕ → Bool) → ℕ → Type 0
Keeps broken n = (p : ℕ) → p < n → broken p ≡ false

module _ (broken : ℕ → Bool) (n : ℕ) (why : PacketNumber → Refusal) (rest : (Result Message Refusal)) where
  pub ruled-message : (m : Message) → ruled broken n why rest ≡ Ok m → Keeps broken n × (rest ≡ Ok m)
  unfolding ruled
  ruled-message m e =
      let q = passed (ltb (first broken n) n) (Err (why (packet (first broken n)))) rest (Ok m) refused-message e in
      (none_first broken n q.0, q.1)

  pub ruled_kept : {z : (Result Message Refusal)} → Keeps broken n → z ≡ rest → z ≡ ruled broken n why rest
  unfolding ruled
  ruled_kept h e = past _ (first-none broken n h) e

  -- the result of a search, in its two cases
  pub ruled_here : (p : PacketNumber) → p.0 ≡ first broken n → p.0 < n → Err (why p) ≡ ruled broken n why rest
  unfolding ruled
  ruled_here p e h = rw (← e) (here _ (lt-ltb _ _ h) refl)

  pub ruled_past : {z : (Result Message Refusal)} (p : ℕ) → p ≡ first broken n → n ≤ p → z ≡ rest → z ≡ ruled broken n why rest
  unfolding ruled
  ruled_past p e h q = rw (← e) (past _ (le-ltb _ _ h) q)

-- text that is not bad is good
pub not_bad : (u : (Result (Unit {0}) TextByteNumber)) → is_bad u ≡ false → u ≡ Ok tt
not_bad (Ok tt) e = refl
not_bad (Err n) e = true_false e
