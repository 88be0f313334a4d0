-- A setting of one kind alone goes by its target. Closed by the cases of the walk; which kinds have a field is computed over the table.
use Rattle.std.specs.Prelude.{Result, Ok, Err}
use Prim.Native.Nat.{ℕ, ◌≤◌}
use mathlib.Core.Path.{◌≡◌, refl, sym, ap, ◌∙◌}
use mathlib.Core.Bool.{Bool, true, false, not}
use mathlib.Core.List.{List}
use native.Mathlib.Omega.{arith}
use Rattle.laws.specs.Pick.{pick, differ}
use Rattle.laws.proofs.Pick.{never, split, eq_differ, differ_false}
use Rattle.counts.specs.Counts.{packet}
use Rattle.counts.specs.declared.PacketNumber.{PacketNumber}
use Rattle.kinds.specs.declared.refusal.Refusal.{Refusal}
use Rattle.kinds.specs.declared.refusal.Refusal.TheVariants.{NoSuchField}
use Rattle.kinds.specs.declared.kind.Kind.{Kind}
use Rattle.kinds.specs.Fields.{Setting}
use Rattle.kinds.specs.Layout.{layout, kinds}
use Rattle.kinds.proofs.Rows.{every_kind, at_kind}
use Rattle.kinds.proofs.Homes.{one_status}
use Rattle.records.specs.declared.message.Message.{Message}
use Rattle.records.specs.declared.answers.Walked.{Walked}
use Rattle.records.specs.declared.answers.Walked.TheVariants as W
use Rattle.records.specs.Records.{kind_in, packets_in}
use Rattle.standard.specs.Heads.{packets_of}
use Rattle.standard.specs.Walk.{walk_of}
use Rattle.standard.specs.Words.{Outcome, outcome, unchanged, missing, answer_to, after_answer, set_message, set_walked, set_on}
use Rattle.walking.proofs.Stands.{walk_formed}
use Rattle.settings.specs.Target.{own_in, target_of}

-- two tests say the same
abbrev alike : Bool → Bool → Bool
alike a b = pick a b (not b)

alike_same : (a b : Bool) → alike a b ≡ true → a ≡ b
alike_same true true e = refl
alike_same true false e = sym e
alike_same false true e = e
alike_same false false e = refl

-- ---- a setting whose field is of one kind alone
unfoldable pub owned_by : Kind → Setting → Bool
owned_by k s = every_kind (λ j. alike (missing (layout j) s) (differ (layout j).status (layout k).status)) kinds

module _ (k : Kind) (s : Setting) (own : owned_by k s ≡ true) where
  lacking : (j : Kind) → missing (layout j) s ≡ differ (layout j).status (layout k).status
  unfolding owned_by
  lacking j = alike_same _ _ (at_kind _ own j)

  pub own_has : missing (layout k) s ≡ false
  own_has = lacking k ∙ eq_differ (layout k).status _ refl

-- what an accepted or refused setting leaves of a message of n packets of a kind
abbrev set_own : Kind → ℕ → Setting → List ℕ → Outcome
set_own k n s ws = outcome (answer_to (layout k) (packets_of ws) s) (after_answer (answer_to (layout k) (packets_of ws) s) (layout k) n s ws)

-- the packets of the target are the buffer's, and the setting is the kind's own
pub record Own (k : Kind) (n : ℕ) (s : Setting) (ws : List ℕ) : Type 0 where
  pub some : 1 ≤ n
  pub most : n ≤ packets_of ws
  pub set : set_on s ws ≡ set_own k n s ws

module _ (k : Kind) (s : Setting) (own : owned_by k s ≡ true) (ws : List ℕ) where
  -- a message of another kind: refusal 13
  other-set : (m : Message) → differ (layout (kind_in m)).status (layout k).status ≡ true → set_message m s ws ≡ unchanged NoSuchField ws
  unfolding set_message answer_to
  other-set m d = rw (lacking k s own (kind_in m), d)

  message-refused : (m : Message) {r : Refusal} → own_in (layout k).status m ≡ Err r → set_message m s ws ≡ unchanged r ws
  unfolding own_in
  message-refused m {r} e =
      split (differ (layout (kind_in m)).status (layout k).status)
      (λ d. let q : NoSuchField ≡ r = refused_is (rw d at e) in other-set m d ∙ ap (λ (x : Refusal). unchanged x ws) q)
      (λ d. never (packets-refused (rw d at e)))
    where
      refused_is : {a b : Refusal} → ◌≡◌ {A = Result PacketNumber Refusal} (Err a) (Err b) → a ≡ b
      refused_is z = cc

      packets-refused : {n : PacketNumber} {b : Refusal} → ◌≡◌ {A = Result PacketNumber Refusal} (Ok n) (Err b) → ◌≡◌ {A = ℕ} 0 1
      packets-refused z = cc

  message_own : (m : Message) {n : PacketNumber} → own_in (layout k).status m ≡ Ok n → (kind_in m ≡ k) × (packets_in m ≡ n.0)
  unfolding own_in
  message_own m {n} e =
      split (differ (layout (kind_in m)).status (layout k).status)
      (λ d. never (refused-packets (rw d at e)))
      (λ d. (one_status (kind_in m) k (differ_false _ _ d), packets_is (rw d at e)))
    where
      refused-packets : {a : Refusal} {b : PacketNumber} → ◌≡◌ {A = Result PacketNumber Refusal} (Err a) (Ok b) → ◌≡◌ {A = ℕ} 0 1
      refused-packets z = cc

      packets_is : {a : ℕ} {b : PacketNumber} → ◌≡◌ {A = Result PacketNumber Refusal} (Ok (packet a)) (Ok b) → a ≡ b.0
      packets_is {a} {b} z = let q : packet a ≡ b = cc in ap (λ (x : PacketNumber). x.0) q

  -- ---- the two laws of a setting: it is refused by its target, or its kind's own
  pub set-refused : {r : Refusal} → target_of (layout k).status (walk_of ws 0) ≡ Err r → set_on s ws ≡ unchanged r ws
  unfolding set_on
  set-refused {r} e = go (walk_of ws 0) e
    where
      same : {a b : Refusal} → ◌≡◌ {A = Result PacketNumber Refusal} (Err a) (Err b) → unchanged a ws ≡ unchanged b ws
      same {a} {b} z = let q : a ≡ b = cc in ap (λ (x : Refusal). unchanged x ws) q

      go : (w : Walked) → target_of (layout k).status w ≡ Err r → set_walked w s ws ≡ unchanged r ws
      go W.End q = same q
      go (W.Other t size next) q = same q
      go (W.Refused a next) q = same q
      go (W.Message m next) q = message-refused m q

  pub set_own_lem : {n : PacketNumber} → target_of (layout k).status (walk_of ws 0) ≡ Ok n → Own k n.0 s ws
  unfolding set_on set_message
  set_own_lem {n} e = go (walk_of ws 0) refl e
    where
      no : {a : Refusal} → ◌≡◌ {A = Result PacketNumber Refusal} (Err a) (Ok n) → Own k n.0 s ws
      no z = never (cc)

      go : (w : Walked) → walk_of ws 0 ≡ w → target_of (layout k).status w ≡ Ok n → Own k n.0 s ws
      go W.End w q = no q
      go (W.Other t size next) w q = no q
      go (W.Refused a next) w q = no q
      go (W.Message m next) w q =
          let o = message_own m q in
          let f = walk_formed ws 0 m next w in
          record {
            some = rw o.1 at f.formed.some;
            most = omega (arith, f.room, o.1);
            set = ap (λ (x : Walked). set_walked x s ws) w ∙ ap (λ (i : Kind). set_own i (packets_in m) s ws) o.0 ∙ ap (λ (i : ℕ). set_own k i s ws) o.1;
          }
