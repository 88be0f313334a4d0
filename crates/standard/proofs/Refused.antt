-- A refused call leaves every word as it was, and a fresh message of a kind is refused only without a whole packet. Proved by following the cases of each call.
use Rattle.std.specs.Prelude.{Option, Some, None, Result, Ok, Err}
use Prim.Native.Nat.{ℕ, ◌≤◌}
use mathlib.Core.Path.{◌≡◌, refl, sym, ap}
use mathlib.Core.Bool.{not}
use mathlib.Core.List.{List, [], ◌∷◌, ◌++◌}
use native.Mathlib.Omega.{arith}
use borrow.Author.Tests.{ne_eqb}
use Rattle.laws.proofs.Pick.{never, picked, past}
use Rattle.slots.specs.Slots.{fits}
use Rattle.kinds.specs.declared.refusal.Refusal.{Refusal}
use Rattle.kinds.specs.declared.refusal.Refusal.TheVariants.{NoRoom}
use Rattle.kinds.specs.declared.kind.Kind.{Kind}
use Rattle.kinds.specs.Fields.{Setting}
use Rattle.kinds.specs.Layout.{Row, layout, kind_of, has_text, parts}
use Rattle.kinds.proofs.Rows.{status_kind}
use Rattle.records.specs.declared.message.Message.{Message}
use Rattle.records.specs.declared.answers.Walked.{Walked}
use Rattle.records.specs.declared.answers.Walked.TheVariants as W
use Rattle.records.specs.Records.{kind_in, packets_in, values_of}
use Rattle.standard.specs.Heads.{packets_of}
use Rattle.standard.specs.Walk.{walk_of}
use Rattle.standard.specs.Words.{Outcome, outcome, unchanged, no_packet, fresh, fresh_on, answer_to, after_answer, set_message, set_walked, set_on, write_on}
use Rattle.standard.specs.Lists.{set_all}

-- an outcome of a call on these words: if it is refused, they are unchanged
abbrev Kept : List ℕ → Outcome → Type 0
Kept ws o = (r : Refusal) → o.answer ≡ Err r → o.words ≡ ws

-- ---- settings
answer_kept : (a : (Result (Unit {0}) Refusal)) (row : Row) (n : ℕ) (s : Setting) (ws : List ℕ) → Kept ws (outcome a (after_answer a row n s ws))
answer_kept (Ok tt) row n s ws r e = never (cc)
answer_kept (Err why) row n s ws r e = refl

walked_kept : (w : Walked) (s : Setting) (ws : List ℕ) → Kept ws (set_walked w s ws)
unfolding set_message
walked_kept W.End s ws r e = refl
walked_kept (W.Other t size next) s ws r e = refl
walked_kept (W.Refused why next) s ws r e = refl
walked_kept (W.Message m next) s ws r e = answer_kept (answer_to (layout (kind_in m)) (packets_of ws) s) (layout (kind_in m)) (packets_in m) s ws r e

-- A REFUSED SETTING leaves every word
pub set-refused : (s : Setting) (ws : List ℕ) (r : Refusal) → (set_on s ws).answer ≡ Err r → (set_on s ws).words ≡ ws
unfolding set_on
set-refused s ws = walked_kept (walk_of ws 0) s ws

-- in a list it is as if it were not there
pub list_refused : (before after : List Setting) (s : Setting) (ws : List ℕ) (r : Refusal) → (set_on s (set_all before ws)).answer ≡ Err r → set_all (before ++ s ∷ after) ws ≡ set_all (before ++ after) ws
unfolding set_all
list_refused [] after s ws r e = ap (set_all after) (set-refused s ws r e)
list_refused (b ∷ before) after s ws r e = list_refused before after s (set_on b ws).words r e

-- ---- fresh messages
known_kept : (k : (Option Kind)) (status : ℕ) (ws : List ℕ) → kind_of status ≡ k → Kept ws (fresh_on status ws)
unfolding fresh_on
known_kept None status ws q = rw q (λ r e. refl)
known_kept (Some k) status ws q = rw q (picked (Kept ws) (no_packet ws) (unchanged NoRoom ws) (outcome (Ok tt) (fresh k ws)) (λ t r e. refl) (λ t r e. never (cc)))

-- A REFUSED FRESH MESSAGE leaves every word
pub fresh-refused : (status : ℕ) (ws : List ℕ) (r : Refusal) → (fresh_on status ws).answer ≡ Err r → (fresh_on status ws).words ≡ ws
fresh-refused status ws = known_kept (kind_of status) status ws refl

-- A FRESH MESSAGE OF A KIND is made wherever there is a whole packet
pub fresh_done : (k : Kind) (ws : List ℕ) → 1 ≤ packets_of ws → fresh_on (layout k).status ws ≡ outcome (Ok tt) (fresh k ws)
unfolding fresh_on
fresh_done k ws h = rw (status_kind k) (sym (past _ (ne_eqb (packets_of ws) 0 (λ q. omega arith)) refl))

-- ---- writing
-- A REFUSED RECORD leaves every word
pub write_refused : (m : Message) (ws : List ℕ) (r : Refusal) → (write_on m ws).answer ≡ Err r → (write_on m ws).words ≡ ws
unfolding write_on
write_refused m ws =
    picked (Kept ws) (has_text (layout (kind_in m)).body) _ _ (λ t r e. refl) (λ t.
    picked (Kept ws) (not (fits (layout (kind_in m)).fields (parts (values_of m)))) _ _ (λ t r e. refl) (λ t.
    picked (Kept ws) (no_packet ws) _ _ (λ t r e. refl) (λ t r e. never (cc))))
