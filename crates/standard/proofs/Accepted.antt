-- What is known of an accepted setting. Proved by following the chain of refusals.
use Rattle.std.specs.Prelude.{Ok}
use Prim.Native.Nat.{ℕ, ◌≤◌}
use mathlib.Core.Path.{◌≡◌}
use mathlib.Core.Bool.{true}
use mathlib.Core.List.{List}
use lib.ListN.{length}
use lib.Dec.{ltb}
use borrow.Author.Tests.{ltb-false, not-false}
use Rattle.laws.proofs.Pick.{passed}
use Rattle.slots.specs.Slots.{Slot, fits}
use Rattle.utf8.specs.Utf8.{Valid, first_bad}
use Rattle.utf8.proofs.Valid.{good_valid}
use Rattle.text.specs.Octets.{needed}
use Rattle.kinds.specs.Fields.{Setting, field_in, text_in}
use Rattle.kinds.specs.Layout.{Part, Body, Row, capacity_in, slots_of, numbers_set}
use Rattle.records.specs.Settings.{is_too_large}
use Rattle.records.proofs.Records.{refused_done}
use Rattle.standard.specs.Reading.{is_bad}
use Rattle.standard.specs.Words.{missing, needed_by, answer_to}
use Rattle.standard.proofs.Rules.{not_bad}

pub record Accepted (b : Body) (t : List (Slot Part)) (room : ℕ) (s : Setting) : Type 0 where
  pub numbers : fits (slots_of (field_in s) t) (numbers_set s) ≡ true
  pub valid : Valid (text_in s)
  pub most : needed (capacity_in b) (length (text_in s)) ≤ 64
  pub inside : needed (capacity_in b) (length (text_in s)) ≤ room

pub accepted_facts : (r : Row) (room : ℕ) (s : Setting) → answer_to r room s ≡ Ok tt → Accepted r.body r.fields room s
unfolding answer_to
accepted_facts r room s e =
    let a = passed (missing r s) _ _ (Ok tt) refused_done e in
    let b = passed (is_too_large r.fields s) _ _ (Ok tt) refused_done a.1 in
    let c = passed (is_bad (first_bad (text_in s))) _ _ (Ok tt) refused_done b.1 in
    let d = passed (ltb 64 (needed_by r s)) _ _ (Ok tt) refused_done c.1 in
    let q = passed (ltb room (needed_by r s)) _ _ (Ok tt) refused_done d.1 in
    record { numbers = not-false _ b.0; valid = good_valid _ (not_bad _ c.0); most = ltb-false _ _ d.0; inside = ltb-false _ _ q.0 }
