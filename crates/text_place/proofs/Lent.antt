-- One place lent again and again gives the bytes of the text, then the end every time. From the laws of crate `text`, for capacity 13 and 14.
use Rattle.std.specs.Prelude.{Option, Some, None}
use Prim.Native.Nat.{ℕ, zero, suc, ◌+◌, ◌-◌, ◌*◌, ◌/◌, ◌<◌, ◌≤◌}
use mathlib.Core.Path.{◌≡◌, refl, sym, ap, ◌∙◌}
use mathlib.Core.Bool.{true}
use mathlib.Core.Logic.{◌⊎◌, inl, inr, ⊎_elim}
use mathlib.Core.List.{List, ◌∷◌, ◌++◌}
use native.Mathlib.Omega.{arith}
use native.Mathlib.Nat.{zero-add, suc-add}
use lib.ListN.{length, replicate}
use lib.Dec.{ltb, eqb}
use borrow.Author.Tests.{lt-ltb, eqb-true}
use Rattle.laws.specs.Pick.{pick, both}
use Rattle.laws.specs.Lists.{map}
use Rattle.laws.proofs.Pick.{here, past, split}
use Rattle.text.specs.Place.{stepped}
use Rattle.text.specs.Handed.{start_place, end_place, handed, place_after, HandsOut, none, more}
use Rattle.text.specs.declared.TextPlace.{TextPlace}
use Rattle.text.specs.declared.Stepped.{Stepped}
use Rattle.text.proofs.Place.{step_past, step_over, stays, hands_all, handed_all, end_after, end_within, end_stays}
use Rattle.kinds.specs.declared.kind.Kind.{Kind}
use Rattle.kinds.specs.declared.kind.Kind.TheVariants as K
use Rattle.kinds.specs.Layout.{layout, capacity_of}
use Rattle.kinds.proofs.Rows.{every_kind, at_kind}
use Rattle.standard.specs.Heads.{status_of, head_at}
use Rattle.standard.specs.Reading.{text_at}
use Rattle.standard.specs.Place.{offset_here, next_byte}
use Rattle.text_place.specs.Lent.{capacity_here, text_here, answers, left_after}

-- ---- the capacity
offset_small : (ws : List ℕ) → (offset_here ws ≡ 1) ⊎ (offset_here ws ≡ 0)
unfolding offset_here
offset_small ws = split (eqb (status_of (head_at ws 0)) (layout K.FunctionBlockName).status) (λ t. inl (sym (here 0 t refl))) (λ t. inr (sym (past 1 t refl)))

capacity_is : (ws : List ℕ) → (capacity_here ws ≡ 13) ⊎ (capacity_here ws ≡ 14)
capacity_is ws = ⊎_elim (λ e. inl (rw e)) (λ e. inr (rw e)) (offset_small ws)

positive : (ws : List ℕ) → 0 < capacity_here ws
positive ws = ⊎_elim (λ e. omega arith) (λ e. omega arith) (capacity_is ws)

-- a kind with text has the capacity that its status tells
abbrev told : Kind → ℕ
told k = 14 - pick (eqb (layout k).status (layout K.FunctionBlockName).status) 1 0

row_capacity : (k : Kind) → 0 < capacity_of k → told k ≡ capacity_of k
unfolding every_kind layout both
row_capacity k h = eqb-true _ _ (rw (lt-ltb 0 (capacity_of k) h) at (at_kind (λ j. pick (ltb 0 (capacity_of j)) (eqb (told j) (capacity_of j)) true) refl k))

module _ (ws : List ℕ) where
  -- ---- a place that is the end
  -- A PACKET NUMBER at or past the count, or A BYTE NUMBER at or past the capacity, is the end and does not move
  pub past_packets : (at : TextPlace) → length ws / 4 ≤ at.packet.0 → next_byte ws at ≡ stepped None at
  past_packets at h = step_past ws (capacity_here ws) at h

  pub past_capacity : (at : TextPlace) → capacity_here ws ≤ at.byte.0 → next_byte ws at ≡ stepped None at
  past_capacity at h = step_over ws (capacity_here ws) at h

  end_answers : (k : ℕ) (at : TextPlace) → next_byte ws at ≡ stepped None at → answers k ws at ≡ replicate k None
  unfolding answers
  end_answers zero at e = refl
  end_answers (suc k) at e = rw e (ap (λ (l : List (Option ℕ)). None ∷ l) (end_answers k at e))

  -- AFTER ANY END, wherever the place was, every call answers the end and leaves the place as it is
  pub end_for_good : (at : TextPlace) → (next_byte ws at).step ≡ None → (k : ℕ)
      → (answers k ws (next_byte ws at).place ≡ replicate k None) × (left_after k ws (next_byte ws at).place ≡ (next_byte ws at).place)
  end_for_good at t k =
      let e = end_stays ws (capacity_here ws) at t in
      (end_answers k (next_byte ws at).place e, stays ws (capacity_here ws) k (next_byte ws at).place e)

  -- INSIDE THE TEXT, a call that answers the end leaves the place at packet count, byte 0
  pub end_here : (at : TextPlace) → at.packet.0 < length ws / 4 → at.byte.0 < capacity_here ws → (next_byte ws at).step ≡ None → next_byte ws at ≡ stepped None (end_place ws)
  end_here at hp hb t = end_within ws (capacity_here ws) at hp hb t

  -- ---- from the start
  -- THE BYTES OF THE TEXT, one in each call, then the end, at packet count, byte 0
  pub lent_all : HandsOut ws (capacity_here ws) start_place (text_here ws)
  lent_all = hands_all ws (capacity_here ws) (positive ws)

  -- the bytes of the answers up to the end, for any number of further calls
  pub lent_bytes : (n : ℕ) → length ws / 4 * capacity_here ws ≤ n → handed n ws (capacity_here ws) start_place ≡ text_here ws
  lent_bytes n h = handed_all ws (capacity_here ws) (positive ws) n h

  answers_from : {at : TextPlace} {xs : List ℕ} → HandsOut ws (capacity_here ws) at xs → (k : ℕ) → answers (length xs + k) ws at ≡ map Some xs ++ replicate k None
  unfolding answers map
  answers_from (none e) zero = refl
  answers_from (none e) (suc k) = rw (zero-add (suc k), e) (ap (λ (l : List (Option ℕ)). None ∷ l) (end_answers k (end_place ws) (past_packets (end_place ws) (omega arith))))
  answers_from (more {x = x} {xs = xs} e r) k = rw (suc-add (length xs) k, e) (ap (λ (l : List (Option ℕ)). Some x ∷ l) (answers_from r k))

  -- THE ANSWERS: the bytes of the text, then the end any number of times
  pub lent_answers : (k : ℕ) → answers (length (text_here ws) + k) ws start_place ≡ map Some (text_here ws) ++ replicate k None
  lent_answers k = answers_from lent_all k

  one_more : (n : ℕ) (at : TextPlace) → left_after (suc n) ws at ≡ (next_byte ws (left_after n ws at)).place
  unfolding place_after
  one_more zero at = refl
  one_more (suc n) at = one_more n (next_byte ws at).place

  -- THE PLACE: packet count, byte 0, from the first end on
  pub lent_place : (k : ℕ) → length (text_here ws) < k → left_after k ws start_place ≡ end_place ws
  lent_place zero h = absurd (omega arith)
  lent_place (suc k) h = one_more k start_place ∙ ap (λ (s : Stepped). s.place) (end_after lent_all k (omega arith))

  -- ---- THE TEXT LENT IS THE TEXT READ, for the three kinds that have text
  pub lent_read : (k : Kind) → status_of (head_at ws 0) ≡ (layout k).status → 0 < capacity_of k → text_here ws ≡ text_at k ws
  unfolding offset_here
  lent_read k e h = let c = row_capacity k h in rw (e, c)
