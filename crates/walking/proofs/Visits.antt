-- The whole walk passes each word once. Closed by the next positions, and by induction on the words left.
use Prim.Native.Nat.{ℕ, zero, suc, ◌-◌, ◌≤◌, ◌<◌}
use mathlib.Core.Path.{◌≡◌, refl, sym, ap, ◌∙◌}
use mathlib.Core.Bool.{Bool, true, false}
use mathlib.Core.List.{List, [], ◌∷◌}
use mathlib.Core.Logic.{◌⊎◌, inl, inr}
use native.Mathlib.Omega.{arith}
use lib.ListN.{length}
use lib.Dec.{ltb}
use borrow.Author.Tests.{lt-ltb, le-ltb, le-leb, lt-leb}
use Rattle.laws.specs.Pick.{pick, both}
use Rattle.laws.proofs.Pick.{below, both_true, both_false}
use Rattle.records.specs.declared.answers.Walked.{Walked}
use Rattle.records.specs.declared.answers.Walked.TheVariants as W
use Rattle.standard.specs.Walk.{walk_of, Onward}
use Rattle.standard.proofs.Next.{walk_onward}
use Rattle.walking.specs.Visits.{next_of, Visit, next_in, visits, visits_of, Tiles, Answers, covers, covering}

-- ---- the next position
onward_next : (a : Walked) (pos end : ℕ) → Onward pos end a → (pos < next_of a pos) × (next_of a pos ≤ end)
onward_next W.End pos end h = absurd h
onward_next (W.Other t size next) pos end h = h
onward_next (W.Message m next) pos end h = h
onward_next (W.Refused r next) pos end h = h

-- it is larger than the one given, and at most the length
pub next_between : (ws : List ℕ) (pos j : ℕ) (a : Walked) → pos < length ws → a ≡ walk_of ws pos → j ≡ next_of a pos → (pos < j) × (j ≤ length ws)
next_between ws pos j a h e q = rw (q, e) (onward_next (walk_of ws pos) pos (length ws) (walk_onward ws pos h))

abbrev next_at : List ℕ → ℕ → ℕ
next_at ws pos = next_of (walk_of ws pos) pos

-- ---- a visit, and the end of them
module _ (most : ℕ) (ws : List ℕ) (pos : ℕ) where
  pub visits_more : pos < length ws → visits (suc most) ws pos ≡ record { position = pos; answer = walk_of ws pos } ∷ visits most ws (next_at ws pos)
  unfolding visits
  visits_more h = rw (lt-ltb _ _ h)

pub visits-none : (most : ℕ) (ws : List ℕ) (pos : ℕ) → length ws ≤ pos → visits most ws pos ≡ []
unfolding visits
visits-none zero ws pos h = refl
visits-none (suc most) ws pos h = rw (le-ltb _ _ h)

-- ---- the visits tile the words
tiles : (most : ℕ) (ws : List ℕ) (pos : ℕ) → pos ≤ length ws → length ws - pos ≤ most → Tiles pos (visits most ws pos) (length ws)
tiles zero ws pos h l = let e : pos ≡ length ws = omega arith in rw (visits-none zero ws pos (omega arith)) e
tiles (suc most) ws pos h l = go (below pos (length ws)) (tiles most ws (next_at ws pos))
  where
    go : (pos < length ws) ⊎ (length ws ≤ pos) → (next_at ws pos ≤ length ws → length ws - next_at ws pos ≤ most → Tiles (next_at ws pos) (visits most ws (next_at ws pos)) (length ws)) → Tiles pos (visits (suc most) ws pos) (length ws)
    go (inl b) more =
        let n = next_between ws pos (next_at ws pos) (walk_of ws pos) b refl refl in
        rw (visits_more most ws pos b) (refl, n.0, more n.1 (omega arith))
    go (inr b) more = let e : pos ≡ length ws = omega arith in rw (visits-none (suc most) ws pos b) e

pub visits_tile : (ws : List ℕ) → Tiles 0 (visits_of ws) (length ws)
visits_tile ws = tiles (length ws) ws 0 (omega arith) (omega arith)

-- ---- each answer is the walk's
answers : (most : ℕ) (ws : List ℕ) (pos : ℕ) → Answers ws (visits most ws pos)
unfolding visits
answers zero ws pos = tt
answers (suc most) ws pos = go (ltb pos (length ws)) (answers most ws (next_at ws pos))
  where
    go : (b : Bool) → Answers ws (visits most ws (next_at ws pos)) → Answers ws (pick b (record { position = pos; answer = walk_of ws pos } ∷ visits most ws (next_at ws pos)) [])
    go true h = (refl, h)
    go false h = tt

pub visits_answer : (ws : List ℕ) → Answers ws (visits_of ws)
visits_answer ws = answers (length ws) ws 0

-- ---- and no other list of visits tiles the words with the walk's answers
tiles_le : (vs : List Visit) (from to : ℕ) → Tiles from vs to → from ≤ to
tiles_le [] from to e = omega arith
tiles_le (v ∷ vs) from to t = omega (arith, t.0, t.1, tiles_le vs (next_in v) to t.2)

visit_is : (v : Visit) (pos : ℕ) (a : Walked) → v.position ≡ pos → v.answer ≡ a → v ≡ record { position = pos; answer = a }
visit_is v pos a p q = rw (← p, ← q)

only : (vs : List Visit) (most : ℕ) (ws : List ℕ) (pos : ℕ) → Tiles pos vs (length ws) → Answers ws vs → length ws - pos ≤ most → vs ≡ visits most ws pos
only [] most ws pos t a h = sym (visits-none most ws pos (omega arith))
only (v ∷ vs) zero ws pos t a h = absurd (omega (arith, t.0, t.1, tiles_le vs (next_in v) (length ws) t.2))
only (v ∷ vs) (suc most) ws pos t a h =
    let l : pos < length ws = omega (arith, t.0, t.1, tiles_le vs (next_in v) (length ws) t.2) in
    let n = next_between ws pos (next_at ws pos) (walk_of ws pos) l refl refl in
    let told : v.answer ≡ walk_of ws pos = a.0 ∙ ap (walk_of ws) t.0 in
    let is : v ≡ record { position = pos; answer = walk_of ws pos } = visit_is v pos (walk_of ws pos) t.0 told in
    let next : next_in v ≡ next_at ws pos = ap next_in is in
    let rest : vs ≡ visits most ws (next_at ws pos) = only vs most ws (next_at ws pos) (rw next at t.2) a.1 (omega arith) in
    rw (visits_more most ws pos l, ← rest, ← is)

pub visits_only : (vs : List Visit) (ws : List ℕ) → Tiles 0 vs (length ws) → Answers ws vs → vs ≡ visits_of ws
visits_only vs ws t a = only vs (length ws) ws 0 t a (omega arith)

-- enough of them are all of them
pub visits_enough : (ws : List ℕ) (pos m n : ℕ) → pos ≤ length ws → length ws - pos ≤ m → length ws - pos ≤ n → visits m ws pos ≡ visits n ws pos
visits_enough ws pos m n h a b = only (visits m ws pos) n ws pos (tiles m ws pos h a) (answers m ws pos) b

-- ---- a word is in the span of one visit
covers_in : (i : ℕ) (v : Visit) → v.position ≤ i → i < next_in v → covers i v ≡ true
unfolding covers
covers_in i v h k = both_true _ _ (le-leb _ _ h) (lt-ltb _ _ k)

covers_before : (i : ℕ) (v : Visit) → i < v.position → covers i v ≡ false
unfolding covers both
covers_before i v h = rw (lt-leb _ _ h)

covers-after : (i : ℕ) (v : Visit) → next_in v ≤ i → covers i v ≡ false
unfolding covers
covers-after i v h = rw (le-ltb _ _ h) (both_false _)

module _ (i : ℕ) where
  none_before : (vs : List Visit) (from to : ℕ) → Tiles from vs to → i < from → covering i vs ≡ 0
  unfolding covering
  none_before [] from to t h = refl
  none_before (v ∷ vs) from to t h =
      let e = t.0 in
      let l = t.1 in
      rw (covers_before i v (omega arith)) (none_before vs (next_in v) to t.2 (omega arith))

  none_after : (vs : List Visit) (from to : ℕ) → Tiles from vs to → to ≤ i → covering i vs ≡ 0
  unfolding covering
  none_after [] from to t h = refl
  none_after (v ∷ vs) from to t h = rw (covers-after i v (omega (arith, tiles_le vs (next_in v) to t.2))) (none_after vs (next_in v) to t.2 h)

  one_within : (vs : List Visit) (from to : ℕ) → Tiles from vs to → from ≤ i → i < to → covering i vs ≡ 1
  unfolding covering
  one_within [] from to t h k = omega arith
  one_within (v ∷ vs) from to t h k = go (below i (next_in v)) (one_within vs (next_in v) to t.2)
    where
      go : (i < next_in v) ⊎ (next_in v ≤ i) → (next_in v ≤ i → i < to → covering i vs ≡ 1) → pick (covers i v) (suc (covering i vs)) (covering i vs) ≡ 1
      go (inl l) more = let e = t.0 in rw (covers_in i v (omega arith) l, none_before vs (next_in v) to t.2 l)
      go (inr l) more = rw (covers-after i v l) (more l k)

pub visits_once : (ws : List ℕ) (i : ℕ) → i < length ws → covering i (visits_of ws) ≡ 1
visits_once ws i h = one_within i (visits_of ws) 0 (length ws) (visits_tile ws) (omega arith) h

pub visits_no_more : (ws : List ℕ) (i : ℕ) → length ws ≤ i → covering i (visits_of ws) ≡ 0
visits_no_more ws i h = none_after i (visits_of ws) 0 (length ws) (visits_tile ws) h
