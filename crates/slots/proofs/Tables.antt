-- Laws of a table of slots: over words that agree, and for values that fit. By induction on the table.
use Prim.Native.Nat.{ℕ, ◌≤◌, ◌<◌}
use mathlib.Core.Path.{◌≡◌, refl, sym, ap, ◌∙◌}
use mathlib.Core.Bool.{Bool, true, false}
use mathlib.Core.List.{List, [], ◌∷◌}
use native.Mathlib.Omega.{arith}
use lib.ListN.{get_or}
use lib.Seq.{get_or-set_other}
use borrow.Author.Tests.{ltb-true, lt-ltb}
use Rattle.laws.specs.Pick.{pick}
use Rattle.laws.specs.Bits.{field_of}
use Rattle.laws.specs.Lists.{map}
use Rattle.laws.proofs.Pick.{both_left, both_right, both_true}
use Rattle.slots.specs.Slots.{Slot, get, put, put_all, those, fits, words_below, reads}
use Rattle.slots.proofs.Slots.{got_small}

-- a table within m words is within n words, for m ≤ n
pub words_below_more : {K : Type 0} (m n : ℕ) (t : List (Slot K)) → m ≤ n → words_below m t ≡ true → words_below n t ≡ true
unfolding words_below
words_below_more m n [] h l = refl
words_below_more m n (s ∷ ss) h l =
    let a : s.word < m = ltb-true _ _ (both_left _ _ l) in
    both_true _ _ (lt-ltb s.word n (omega arith)) (words_below_more m n ss h (both_right _ _ l))

-- a table within the first n words changes no word after them
pub put_beyond : {K : Type 0} (n : ℕ) (t : List (Slot K)) (v : K → ℕ) (ws : List ℕ) (i : ℕ) → words_below n t ≡ true → n ≤ i → get_or (put_all t v ws) i 0 ≡ get_or ws i 0
unfolding put_all words_below put
put_beyond n [] v ws i l h = refl
put_beyond n (s ∷ ss) v ws i l h =
    let a : s.word < n = ltb-true _ _ (both_left _ _ l) in
    get_or-set_other (put_all ss v ws) s.word i _ 0 (λ e. omega arith) ∙ put_beyond n ss v ws i (both_right _ _ l) h

-- a table reads the same from words that agree in its range
pub reads_words : {K : Type 0} (n : ℕ) (t : List (Slot K)) (v : K → ℕ) (a b : List ℕ) → words_below n t ≡ true → ((i : ℕ) → i < n → get_or a i 0 ≡ get_or b i 0) → reads t v a → reads t v b
unfolding reads words_below get
reads_words n [] v a b l e r = tt
reads_words n (s ∷ ss) v a b l e r =
    (ap (λ (w : ℕ). field_of w s.at s.span) (sym (e s.word (ltb-true _ _ (both_left _ _ l)))) ∙ r.0, reads_words n ss v a b (both_right _ _ l) e r.1)

-- two sets of values read from the same words put the same
pub put_alike : {K : Type 0} (t : List (Slot K)) (u v : K → ℕ) (a ws : List ℕ) → reads t u a → reads t v a → put_all t u ws ≡ put_all t v ws
unfolding reads put_all
put_alike [] u v a ws p q = refl
put_alike (s ∷ ss) u v a ws p q =
    ap (λ (x : ℕ). put s x (put_all ss u ws)) (sym p.0 ∙ q.0) ∙ ap (put s (v s.key)) (put_alike ss u v a ws p.1 q.1)

-- values that were read fit
pub reads-fits : {K : Type 0} (t : List (Slot K)) (v : K → ℕ) (ws : List ℕ) → reads t v ws → fits t v ≡ true
unfolding reads fits
reads-fits [] v ws r = refl
reads-fits (s ∷ ss) v ws r = both_true _ _ (lt-ltb _ _ (got_small s ws r.0)) (reads-fits ss v ws r.1)

-- words that hold the same values give the same reads, for any slots of the table
pub gets_alike : {K : Type 0} (t : List (Slot K)) (v : K → ℕ) (test : K → Bool) (a b : List ℕ) → reads t v a → reads t v b → map (λ s. get s a) (those test t) ≡ map (λ s. get s b) (those test t)
unfolding reads those map
gets_alike [] v test a b p q = refl
gets_alike (s ∷ ss) v test a b p q = go (test s.key) (gets_alike ss v test a b p.1 q.1)
  where
    go : (c : Bool) → map (λ s. get s a) (those test ss) ≡ map (λ s. get s b) (those test ss) → map (λ s. get s a) (pick c (s ∷ those test ss) (those test ss)) ≡ map (λ s. get s b) (pick c (s ∷ those test ss) (those test ss))
    go true e = ap (λ (x : ℕ). x ∷ map (λ s. get s a) (those test ss)) (p.0 ∙ sym q.0) ∙ ap (λ (l : List ℕ). get s b ∷ l) e
    go false e = e
