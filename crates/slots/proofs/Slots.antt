-- Laws of reading and writing the slots of a table. By induction on the table, from the laws of one field.
use Prim.Native.Nat.{ℕ, ◌+◌, ◌^◌, ◌<◌, ◌≤◌}
use mathlib.Core.Path.{◌≡◌, refl, sym, ap, ◌∙◌, subst}
use mathlib.Core.Bool.{Bool, true, false}
use mathlib.Core.Logic.{◌⊎◌, inl, inr, ⊎_elim, ◌≢◌}
use mathlib.Core.List.{List, [], ◌∷◌}
use native.Mathlib.Omega.{arith}
use native.Mathlib.Nat.{mod-lt}
use lib.Pow.{pow_pos}
use lib.ListN.{length, get_or, set, length-set}
use lib.Seq.{get_or-set_same, get_or-set_other, set-set, set_comm, set_out}
use lib.Dec.{ltb, leb, eqb}
use borrow.Author.Tests.{ltb-true, leb-true, eqb-true, eqb-false}
use Rattle.laws.specs.Pick.{pick, both}
use Rattle.laws.specs.Bits.{field_of, put_field}
use Rattle.laws.proofs.Pick.{either, below, both_left, both_right, both_true}
use Rattle.laws.proofs.Bits.{get_put, get_other, put_over, put_swap, Apart, apart_sym}
use Rattle.slots.specs.Slots.{Slot, get, put, put_all, those, fits, apart, apart_from_all, disjoint, words_below, reads}

-- ---- one slot, given by plain numbers
put_at : ℕ → ℕ → ℕ → ℕ → List ℕ → List ℕ
put_at i at span v ws = set ws i (put_field (get_or ws i 0) at span v)

module _ (ws : List ℕ) (i at span : ℕ) where
  same_word : (at' span' u v : ℕ) → put_at i at' span' v (put_at i at span u ws) ≡ set ws i (put_field (put_field (get_or ws i 0) at span u) at' span' v)
  unfolding put_at
  same_word at' span' u v =
      ⊎_elim (λ (l : i < length ws). set-set ws i _ _ ∙ ap (λ (x : ℕ). set ws i (put_field x at' span' v)) (get_or-set_same ws i _ 0 l))
      (λ (l : length ws ≤ i). ap (λ (y : List ℕ). set y i (put_field (get_or y i 0) at' span' v)) (set_out ws i _ l) ∙ set_out ws i _ l ∙ sym (set_out ws i _ l)) (below i (length ws))

  over : (u v : ℕ) → u < 2 ^ span → put_at i at span v (put_at i at span u ws) ≡ put_at i at span v ws
  unfolding put_at
  over u v h = same_word at span u v ∙ ap (λ (x : ℕ). set ws i x) (put_over (get_or ws i 0) at span u v h)

swap_same : (ws : List ℕ) (i at span u at' span' v : ℕ) → u < 2 ^ span → v < 2 ^ span' → Apart at span at' span' → put_at i at' span' v (put_at i at span u ws) ≡ put_at i at span u (put_at i at' span' v ws)
swap_same ws i at span u at' span' v hu hv d =
    same_word ws i at span at' span' u v ∙ ap (λ (x : ℕ). set ws i x) (put_swap (get_or ws i 0) at span u at' span' v hu hv d) ∙ sym (same_word ws i at' span' at span v u)

swap_other : (ws : List ℕ) (i at span u j at' span' v : ℕ) → i ≢ j → put_at j at' span' v (put_at i at span u ws) ≡ put_at i at span u (put_at j at' span' v ws)
unfolding put_at
swap_other ws i at span u j at' span' v ne =
    ap (λ (x : ℕ). set (set ws i (put_field (get_or ws i 0) at span u)) j (put_field x at' span' v)) (get_or-set_other ws i j _ 0 (λ e. ne (sym e))) ∙ set_comm ws i j _ _ ne ∙ ap (λ (x : ℕ). set (set ws j (put_field (get_or ws j 0) at' span' v)) i (put_field x at span u)) (sym (get_or-set_other ws j i _ 0 ne))

kept_same : (ws : List ℕ) (i at span v at' span' : ℕ) → v < 2 ^ span → Apart at span at' span' → field_of (get_or (put_at i at span v ws) i 0) at' span' ≡ field_of (get_or ws i 0) at' span'
unfolding put_at
kept_same ws i at span v at' span' h d =
    ⊎_elim (λ (l : i < length ws). ap (λ (x : ℕ). field_of x at' span') (get_or-set_same ws i _ 0 l) ∙ get_other (get_or ws i 0) at span v at' span' h d)
    (λ (l : length ws ≤ i). ap (λ (y : List ℕ). field_of (get_or y i 0) at' span') (set_out ws i _ l)) (below i (length ws))

-- two slots that share no bit: in different words, or in different bits of one word
apart_cases : {K L : Type 0} (s : Slot K) (t : Slot L) → apart s t ≡ true → (s.word ≢ t.word) ⊎ ((s.word ≡ t.word) × Apart s.at s.span t.at t.span)
unfolding apart
apart_cases s t e = go (eqb s.word t.word) refl e
  where
    bits : (pick (leb (s.at + s.span) t.at) true (leb (t.at + t.span) s.at) ≡ true) → Apart s.at s.span t.at t.span
    bits q = ⊎_elim (λ (l : leb (s.at + s.span) t.at ≡ true). inl (leb-true _ _ l)) (λ (l : leb (t.at + t.span) s.at ≡ true). inr (leb-true _ _ l)) (either (leb (s.at + s.span) t.at) (leb (t.at + t.span) s.at) q)

    go : (b : Bool) → eqb s.word t.word ≡ b → pick b (pick (leb (s.at + s.span) t.at) true (leb (t.at + t.span) s.at)) true ≡ true → (s.word ≢ t.word) ⊎ ((s.word ≡ t.word) × Apart s.at s.span t.at t.span)
    go true p q = inr (eqb-true _ _ p, bits q)
    go false p q = inl (eqb-false _ _ p)

-- ---- slots
length_put : {K : Type 0} (s : Slot K) (v : ℕ) (ws : List ℕ) → length (put s v ws) ≡ length ws
unfolding put
length_put s v ws = length-set ws _ _

put_put : {K : Type 0} (s : Slot K) (u v : ℕ) (ws : List ℕ) → u < 2 ^ s.span → put s v (put s u ws) ≡ put s v ws
unfolding put put_at
put_put s u v ws h = over ws s.word s.at s.span u v h

put_apart : {K L : Type 0} (s : Slot K) (t : Slot L) (u v : ℕ) (ws : List ℕ) → apart s t ≡ true → u < 2 ^ s.span → v < 2 ^ t.span → put t v (put s u ws) ≡ put s u (put t v ws)
unfolding put put_at
put_apart s t u v ws a hu hv =
    ⊎_elim (λ (ne : s.word ≢ t.word). swap_other ws s.word s.at s.span u t.word t.at t.span v ne)
    (λ (b : (s.word ≡ t.word) × Apart s.at s.span t.at t.span). rw (← b.0) (swap_same ws s.word s.at s.span u t.at t.span v hu hv b.1)) (apart_cases s t a)

get_same : {K : Type 0} (s : Slot K) (v : ℕ) (ws : List ℕ) → s.word < length ws → v < 2 ^ s.span → get s (put s v ws) ≡ v
unfolding put get
get_same s v ws l h = ap (λ (x : ℕ). field_of x s.at s.span) (get_or-set_same ws s.word _ 0 l) ∙ get_put (get_or ws s.word 0) s.at s.span v h

get_apart : {K L : Type 0} (s : Slot K) (t : Slot L) (v : ℕ) (ws : List ℕ) → apart s t ≡ true → v < 2 ^ t.span → get s (put t v ws) ≡ get s ws
unfolding put get put_at
get_apart s t v ws a h =
    ⊎_elim (λ (ne : s.word ≢ t.word). ap (λ (x : ℕ). field_of x s.at s.span) (get_or-set_other ws t.word s.word _ 0 ne))
    (λ (b : (s.word ≡ t.word) × Apart s.at s.span t.at t.span). rw b.0 (kept_same ws t.word t.at t.span v s.at s.span h (apart_sym _ _ _ _ b.1))) (apart_cases s t a)

-- a number in a slot is below the slot's bound
pub get_small : {K : Type 0} (s : Slot K) (ws : List ℕ) → get s ws < 2 ^ s.span
unfolding get
get_small s ws = mod-lt _ (pow_pos s.span)

pub got_small : {K : Type 0} (s : Slot K) (ws : List ℕ) {x : ℕ} → get s ws ≡ x → x < 2 ^ s.span
got_small s ws e = subst (λ (n : ℕ). n < 2 ^ s.span) e (get_small s ws)

-- ---- a table
pub length-put_all : {K : Type 0} (ss : List (Slot K)) (v : K → ℕ) (ws : List ℕ) → length (put_all ss v ws) ≡ length ws
unfolding put_all
length-put_all [] v ws = refl
length-put_all (s ∷ ss) v ws = length_put s _ _ ∙ length-put_all ss v ws

-- a slot that shares no bit with a table: puts into both may be swapped, and the slot keeps its number
pub put_apart_all : {K L : Type 0} (s : Slot L) (u : ℕ) (ss : List (Slot K)) (v : K → ℕ) (ws : List ℕ) → apart_from_all s ss ≡ true → u < 2 ^ s.span → fits ss v ≡ true → put_all ss v (put s u ws) ≡ put s u (put_all ss v ws)
unfolding put_all apart_from_all fits
put_apart_all s u [] v ws c h f = refl
put_apart_all s u (t ∷ ts) v ws c h f =
    ap (put t (v t.key)) (put_apart_all s u ts v ws (both_right _ _ c) h (both_right _ _ f)) ∙ put_apart s t u (v t.key) (put_all ts v ws) (both_left _ _ c) h (ltb-true _ _ (both_left _ _ f))

pub get_apart_all : {K L : Type 0} (s : Slot L) (ss : List (Slot K)) (v : K → ℕ) (ws : List ℕ) → apart_from_all s ss ≡ true → fits ss v ≡ true → get s (put_all ss v ws) ≡ get s ws
unfolding put_all apart_from_all fits
get_apart_all s [] v ws c f = refl
get_apart_all s (t ∷ ts) v ws c f =
    get_apart s t (v t.key) (put_all ts v ws) (both_left _ _ c) (ltb-true _ _ (both_left _ _ f)) ∙ get_apart_all s ts v ws (both_right _ _ c) (both_right _ _ f)

those_apart_all : {K L : Type 0} (t : K → Bool) (s : Slot L) (ss : List (Slot K)) → apart_from_all s ss ≡ true → apart_from_all s (those t ss) ≡ true
unfolding apart_from_all those
those_apart_all t s [] c = refl
those_apart_all t s (x ∷ xs) c = go (t x.key) (those_apart_all t s xs (both_right _ _ c))
  where
    go : (b : Bool) → apart_from_all s (those t xs) ≡ true → apart_from_all s (pick b (x ∷ those t xs) (those t xs)) ≡ true
    go true r = both_true _ _ (both_left _ _ c) r
    go false r = r

-- THE LAW OF SETTINGS: putting some slots over a full table gives the table with these values changed
pub put_those : {K : Type 0} (t : K → Bool) (g h : K → ℕ) (ss : List (Slot K)) (ws : List ℕ) → disjoint ss ≡ true → fits (those t ss) g ≡ true → fits ss h ≡ true → put_all (those t ss) g (put_all ss h ws) ≡ put_all ss (λ k. pick (t k) (g k) (h k)) ws
unfolding put_all those fits disjoint
put_those t g h [] ws so fg fh = refl
put_those t g h (s ∷ ss) ws so fg fh = go (t s.key) fg (λ f. put_those t g h ss ws (both_right _ _ so) f (both_right _ _ fh))
  where
    c : apart_from_all s (those t ss) ≡ true
    c = those_apart_all t s ss (both_left _ _ so)

    small : h s.key < 2 ^ s.span
    small = ltb-true _ _ (both_left _ _ fh)

    go : (b : Bool) → fits (pick b (s ∷ those t ss) (those t ss)) g ≡ true → (fits (those t ss) g ≡ true → put_all (those t ss) g (put_all ss h ws) ≡ put_all ss (λ k. pick (t k) (g k) (h k)) ws) → put_all (pick b (s ∷ those t ss) (those t ss)) g (put s (h s.key) (put_all ss h ws)) ≡ put s (pick b (g s.key) (h s.key)) (put_all ss (λ k. pick (t k) (g k) (h k)) ws)
    go true f ih =
        ap (put s (g s.key)) (put_apart_all s (h s.key) (those t ss) g (put_all ss h ws) c small (both_right _ _ f)) ∙ put_put s (h s.key) (g s.key) _ small ∙ ap (put s (g s.key)) (ih (both_right _ _ f))
    go false f ih = put_apart_all s (h s.key) (those t ss) g (put_all ss h ws) c small f ∙ ap (put s (h s.key)) (ih f)

-- values that fit still fit after some are replaced by fitting ones
pub fits-those : {K : Type 0} (t : K → Bool) (g h : K → ℕ) (ss : List (Slot K)) → fits (those t ss) g ≡ true → fits ss h ≡ true → fits ss (λ k. pick (t k) (g k) (h k)) ≡ true
unfolding fits those
fits-those t g h [] fg fh = refl
fits-those t g h (s ∷ ss) fg fh = go (t s.key) fg (λ f. fits-those t g h ss f (both_right _ _ fh))
  where
    go : (b : Bool) → fits (pick b (s ∷ those t ss) (those t ss)) g ≡ true → (fits (those t ss) g ≡ true → fits ss (λ k. pick (t k) (g k) (h k)) ≡ true) → both (ltb (pick b (g s.key) (h s.key)) (2 ^ s.span)) (fits ss (λ k. pick (t k) (g k) (h k))) ≡ true
    go true f ih = both_true _ _ (both_left _ _ f) (ih (both_right _ _ f))
    go false f ih = both_true _ _ (both_left _ _ fh) (ih f)

-- each slot of a table reads what was put there
get_before : {K L : Type 0} (s : Slot K) (t : Slot L) (u : ℕ) (ws : List ℕ) → apart s t ≡ true → u < 2 ^ s.span → get t (put s u ws) ≡ get t ws
unfolding put get put_at
get_before s t u ws a h =
    ⊎_elim (λ (ne : s.word ≢ t.word). ap (λ (x : ℕ). field_of x t.at t.span) (get_or-set_other ws s.word t.word _ 0 (λ e. ne (sym e))))
    (λ (b : (s.word ≡ t.word) × Apart s.at s.span t.at t.span). rw (← b.0) (kept_same ws s.word s.at s.span u t.at t.span h b.1)) (apart_cases s t a)

reads_put : {K : Type 0} (s : Slot K) (u : ℕ) (ss : List (Slot K)) (v : K → ℕ) (ws : List ℕ) → apart_from_all s ss ≡ true → u < 2 ^ s.span → reads ss v ws → reads ss v (put s u ws)
unfolding reads apart_from_all
reads_put s u [] v ws c h r = tt
reads_put s u (t ∷ ts) v ws c h r = (get_before s t u ws (both_left _ _ c) h ∙ r.0, reads_put s u ts v ws (both_right _ _ c) h r.1)

pub reads_all : {K : Type 0} (n : ℕ) (ss : List (Slot K)) (v : K → ℕ) (ws : List ℕ) → n ≤ length ws → words_below n ss ≡ true → disjoint ss ≡ true → fits ss v ≡ true → reads ss v (put_all ss v ws)
unfolding reads put_all disjoint fits words_below
reads_all n [] v ws l lo so f = tt
reads_all n (s ∷ ss) v ws l lo so f =
    let h : v s.key < 2 ^ s.span = ltb-true _ _ (both_left _ _ f) in
    let i : s.word < n = ltb-true _ _ (both_left _ _ lo) in
    let j : s.word < length (put_all ss v ws) = rw length-put_all (omega arith) in
    (get_same s (v s.key) (put_all ss v ws) j h, reads_put s (v s.key) ss v (put_all ss v ws) (both_left _ _ so) h (reads_all n ss v ws l (both_right _ _ lo) (both_right _ _ so) (both_right _ _ f)))
