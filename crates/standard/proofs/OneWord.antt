-- A table put into one word: the result is a word, and puts of other bits may be swapped with it. From the laws of a table over a list of one word.
use Prim.Native.Nat.{ℕ, ◌-◌, ◌*◌, ◌^◌, ◌<◌}
use mathlib.Core.Path.{◌≡◌, refl, sym, ap, ◌∙◌}
use mathlib.Core.Bool.{Bool, true}
use mathlib.Core.List.{List, [], ◌∷◌}
use native.Mathlib.Omega.{arith}
use lib.ListN.{length, get_or, set}
use borrow.Author.Tests.{ltb-true, leb-true}
use Rattle.laws.specs.Pick.{pick}
use Rattle.laws.specs.Bits.{put_field}
use Rattle.laws.proofs.Bits.{put_lt}
use Rattle.laws.proofs.Pick.{both_left, both_right}
use Rattle.slots.specs.Slots.{Slot, put, put_all, those, fits, apart_from_all, disjoint, words_below, bits_within}
use Rattle.slots.proofs.Slots.{length-put_all, put_apart_all, put_those}
use Rattle.kinds.specs.Layout.{Part, text_slot}
use Rattle.standard.specs.Words.{put_word}

-- a table in the first word of a list
one_word : (t : List (Slot Part)) (v : Part → ℕ) (w : ℕ) → put_all t v (w ∷ []) ≡ put_word t v w ∷ []
unfolding put_word
one_word t v w = go (put_all t v (w ∷ [])) (length-put_all t v (w ∷ []))
  where
    go : (l : List ℕ) → length l ≡ 1 → l ≡ get_or l 0 0 ∷ []
    go [] e = absurd (omega arith)
    go (x ∷ []) e = refl
    go (x ∷ y ∷ l) e = absurd (omega arith)

first_only : (s : Slot Part) (x w : ℕ) (ws : List ℕ) → s.word < 1 → put s x (w ∷ ws) ≡ put_field w s.at s.span x ∷ ws
unfolding put
first_only s x w ws h = let e : s.word ≡ 0 = omega arith in rw e

pub put_first : (t : List (Slot Part)) (v : Part → ℕ) (w : ℕ) (ws : List ℕ) → words_below 1 t ≡ true → put_all t v (w ∷ ws) ≡ put_word t v w ∷ ws
unfolding put_all put_word words_below
put_first [] v w ws l = refl
put_first (s ∷ ss) v w ws l =
    let h : s.word < 1 = ltb-true _ _ (both_left _ _ l) in
    ap (put s (v s.key)) (put_first ss v w ws (both_right _ _ l)) ∙ first_only s _ _ ws h
    ∙ ap (λ (x : ℕ). x ∷ ws) (sym (ap (λ (l : List ℕ). get_or l 0 0) (ap (put s (v s.key)) (put_first ss v w [] (both_right _ _ l)) ∙ first_only s _ _ [] h)))

-- the result is a word
pub word_small : (t : List (Slot Part)) (v : Part → ℕ) (w : ℕ) → bits_within 32 t ≡ true → words_below 1 t ≡ true → fits t v ≡ true → w < 2 ^ 32 → put_word t v w < 2 ^ 32
unfolding put_all put_word words_below fits bits_within
word_small [] v w i l f h = h
word_small (s ∷ ss) v w i l f h =
    rw (put_first ss v w [] (both_right _ _ l), first_only s (v s.key) (put_word ss v w) [] (ltb-true _ _ (both_left _ _ l)))
    (put_lt _ s.at s.span (v s.key) (word_small ss v w (both_right _ _ i) (both_right _ _ l) (both_right _ _ f) h) (leb-true _ _ (both_left _ _ i)) (ltb-true _ _ (both_left _ _ f)))

-- the fields of a head may be put before the text or after it
pub put_head : (t : List (Slot Part)) (v : Part → ℕ) (w from x : ℕ) → apart_from_all (text_slot from) t ≡ true → fits t v ≡ true → x < 2 ^ (32 - from * 8) → put_word t v (put_field w 0 (32 - from * 8) x) ≡ put_field (put_word t v w) 0 (32 - from * 8) x
unfolding put_word put
put_head t v w from x c f h = ap (λ (l : List ℕ). get_or l 0 0) (put_apart_all (text_slot from) x t v (w ∷ []) c h f) ∙ got (put_all t v (w ∷ [])) (length-put_all t v (w ∷ []))
  where
    got : (l : List ℕ) → length l ≡ 1 → get_or (set l 0 (put_field (get_or l 0 0) 0 (32 - from * 8) x)) 0 0 ≡ put_field (get_or l 0 0) 0 (32 - from * 8) x
    got [] e = absurd (omega arith)
    got (y ∷ l) e = refl

-- some fields put over all of them
pub put_those_word : (test : Part → Bool) (g v : Part → ℕ) (t : List (Slot Part)) (w : ℕ) → disjoint t ≡ true → fits (those test t) g ≡ true → fits t v ≡ true → put_word (those test t) g (put_word t v w) ≡ put_word t (λ k. pick (test k) (g k) (v k)) w
unfolding put_word
put_those_word test g v t w so fg fv =
    ap (λ (l : List ℕ). get_or (put_all (those test t) g l) 0 0) (sym (one_word t v w)) ∙ ap (λ (l : List ℕ). get_or l 0 0) (put_those test g v t (w ∷ []) so fg fv)
