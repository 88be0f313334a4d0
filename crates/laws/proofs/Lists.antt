-- Laws of the lists of specs/Lists.antt, of an entry that is looked up, of the rest of a list, and of stores into a list. By induction on the list or on the count.
use Prim.Native.Nat.{ℕ, zero, suc, ◌+◌, ◌*◌, ◌<◌, ◌≤◌}
use mathlib.Core.Path.{◌≡◌, refl, sym, ap, ap₂, ◌∙◌}
use mathlib.Core.Bool.{Bool, true, false, ◌&&◌}
use mathlib.Core.List.{List, [], ◌∷◌, ◌++◌}
use native.Mathlib.Omega.{arith}
use native.Mathlib.Nat.{zero-add, add-zero}
use native.Mathlib.Numerals.{add-one}
use lib.ListN.{length, get_or, set, take, drop, drop_of_length-le, length-append}
use lib.Seq.{ext_get_or, drop-cons, sets, set_out, set_comm}
use lib.Dec.{T, eqb}
use borrow.Author.Tests.{eq-eqb, ne_eqb}
use Rattle.laws.specs.Pick.{pick}
use Rattle.laws.specs.Lists.{tabulate, up_to, nonzero, each}
use Rattle.laws.proofs.EachBelow.{and_left, and_right}
use Rattle.laws.proofs.Pick.{never}

-- ---- an entry that is looked up
-- inside the list the default does not matter, past its end it is the answer
pub entry_inside : (xs : List ℕ) (k a b : ℕ) → k < length xs → get_or xs k a ≡ get_or xs k b
entry_inside [] k a b h = omega arith
entry_inside (x ∷ xs) zero a b h = refl
entry_inside (x ∷ xs) (suc k) a b h = entry_inside xs k a b (omega arith)

pub entry_past : (xs : List ℕ) (k d : ℕ) → length xs ≤ k → d ≡ get_or xs k d
entry_past [] k d h = refl
entry_past (x ∷ xs) zero d h = omega arith
entry_past (x ∷ xs) (suc k) d h = entry_past xs k d (omega arith)

-- the test holds for every entry
abbrev pub every : (ℕ → Bool) → List ℕ → Bool
every f [] = true
every f (x ∷ xs) = f x && every f xs

-- a test that holds for every entry and for the default holds for what is looked up
pub every_at : (f : ℕ → Bool) (xs : List ℕ) (d : ℕ) → T (every f xs) → T (f d) → (k : ℕ) → T (f (get_or xs k d))
every_at f [] d t e k = e
every_at f (x ∷ xs) d t e zero = and_left (f x) (every f xs) t
every_at f (x ∷ xs) d t e (suc k) = every_at f xs d (and_right (f x) (every f xs) t) e k

-- ---- tabulate
pub length-tabulate : (n : ℕ) (f : ℕ → ℕ) → length (tabulate n f) ≡ n
unfolding tabulate
length-tabulate zero f = refl
length-tabulate (suc n) f = ap suc (length-tabulate n (λ i. f (suc i)))

pub get_or-tabulate : (n : ℕ) (f : ℕ → ℕ) (k : ℕ) → k < n → get_or (tabulate n f) k 0 ≡ f k
unfolding tabulate
get_or-tabulate zero f k h = omega arith
get_or-tabulate (suc n) f zero h = refl
get_or-tabulate (suc n) f (suc k) h = get_or-tabulate n (λ i. f (suc i)) k (omega arith)

-- a list whose elements are the values of f is tabulated
pub tabulate_ext : (xs : List ℕ) (n : ℕ) (f : ℕ → ℕ) → length xs ≡ n → ((k : ℕ) → k < n → get_or xs k 0 ≡ f k) → xs ≡ tabulate n f
tabulate_ext xs n f len all =
    ext_get_or 0 xs (tabulate n f) (len ∙ sym (length-tabulate n f))
    (λ k h. let l : k < n = omega arith in all k l ∙ sym (get_or-tabulate n f k l))

pub tabulate-same : (n : ℕ) (f g : ℕ → ℕ) → ((i : ℕ) → i < n → f i ≡ g i) → tabulate n f ≡ tabulate n g
unfolding tabulate
tabulate-same zero f g h = refl
tabulate-same (suc n) f g h = ap₂ (λ (x : ℕ) (l : List ℕ). x ∷ l) (h 0 (omega arith)) (tabulate-same n (λ i. f (suc i)) (λ i. g (suc i)) (λ i l. h (suc i) (omega arith)))

-- one tabulated list after another
pub tabulate_join : (a b : ℕ) (f g h : ℕ → ℕ) → ((i : ℕ) → i < a → f i ≡ g i) → ((i : ℕ) → i < b → f (a + i) ≡ h i) → tabulate (a + b) f ≡ tabulate a g ++ tabulate b h
unfolding tabulate
tabulate_join zero b f g h p q = rw zero-add (tabulate-same b f h (λ i l. ap f (sym (zero-add i)) ∙ q i l))
tabulate_join (suc a) b f g h p q =
    let e : suc a + b ≡ suc (a + b) = omega arith in
    rw e
    (ap₂ (λ (x : ℕ) (l : List ℕ). x ∷ l) (p 0 (omega arith))
    (tabulate_join a b (λ i. f (suc i)) (λ i. g (suc i)) h (λ i l. p (suc i) (omega arith)) (λ i l. let d : suc (a + i) ≡ suc a + i = omega arith in ap f d ∙ q i l)))

-- ---- up_to: a slice that a loop fills
pub length-up_to : (i : ℕ) (f : ℕ → ℕ) (ws : List ℕ) → length (up_to i f ws) ≡ length ws
unfolding up_to
length-up_to zero f ws = refl
length-up_to (suc i) f [] = refl
length-up_to (suc i) f (w ∷ ws) = ap suc (length-up_to i (λ k. f (suc k)) ws)

up_to_suc : (i : ℕ) (f : ℕ → ℕ) (ws : List ℕ) → i < length ws → set (up_to i f ws) i (f i) ≡ up_to (suc i) f ws
unfolding up_to
up_to_suc i f [] h = absurd (omega arith)
up_to_suc zero f (w ∷ ws) h = refl
up_to_suc (suc i) f (w ∷ ws) h = ap (λ (l : List ℕ). f zero ∷ l) (up_to_suc i (λ k. f (suc k)) ws (omega arith))

-- one more element
pub up_to_more : (i : ℕ) (f : ℕ → ℕ) (ws : List ℕ) → i < length ws → set (up_to i f ws) i (f i) ≡ up_to (i + 1) f ws
up_to_more i f ws h = rw add-one (up_to_suc i f ws h)

-- the elements from i on are unchanged
pub up_to_rest : (i : ℕ) (f : ℕ → ℕ) (ws : List ℕ) (k : ℕ) → i ≤ k → get_or (up_to i f ws) k 0 ≡ get_or ws k 0
unfolding up_to
up_to_rest zero f ws k h = refl
up_to_rest (suc i) f [] k h = refl
up_to_rest (suc i) f (w ∷ ws) zero h = absurd (omega arith)
up_to_rest (suc i) f (w ∷ ws) (suc k) h = up_to_rest i (λ j. f (suc j)) ws k (omega arith)

-- filling again, and further
pub up_to_again : (k m : ℕ) (f : ℕ → ℕ) (ws : List ℕ) → k ≤ m → up_to m f (up_to k f ws) ≡ up_to m f ws
unfolding up_to
up_to_again zero m f ws h = refl
up_to_again (suc k) zero f ws h = absurd (omega arith)
up_to_again (suc k) (suc m) f [] h = refl
up_to_again (suc k) (suc m) f (w ∷ ws) h = ap (λ (l : List ℕ). f zero ∷ l) (up_to_again k m (λ i. f (suc i)) ws (omega arith))

-- the elements below i are the values of f
pub up_to_below : (i : ℕ) (f : ℕ → ℕ) (ws : List ℕ) (k : ℕ) → k < i → k < length ws → get_or (up_to i f ws) k 0 ≡ f k
unfolding up_to
up_to_below zero f ws k h l = absurd (omega arith)
up_to_below (suc i) f [] k h l = absurd (omega arith)
up_to_below (suc i) f (w ∷ ws) zero h l = refl
up_to_below (suc i) f (w ∷ ws) (suc k) h l = up_to_below i (λ j. f (suc j)) ws k (omega arith) (omega arith)

-- an element that f leaves unchanged
pub up_to_kept : (i : ℕ) (f : ℕ → ℕ) (ws : List ℕ) → i < length ws → f i ≡ get_or ws i 0 → up_to (suc i) f ws ≡ up_to i f ws
unfolding up_to
up_to_kept i f [] h e = absurd (omega arith)
up_to_kept zero f (w ∷ ws) h e = ap (λ (x : ℕ). x ∷ ws) e
up_to_kept (suc i) f (w ∷ ws) h e = ap (λ (l : List ℕ). f zero ∷ l) (up_to_kept i (λ k. f (suc k)) ws (omega arith) e)

-- the last of two fillings wins
pub up_to_over : (i : ℕ) (f g : ℕ → ℕ) (ws : List ℕ) → up_to i f (up_to i g ws) ≡ up_to i f ws
unfolding up_to
up_to_over zero f g ws = refl
up_to_over (suc i) f g [] = refl
up_to_over (suc i) f g (w ∷ ws) = ap (λ (l : List ℕ). f zero ∷ l) (up_to_over i (λ k. f (suc k)) (λ k. g (suc k)) ws)

-- the filled part of a slice is tabulated
pub up_to-take : (n : ℕ) (f : ℕ → ℕ) (ws : List ℕ) → n ≤ length ws → take n (up_to n f ws) ≡ tabulate n f
unfolding up_to tabulate
up_to-take zero f ws h = refl
up_to-take (suc n) f [] h = absurd (omega arith)
up_to-take (suc n) f (w ∷ ws) h = ap (λ (l : List ℕ). f zero ∷ l) (up_to-take n (λ k. f (suc k)) ws (omega arith))

-- ---- nonzero: it drops the zeros and keeps the order of the rest
pub nonzero-none : nonzero [] ≡ []
unfolding nonzero
nonzero-none = refl

pub nonzero_zero : (x : ℕ) (xs : List ℕ) → x ≡ 0 → nonzero (x ∷ xs) ≡ nonzero xs
unfolding nonzero
nonzero_zero x xs e = rw (eq-eqb x 0 e)

pub nonzero_kept : (x : ℕ) (xs : List ℕ) → (x ≡ 0 → ⊥) → nonzero (x ∷ xs) ≡ x ∷ nonzero xs
unfolding nonzero
nonzero_kept x xs n = rw (ne_eqb x 0 n)

pub nonzero-append : (xs ys : List ℕ) → nonzero (xs ++ ys) ≡ nonzero xs ++ nonzero ys
unfolding nonzero
nonzero-append [] ys = refl
nonzero-append (x ∷ xs) ys = go (eqb x 0) (nonzero-append xs ys)
  where
    go : (b : Bool) → nonzero (xs ++ ys) ≡ nonzero xs ++ nonzero ys → pick b (nonzero (xs ++ ys)) (x ∷ nonzero (xs ++ ys)) ≡ pick b (nonzero xs) (x ∷ nonzero xs) ++ nonzero ys
    go true e = e
    go false e = ap (λ (l : List ℕ). x ∷ l) e

pub nonzero-length : (xs : List ℕ) → length (nonzero xs) ≤ length xs
unfolding nonzero
nonzero-length [] = omega arith
nonzero-length (x ∷ xs) = go (eqb x 0) (nonzero-length xs)
  where
    go : (b : Bool) → length (nonzero xs) ≤ length xs → length (pick b (nonzero xs) (x ∷ nonzero xs)) ≤ suc (length xs)
    go true h = omega arith
    go false h = omega arith

zeros_dropped : (n : ℕ) → nonzero (tabulate n (λ m. 0)) ≡ []
unfolding nonzero tabulate
zeros_dropped zero = refl
zeros_dropped (suc n) = zeros_dropped n

-- zeros after a list are dropped too
pub pad_dropped : (xs : List ℕ) (n : ℕ) → length xs ≤ n → nonzero (tabulate n (λ m. get_or xs m 0)) ≡ nonzero xs
unfolding nonzero tabulate
pad_dropped [] n h = zeros_dropped n
pad_dropped (x ∷ xs) zero h = absurd (omega arith)
pad_dropped (x ∷ xs) (suc n) h = rw (pad_dropped xs n (omega arith))

-- ---- the rest of a list
-- the element at i, and the rest after it
pub drop_more : (xs : List ℕ) (i : ℕ) → i < length xs → drop i xs ≡ get_or xs i 0 ∷ drop (i + 1) xs
drop_more xs i h = rw add-one (drop-cons xs i 0 h)

-- the same for `each`; at the end nothing is left
pub each_more : (f : ℕ → List ℕ) (xs : List ℕ) (i : ℕ) → i < length xs → each f (drop i xs) ≡ f (get_or xs i 0) ++ each f (drop (i + 1) xs)
unfolding each
each_more f xs i h = rw (drop_more xs i h)

pub each_none : (f : ℕ → List ℕ) (xs : List ℕ) (i : ℕ) → length xs ≤ i → each f (drop i xs) ≡ []
unfolding each
each_none f xs i h = rw (drop_of_length-le xs h)

-- the length of lists of at most k elements each
pub each-length : (f : ℕ → List ℕ) (k : ℕ) → ((x : ℕ) → length (f x) ≤ k) → (xs : List ℕ) → length (each f xs) ≤ length xs * k
unfolding each
each-length f k h [] = omega arith
each-length f k h (x ∷ xs) = rw length-append (omega (arith, h x, each-length f k h xs))

-- ---- storing a list from its last element to its first
pub sets_last : (a o : List ℕ) (i b : ℕ) → sets o i (a ++ b ∷ []) ≡ sets (set o (i + length a) b) i a
sets_last [] o i b = rw add-zero
sets_last (x ∷ a) o i b =
    let e : suc i + length a ≡ i + suc (length a) = omega arith in
    sets_last a (set o i x) (suc i) b ∙ ap (λ (j : ℕ). sets (set (set o i x) j b) (suc i) a) e ∙ ap (λ (l : List ℕ). sets l (suc i) a) (set_comm o i (i + suc (length a)) x b (λ q. omega arith))

pub sets_out : (a o : List ℕ) (i : ℕ) → length o ≤ i → sets o i a ≡ o
sets_out [] o i h = refl
sets_out (x ∷ a) o i h = rw (set_out o i x h) (sets_out a o (suc i) (omega arith))

-- ---- a list with an element is not empty
pub cons_nil : (x : ℕ) (xs : List ℕ) → x ∷ xs ≡ [] → ⊥
cons_nil x xs e = never (cc)
