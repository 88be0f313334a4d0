-- Every byte of a valid text is below 256. Proved by computing a test: every range of the table ends below 256.
use Rattle.std.proofs.Common.{◌≡◌, ℕ, zero, suc, ◌<◌, Bool, true, false, ◌&&◌, leb, List, [], ◌∷◌, ◌++◌, get_or, refl, subst, arith, leb-true}
use mathlib.Core.Option.{some}
use Rattle.laws.specs.Pick.{pick}
use Rattle.laws.proofs.Pick.{never}
use Rattle.laws.proofs.EachBelow.{and_l, and_r}
use Rattle.utf8.specs.Utf8.{Valid, Char, Fit, Range, ◌‥◌, CharRow, ◌then◌, inside, char_table, ranges_after, due_after, empty, more, char, no_more, one_more}

narrow : List Range → Bool
narrow [] = true
narrow ((low ‥ high) ∷ ds) = leb high 255 && narrow ds

narrows : List CharRow → Bool
narrows [] = true
narrows (((low ‥ high) then ds) ∷ rows) = (leb high 255 && narrow ds) && narrows rows

row_narrow : (rows : List CharRow) → narrows rows ≡ true → (x : ℕ) (ds : List Range) → ranges_after rows x ≡ some ds → (x < 256) × (narrow ds ≡ true)
unfolding narrows
row_narrow [] t x ds e = never (cc)
row_narrow (((low ‥ high) then ds') ∷ rows) t x ds e = go (inside (low ‥ high) x) refl e (row_narrow rows (and_r (leb high 255 && narrow ds') (narrows rows) t) x ds)
  where
    h : leb high 255 && narrow ds' ≡ true
    h = and_l (leb high 255 && narrow ds') (narrows rows) t

    go : (b : Bool) → leb low x && leb x high ≡ b → pick b (some ds') (ranges_after rows x) ≡ some ds → (ranges_after rows x ≡ some ds → (x < 256) × (narrow ds ≡ true)) → (x < 256) × (narrow ds ≡ true)
    go true p q ih = (omega (arith, leb-true x high (and_r (leb low x) (leb x high) p), leb-true high 255 (and_l (leb high 255) (narrow ds') h)), (let w : ds' ≡ ds = cc in subst (λ (d : List Range). narrow d ≡ true) w (and_r (leb high 255) (narrow ds') h)))
    go false p q ih = ih q

-- every element of the list is below 256
abbrev Small : List ℕ → Type 0
Small t = (i : ℕ) → get_or t i 0 < 256

small_more : (x : ℕ) (t : List ℕ) → x < 256 → Small t → Small (x ∷ t)
small_more x t h r zero = h
small_more x t h r (suc i) = r i

small_join : (s t : List ℕ) → Small s → Small t → Small (s ++ t)
small_join [] t a b = b
small_join (x ∷ s) t a b = small_more x (s ++ t) (a 0) (small_join s t (λ i. a (suc i)) b)

fit_small : {ds : List Range} {t : List ℕ} → Fit ds t → narrow ds ≡ true → Small t
unfolding narrow
fit_small no_more n = λ i. omega arith
fit_small (one_more {d = low ‥ high} {ds = ds} {x = x} {xs = xs} e f) n = small_more x xs (omega (arith, leb-true x high (and_r (leb low x) (leb x high) e), leb-true high 255 (and_l (leb high 255) (narrow ds) n))) (fit_small f (and_r (leb high 255) (narrow ds) n))

char_small : {t : List ℕ} → Char t → Small t
unfolding due_after narrow narrows
char_small (char {x = x} {ds = ds} {xs = xs} e f) = let r = row_narrow char_table refl x ds e in small_more x xs r.0 (fit_small f r.1)

pub valid_small : {t : List ℕ} → Valid t → Small t
valid_small empty = λ i. omega arith
valid_small (more {c = c} {s = s} h r) = small_join c s (char_small h) (valid_small r)
