-- A valid text stays valid when its zero bytes are dropped; the converse fails. Proved by computing a test of the table: no byte due after a first byte can be zero.
use Rattle.std.proofs.Common.{◌≡◌, ℕ, zero, suc, Bool, true, false, ◌&&◌, T, leb, List, [], ◌∷◌, sym, refl, ◌∙◌, subst, Ok, Err}
use mathlib.Core.Option.{Option, none, some}
use lib.Dec.{leb-suc-zero, eqb-suc-zero}
use Rattle.laws.specs.Pick.{pick}
use Rattle.laws.specs.Lists.{nonzero}
use Rattle.laws.proofs.Pick.{never}
use Rattle.laws.proofs.EachBelow.{and_left, and_right}
use Rattle.counts.specs.Counts.{byte}
use Rattle.utf8.specs.Utf8.{Range, ◌‥◌, CharRow, ◌then◌, inside, char_table, ranges_after, due_after, Valid, going, stopped, start_char, verdict_from, first_bad}
use Rattle.utf8.proofs.Valid.{bad_good, verdict_stopped, good_valid, valid_good}

-- no range contains 0
abbrev above : List Range → Bool
above [] = true
above ((low ‥ high) ∷ ds) = leb 1 low && above ds

abbrev all_above : List CharRow → Bool
all_above [] = true
all_above ((r then ds) ∷ rows) = above ds && all_above rows

row_above : (rows : List CharRow) → T (all_above rows) → (x : ℕ) (ds : List Range) → ranges_after rows x ≡ some ds → T (above ds)
row_above [] t x ds e = never (cc)
row_above ((r then ds') ∷ rows) t x ds e = go (row_above rows (and_right (above ds') (all_above rows) t) x ds) (inside r x) e
  where
    go : (ranges_after rows x ≡ some ds → T (above ds)) → (b : Bool) → pick b (some ds') (ranges_after rows x) ≡ some ds → T (above ds)
    go ih true q = let w : ds' ≡ ds = cc in subst (λ (l : List Range). T (above l)) w (and_left (above ds') (all_above rows) t)
    go ih false q = ih q

-- no byte due after a first byte can be 0
after_above : (x : ℕ) (ds : List Range) → due_after x ≡ some ds → T (above ds)
unfolding due_after
after_above x ds e = row_above char_table tt x ds e

abbrev Keeps : List ℕ → Type 0
Keeps xs = (ds : List Range) (n m at k : ℕ) → T (above ds) → verdict_from (going ds n) at xs ≡ Ok tt → verdict_from (going ds m) k (nonzero xs) ≡ Ok tt

zero_out : (low high : ℕ) (ds : List Range) → T (above ((low ‥ high) ∷ ds)) → inside (low ‥ high) 0 ≡ false
zero_out zero high ds t = absurd t
zero_out (suc low) high ds t = rw leb-suc-zero

keeps_first : (x : ℕ) (xs : List ℕ) → Keeps xs → (m at k : ℕ) (o : Option (List Range)) → due_after x ≡ o → verdict_from (start_char o at) (suc at) xs ≡ Ok tt → verdict_from (start_char o k) (suc k) (nonzero xs) ≡ Ok tt
keeps_first x xs ih m at k none q e = bad_good at (sym (verdict_stopped at (suc at) xs) ∙ e)
keeps_first x xs ih m at k (some ds) q e = ih ds at k (suc at) (suc k) (after_above x ds q) e

keeps_next : (x : ℕ) (xs : List ℕ) → Keeps xs → (ds : List Range) (n m at k : ℕ) → T (above ds) → (b : Bool) → verdict_from (pick b (going ds n) (stopped n)) (suc at) xs ≡ Ok tt → verdict_from (pick b (going ds m) (stopped m)) (suc k) (nonzero xs) ≡ Ok tt
keeps_next x xs ih ds n m at k t false e = bad_good n (sym (verdict_stopped n (suc at) xs) ∙ e)
keeps_next x xs ih ds n m at k t true e = ih ds n m (suc at) (suc k) t e

keeps : (xs : List ℕ) → Keeps xs
unfolding due_after nonzero
keeps [] [] n m at k t e = refl
keeps [] (d ∷ ds) n m at k t e = bad_good n e
keeps (zero ∷ xs) [] n m at k t e = keeps xs [] at m (suc at) k tt e
keeps (zero ∷ xs) ((low ‥ high) ∷ ds) n m at k t e =
    bad_good n (sym (verdict_stopped n (suc at) xs) ∙ (rw (zero_out low high ds t) at e))
keeps (suc x ∷ xs) [] n m at k t e = rw eqb-suc-zero (keeps_first (suc x) xs (keeps xs) m at k (due_after (suc x)) refl e)
keeps (suc x ∷ xs) ((low ‥ high) ∷ ds) n m at k t e =
    rw eqb-suc-zero (keeps_next (suc x) xs (keeps xs) ds n m at k (and_right (leb 1 low) (above ds) t) (inside (low ‥ high) (suc x)) e)

nonzero_good : (xs : List ℕ) → first_bad xs ≡ Ok tt → first_bad (nonzero xs) ≡ Ok tt
unfolding first_bad nonzero
nonzero_good xs e = keeps xs [] 0 0 0 0 tt e

pub nonzero_valid : {xs : List ℕ} → Valid xs → Valid (nonzero xs)
nonzero_valid {xs} v = good_valid (nonzero xs) (nonzero_good xs (valid_good v))

-- C3 00 A9 is not UTF-8 as given, but C3 A9 is
pub not_back : (first_bad (0xC3 ∷ 0x00 ∷ 0xA9 ∷ []) ≡ Err (byte 0)) × (first_bad (nonzero (0xC3 ∷ 0x00 ∷ 0xA9 ∷ [])) ≡ Ok tt)
unfolding first_bad due_after nonzero
not_back = (refl, refl)
