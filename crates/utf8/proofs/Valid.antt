-- The laws of `first_bad`: it is `Ok` exactly for the valid texts, and `Err (byte n)` exactly if the first bad character starts at n. By induction on the text.
use Rattle.std.proofs.Common.{◌≡◌, ℕ, suc, ◌+◌, Bool, true, false, ◌⊎◌, List, [], ◌∷◌, ◌++◌, length, take, drop, sym, refl, ap, ◌∙◌, subst, inl, inr, append_assoc, append-nil, le_of_lt, zero-add, arith, length-append, length-drop, take-append-drop, length-take-le, take_at, drop_at, Result, Ok, Err}
use mathlib.Core.Option.{Option, none, some}
use Rattle.laws.specs.Pick.{pick}
use Rattle.laws.proofs.Lists.{cons_nil}
use Rattle.laws.proofs.Pick.{never}
use Rattle.counts.specs.Counts.{byte}
use Rattle.counts.specs.declared.TextByteNumber.{TextByteNumber}
use Rattle.utf8.specs.Utf8.{Range, inside, due_after, Fit, no_more, one_more, Char, char, Valid, empty, more, BadFrom, going, stopped, start_char, verdict_from, first_bad}

pub bad_good : {A : Type 0} (n : ℕ) → ◌≡◌ {A = Result (Unit {0}) TextByteNumber} (Err (byte n)) (Ok tt) → A
bad_good n e = never (cc)

pub verdict_stopped : (n at : ℕ) (xs : List ℕ) → verdict_from (stopped n) at xs ≡ Err (byte n)
verdict_stopped n at [] = refl
verdict_stopped n at (x ∷ xs) = verdict_stopped n (suc at) xs

-- ---- Ok: the text is valid

-- xs starts with a byte in each of the ranges, and the rest is valid
abbrev Split : List Range → List ℕ → Type 0
Split ds xs = (c : List ℕ) × (t : List ℕ) × (xs ≡ c ++ t) × Fit ds c × Valid t

abbrev Sound : List ℕ → Type 0
Sound xs = (ds : List Range) (n at : ℕ) → verdict_from (going ds n) at xs ≡ Ok tt → Split ds xs

sound_first : (x : ℕ) (xs : List ℕ) → Sound xs → (at : ℕ) (o : Option (List Range)) → due_after x ≡ o → verdict_from (start_char o at) (suc at) xs ≡ Ok tt → Valid (x ∷ xs)
sound_first x xs ih at none q e = bad_good at (sym (verdict_stopped at (suc at) xs) ∙ e)
sound_first x xs ih at (some ds) q e =
    let s = ih ds at (suc at) e in
    subst Valid (sym (ap (λ (l : List ℕ). x ∷ l) s.2)) (more (char q s.3) s.4)

sound_next : (x : ℕ) (xs : List ℕ) → Sound xs → (d : Range) (ds : List Range) (n at : ℕ) (t : Bool) → inside d x ≡ t → verdict_from (pick t (going ds n) (stopped n)) (suc at) xs ≡ Ok tt → Split (d ∷ ds) (x ∷ xs)
sound_next x xs ih d ds n at false q e = bad_good n (sym (verdict_stopped n (suc at) xs) ∙ e)
sound_next x xs ih d ds n at true q e =
    let s = ih ds n (suc at) e in
    (x ∷ s.0, s.1, ap (λ (l : List ℕ). x ∷ l) s.2, one_more q s.3, s.4)

sound : (xs : List ℕ) → Sound xs
sound [] [] n at e = ([], [], refl, no_more, empty)
sound [] (d ∷ ds) n at e = bad_good n e
sound (x ∷ xs) [] n at e = ([], x ∷ xs, refl, no_more, sound_first x xs (sound xs) at (due_after x) refl e)
sound (x ∷ xs) (d ∷ ds) n at e = sound_next x xs (sound xs) d ds n at (inside d x) refl e

pub good_valid : (xs : List ℕ) → first_bad xs ≡ Ok tt → Valid xs
unfolding first_bad
good_valid xs e = elim_split (sound xs [] 0 0 e)
  where
    elim_split : Split [] xs → Valid xs
    elim_split (c, t, q, f, v) = nil f q
      where
        nil : {l : List ℕ} → Fit [] l → xs ≡ l ++ t → Valid xs
        nil no_more r = subst Valid (sym r) v

-- ---- a valid text, and what follows it

-- bytes that fit the due ranges complete the character
fit_verdict : {ds : List Range} {c : List ℕ} → Fit ds c → (s : List ℕ) (n at : ℕ) → verdict_from (going ds n) at (c ++ s) ≡ verdict_from (going [] n) (at + length c) s
fit_verdict no_more s n at = ap (λ (k : ℕ). verdict_from (going [] n) k s) (omega arith)
fit_verdict (one_more {ds = ds} {xs = xs} q f) s n at =
    ap (λ (t : Bool). verdict_from (pick t (going ds n) (stopped n)) (suc at) (xs ++ s)) q
    ∙ fit_verdict f s n (suc at)
    ∙ ap (λ (k : ℕ). verdict_from (going [] n) k s) (omega arith)

-- after a valid text the check goes on with no character open; where the last one started no longer matters
valid_verdict : {p : List ℕ} → Valid p → (s : List ℕ) (n at : ℕ) → (m : ℕ) × (verdict_from (going [] n) at (p ++ s) ≡ verdict_from (going [] m) (at + length p) s)
valid_verdict empty s n at = (n, ap (λ (k : ℕ). verdict_from (going [] n) k s) (omega arith))
valid_verdict (more {s = r} (char {x = x} {ds = ds} {xs = xs} q f) v) s n at =
    let w = valid_verdict v s at (suc at + length xs) in (
      w.0,
      ap (λ (l : List ℕ). verdict_from (start_char (due_after x) at) (suc at) l) (append_assoc xs r s)
          ∙ ap (λ (o : Option (List Range)). verdict_from (start_char o at) (suc at) (xs ++ (r ++ s))) q
          ∙ fit_verdict f (r ++ s) at (suc at)
          ∙ w.1
          ∙ ap (λ (k : ℕ). verdict_from (going [] w.0) k s) (omega (arith, length-append xs r)),
    )

pub valid_good : {xs : List ℕ} → Valid xs → first_bad xs ≡ Ok tt
unfolding first_bad
valid_good {xs} v = ap (λ (l : List ℕ). verdict_from (going [] 0) 0 l) (sym (append-nil xs)) ∙ (valid_verdict v [] 0 0).1

-- ---- Err: the place

abbrev NoChar : List ℕ → Type 0
NoChar q = (q ≡ [] → ⊥) × ((c t : List ℕ) → Char c → q ≡ c ++ t → ⊥)

abbrev Misfit : List Range → List ℕ → Type 0
Misfit ds xs = (c t : List ℕ) → Fit ds c → xs ≡ c ++ t → ⊥

-- xs starts with a byte in each of the ranges, then valid text follows, then the bad character
abbrev Later : List Range → List ℕ → ℕ → ℕ → Type 0
Later ds xs at m = (c : List ℕ) × (p : List ℕ) × (q : List ℕ) × (xs ≡ c ++ (p ++ q)) × Fit ds c × Valid p × NoChar q × (m ≡ at + length c + length p)

abbrev Bad : List ℕ → Type 0
Bad xs = (ds : List Range) (n at m : ℕ) → verdict_from (going ds n) at xs ≡ Err (byte m) → ((m ≡ n) × Misfit ds xs) ⊎ Later ds xs at m

none_char : {c : List ℕ} (x : ℕ) (xs t : List ℕ) → due_after x ≡ none → Char c → x ∷ xs ≡ c ++ t → ⊥
none_char x xs t q (char {x = y} r f) e = let w : x ≡ y = cc in let z : ◌≡◌ {A = ℕ} 0 1 = cc in omega arith

misfit_char : {c : List ℕ} (x : ℕ) (xs t : List ℕ) (ds : List Range) → due_after x ≡ some ds → Misfit ds xs → Char c → x ∷ xs ≡ c ++ t → ⊥
misfit_char x xs t ds q h (char {x = y} {ds = ds'} {xs = ys} r f) e = h ys t (subst (λ (l : List Range). Fit l ys) (cc) f) (cc)

misfit_nil : {c : List ℕ} (d : Range) (ds : List Range) (t : List ℕ) → Fit (d ∷ ds) c → [] ≡ c ++ t → ⊥
misfit_nil d ds t (one_more {x = x} {xs = xs} q f) e = cons_nil x (xs ++ t) (sym e)

misfit_first : {c : List ℕ} (d : Range) (ds : List Range) (x : ℕ) (xs t : List ℕ) → inside d x ≡ false → Fit (d ∷ ds) c → x ∷ xs ≡ c ++ t → ⊥
misfit_first d ds x xs t q (one_more {x = y} r f) e = let w : x ≡ y = cc in let z : ◌≡◌ {A = ℕ} 0 1 = cc in omega arith

misfit_next : {c : List ℕ} (d : Range) (ds : List Range) (x : ℕ) (xs t : List ℕ) → Misfit ds xs → Fit (d ∷ ds) c → x ∷ xs ≡ c ++ t → ⊥
misfit_next d ds x xs t h (one_more {xs = ys} r f) e = h ys t f (cc)

same_place : (n m : ℕ) → ◌≡◌ {A = Result (Unit {0}) TextByteNumber} (Err (byte n)) (Err (byte m)) → m ≡ n
same_place n m e = let w : byte m ≡ byte n = cc in ap (λ (b : TextByteNumber). b.0) w

bad_first : (x : ℕ) (xs : List ℕ) → Bad xs → (at m : ℕ) (o : Option (List Range)) → due_after x ≡ o → verdict_from (start_char o at) (suc at) xs ≡ Err (byte m) → Later [] (x ∷ xs) at m
bad_first x xs ih at m none q e =
    let h = same_place at m (sym (verdict_stopped at (suc at) xs) ∙ e) in
    ([], [], x ∷ xs, refl, no_more, empty, (cons_nil x xs, λ c t ch r. none_char x xs t q ch r), omega arith)
bad_first x xs ih at m (some ds) q e = go (ih ds at (suc at) m e)
  where
    go : ((m ≡ at) × Misfit ds xs) ⊎ Later ds xs (suc at) m → Later [] (x ∷ xs) at m
    go (inl h) =
        ([], [], x ∷ xs, refl, no_more, empty, (cons_nil x xs, λ c t ch r. misfit_char x xs t ds q h.1 ch r), omega (arith, h.0))
    go (inr (c, p, r, s, f, v, nc, k)) =
        ([], x ∷ c ++ p, r, ap (λ (l : List ℕ). x ∷ l) (s ∙ sym (append_assoc c p r)), no_more, more (char q f) v, nc, omega (arith, length-append c p))

bad_next : (x : ℕ) (xs : List ℕ) → Bad xs → (d : Range) (ds : List Range) (n at m : ℕ) (t : Bool) → inside d x ≡ t → verdict_from (pick t (going ds n) (stopped n)) (suc at) xs ≡ Err (byte m) → ((m ≡ n) × Misfit (d ∷ ds) (x ∷ xs)) ⊎ Later (d ∷ ds) (x ∷ xs) at m
bad_next x xs ih d ds n at m false q e =
    inl (same_place n m (sym (verdict_stopped n (suc at) xs) ∙ e), λ c t f r. misfit_first d ds x xs t q f r)
bad_next x xs ih d ds n at m true q e = go (ih ds n (suc at) m e)
  where
    go : ((m ≡ n) × Misfit ds xs) ⊎ Later ds xs (suc at) m → ((m ≡ n) × Misfit (d ∷ ds) (x ∷ xs)) ⊎ Later (d ∷ ds) (x ∷ xs) at m
    go (inl h) = inl (h.0, λ c t f r. misfit_next d ds x xs t h.1 f r)
    go (inr (c, p, r, s, f, v, nc, k)) =
        inr (x ∷ c, p, r, ap (λ (l : List ℕ). x ∷ l) s, one_more q f, v, nc, omega arith)

bad : (xs : List ℕ) → Bad xs
bad [] [] n at m e = bad_good m (sym e)
bad [] (d ∷ ds) n at m e = inl (same_place n m e, λ c t f r. misfit_nil d ds t f r)
bad (x ∷ xs) [] n at m e = inr (bad_first x xs (bad xs) at m (due_after x) refl e)
bad (x ∷ xs) (d ∷ ds) n at m e = bad_next x xs (bad xs) d ds n at m (inside d x) refl e

-- a text split at n: valid before n, and no character at n
cut : (p q : List ℕ) (s : List ℕ) (n : ℕ) → s ≡ p ++ q → length p ≡ n → Valid p → NoChar q → BadFrom s n
cut p [] s n e k v nc = absurd (nc.0 refl)
cut p (x ∷ q) s n e k v nc =
    record {
      before = rw (e, take_at p (x ∷ q) n k) v;
      there = omega (arith, length-append p (x ∷ q), ap length e, k);
      bad = λ c t ch r. nc.1 c t ch (sym (ap (drop n) e ∙ drop_at p (x ∷ q) n k) ∙ r);
    }

pub bad_place : (s : List ℕ) (n : ℕ) → first_bad s ≡ Err (byte n) → BadFrom s n
unfolding first_bad
bad_place s n e = go (bad s [] 0 0 n e)
  where
    nil : {l : List ℕ} → Fit [] l → l ≡ []
    nil no_more = refl

    go : ((n ≡ 0) × Misfit [] s) ⊎ Later [] s 0 n → BadFrom s n
    go (inl h) = absurd (h.1 [] s no_more refl)
    go (inr (c, p, q, r, f, v, nc, k)) =
        cut p q s n (r ∙ ap (λ (l : List ℕ). l ++ (p ++ q)) (nil f)) (omega (arith, ap length (nil f))) v nc

-- ---- the converse: if no byte fits what is due, the check stops and reports the start of the character

misfit_verdict : (xs : List ℕ) (ds : List Range) (n at : ℕ) → Misfit ds xs → verdict_from (going ds n) at xs ≡ Err (byte n)
misfit_verdict xs [] n at h = absurd (h [] xs no_more refl)
misfit_verdict [] (d ∷ ds) n at h = refl
misfit_verdict (x ∷ xs) (d ∷ ds) n at h = go (misfit_verdict xs ds n (suc at)) (inside d x) refl
  where
    go : (Misfit ds xs → verdict_from (going ds n) (suc at) xs ≡ Err (byte n)) → (t : Bool) → inside d x ≡ t → verdict_from (pick t (going ds n) (stopped n)) (suc at) xs ≡ Err (byte n)
    go ih true q = ih (λ c t f e. h (x ∷ c) t (one_more q f) (ap (λ (l : List ℕ). x ∷ l) e))
    go ih false q = verdict_stopped n (suc at) xs

no_char_verdict : (xs : List ℕ) (n at : ℕ) → NoChar xs → verdict_from (going [] n) at xs ≡ Err (byte at)
no_char_verdict [] n at h = absurd (h.0 refl)
no_char_verdict (x ∷ xs) n at h = go (due_after x) refl
  where
    go : (o : Option (List Range)) → due_after x ≡ o → verdict_from (start_char o at) (suc at) xs ≡ Err (byte at)
    go none q = verdict_stopped at (suc at) xs
    go (some ds) q =
        misfit_verdict xs ds at (suc at) (λ c t f e. h.1 (x ∷ c) t (char q f) (ap (λ (l : List ℕ). x ∷ l) e))

pub place_bad : (s : List ℕ) (n : ℕ) → BadFrom s n → first_bad s ≡ Err (byte n)
unfolding first_bad
place_bad s n b =
    ap (λ (l : List ℕ). verdict_from (going [] 0) 0 l) (sym (take-append-drop n s))
    ∙ w.1
    ∙ no_char_verdict (drop n s) w.0 (0 + length (take n s)) (some_left, b.bad)
    ∙ ap (λ (i : ℕ). Err (byte i)) (zero-add (length (take n s)) ∙ length-take-le n s (le_of_lt b.there))
  where
    w : (m : ℕ) × (verdict_from (going [] 0) 0 (take n s ++ drop n s) ≡ verdict_from (going [] m) (0 + length (take n s)) (drop n s))
    w = valid_verdict b.before (drop n s) 0 0

    some_left : drop n s ≡ [] → ⊥
    some_left e = omega (arith, length-drop n s, ap length e, b.there)
