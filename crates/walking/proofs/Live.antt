-- A stream walked as its words arrive is walked as the whole stream. Closed by the final answers, and by induction on the words left.
use Prim.Native.Nat.{ℕ, zero, suc, ◌-◌, ◌≤◌, ◌<◌}
use mathlib.Core.Path.{◌≡◌, refl, ap}
use mathlib.Core.Bool.{Bool, true, false}
use mathlib.Core.Logic.{◌⊎◌, inl, inr}
use mathlib.Core.List.{List, ◌∷◌, ◌++◌}
use native.Mathlib.Omega.{arith}
use lib.ListN.{length, length-append}
use Rattle.laws.proofs.Pick.{below}
use Rattle.standard.specs.Walk.{walk_of}
use Rattle.standard.specs.Live.{final}
use Rattle.standard.proofs.Live.{walk_final}
use Rattle.walking.specs.Visits.{next_of, Visit, visits, visits_of}
use Rattle.walking.specs.Live.{settled, waits_at}
use Rattle.walking.proofs.Visits.{next_between, visits_more, visits-none, visits_enough}

module _ (ws more : List ℕ) where
  abbrev all : List ℕ
  all = ws ++ more

  longer : length ws ≤ length all
  longer = omega (arith, length-append ws more)

  -- the settled visits of the first words, then those of all words from where the walk waits
  abbrev joined : ℕ → List Visit → List Visit
  joined pos vs = settled vs ++ visits (length all) all (waits_at pos (settled vs))

  -- from a position on these are the visits of all words
  abbrev Lives : ℕ → ℕ → Type 0
  Lives n pos = (m : ℕ) → pos ≤ length ws → length ws - pos ≤ n → length all - pos ≤ m → visits m all pos ≡ joined pos (visits n ws pos)

  abbrev here : ℕ → Visit
  here pos = record { position = pos; answer = walk_of ws pos }

  abbrev next : ℕ → ℕ
  next pos = next_of (walk_of ws pos) pos

  -- after a final answer both walks go on at the same position
  goes : (n m pos : ℕ) → pos < length ws → length ws - pos ≤ suc n → length all - pos ≤ m → final (walk_of ws pos) ≡ true → Lives n (next pos) → visits m all pos ≡ here pos ∷ joined (next pos) (visits n ws (next pos))
  goes n zero pos l a b e rest = absurd (omega (arith, longer))
  goes n (suc m) pos l a b e rest =
      let o = next_between ws pos (next pos) (walk_of ws pos) l refl refl in
      rw (visits_more m all pos (omega (arith, longer)), walk_final ws more pos e) (ap (λ (vs : List Visit). here pos ∷ vs) (rest m o.1 (omega (arith, o.0)) (omega (arith, o.0))))

  -- elsewhere the walk of all words starts again
  waits : (m pos : ℕ) → pos ≤ length ws → length all - pos ≤ m → visits m all pos ≡ visits (length all) all pos
  waits m pos h b = visits_enough all pos m (length all) (omega (arith, longer)) b (omega arith)

  live : (n pos : ℕ) → Lives n pos
  unfolding settled waits_at
  live zero pos m h a b = rw (visits-none zero ws pos (omega arith)) (waits m pos h b)
  live (suc n) pos m h a b = go (below pos (length ws)) (live n (next pos))
    where
      by : (t : Bool) → final (walk_of ws pos) ≡ t → pos < length ws → Lives n (next pos) → visits m all pos ≡ joined pos (here pos ∷ visits n ws (next pos))
      by true e l rest = rw e (goes n m pos l a b e rest)
      by false e l rest = rw e (waits m pos h b)

      go : (pos < length ws) ⊎ (length ws ≤ pos) → Lives n (next pos) → visits m all pos ≡ joined pos (visits (suc n) ws pos)
      go (inl l) rest = rw (visits_more n ws pos l) (by (final (walk_of ws pos)) refl l rest)
      go (inr l) rest = rw (visits-none (suc n) ws pos l) (waits m pos h b)

  -- THE VISITS of a stream are those settled before more words came, then those from where the walk waited
  pub visits_live : visits_of (ws ++ more) ≡ settled (visits_of ws) ++ visits (length (ws ++ more)) (ws ++ more) (waits_at 0 (settled (visits_of ws)))
  visits_live = live (length ws) 0 (length all) (omega arith) (omega arith) (omega arith)
