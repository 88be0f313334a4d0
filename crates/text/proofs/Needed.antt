-- Packets needed: they hold the text, fewer would not, and the code counts them right. Proved by division with remainder.
use Prim.Native.Nat.{ℕ, zero, suc, ◌+◌, ◌-◌, ◌*◌, ◌/◌, ◌<◌, ◌≤◌}
use mathlib.Core.Path.{◌≡◌, ap}
use native.Mathlib.Omega.{arith}
use native.Mathlib.Nat.{div-add-mod', mod-lt, div-lt_iff_lt-mul, div-zero, div-le_self, add-div_right, div-eq_of_lt}
use lib.Dec.{ltb, leb, eqb}
use borrow.Author.Tests.{ne_eqb, eqb-false}
use Rattle.laws.proofs.Pick.{split}
use Rattle.counts.specs.Counts.{packet}
use Rattle.text.specs.Octets.{needed, due_format}

-- the needed packets hold the text
pub needed_holds : (cap n : ℕ) → 0 < cap → n ≤ needed cap n * cap
unfolding needed
needed_holds cap zero pos = omega arith
needed_holds cap (suc n) pos =
    simp (ne_eqb (suc n) 0 (λ e. omega arith))
    (omega (arith, div-add-mod' (suc n + (cap - 1)) cap, mod-lt (suc n + (cap - 1)) pos))

-- fewer packets do not; a text that fills its last packet needs no further one
pub needed_least : (cap m n : ℕ) → 0 < cap → 0 < n → m ≤ n * cap → needed cap m ≤ n
unfolding needed
needed_least cap zero n pos one h = omega arith
needed_least cap (suc m) n pos one h =
    simp (ne_eqb (suc m) 0 (λ e. omega arith)) (go ((div-lt_iff_lt-mul pos).1 small))
  where
    small : suc m + (cap - 1) < suc n * cap
    small = omega arith

    go : (suc m + (cap - 1)) / cap < suc n → (suc m + (cap - 1)) / cap ≤ n
    go l = omega arith

pub needed-some : (cap m : ℕ) → 0 < cap → 0 < needed cap m
unfolding needed
needed-some cap zero h = omega arith
needed-some cap (suc m) h = go (needed cap (suc m)) (needed_holds cap (suc m) h)
  where
    go : (n : ℕ) → suc m ≤ n * cap → 0 < n
    go zero l = absurd (omega arith)
    go (suc n) l = omega arith

-- ---- as the code counts them
module _ (cap bytes : ℕ) where
  -- a text up to the capacity needs one packet
  pub needed_few : bytes ≤ cap → packet 1 ≡ packet (needed cap bytes)
  unfolding needed
  needed_few h = ap packet (split (eqb bytes 0) (λ t. rw t) (λ f. rw f (some (eqb-false bytes 0 f))))
    where
      some : (bytes ≡ 0 → ⊥) → 1 ≡ (bytes + (cap - 1)) / cap
      some n =
          let e : bytes + (cap - 1) ≡ bytes - 1 + cap = omega arith in
          let few : bytes - 1 < cap = omega arith in
          rw (e, add-div_right (bytes - 1) {k = cap} (omega arith), div-eq_of_lt few)

  pub needed_without : (bytes ≡ 0 → ⊥) → cap ≡ 0 → packet 0 ≡ packet (needed cap bytes)
  unfolding needed
  needed_without n e = rw (ne_eqb bytes 0 n, e, div-zero (bytes + (0 - 1)))

  pub needed_last : (bytes ≡ 0 → ⊥) → (cap ≡ 0 → ⊥) → packet ((bytes - 1) / cap + 1) ≡ packet (needed cap bytes)
  unfolding needed
  needed_last n m =
      let e : bytes + (cap - 1) ≡ bytes - 1 + cap = omega arith in
      rw (ne_eqb bytes 0 n, e, add-div_right (bytes - 1) {k = cap} (omega arith))

  -- a text has at least as many bytes as packets
  pub packets_fit : (bytes ≡ 0 → ⊥) → (bytes - 1) / cap + 1 ≤ bytes
  packets_fit n = omega (arith, div-le_self (bytes - 1) cap)

-- ---- a format is one of four
pub due_format_small : (n p : ℕ) → due_format n p < 4
unfolding due_format
due_format_small n p =
    split (leb n 1) (λ a. rw a (omega arith)) (λ a.
    split (eqb p 0) (λ b. rw (a, b) (omega arith)) (λ b.
    split (ltb p (n - 1)) (λ c. rw (a, b, c) (omega arith)) (λ c. rw (a, b, c) (omega arith))))
