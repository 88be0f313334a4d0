-- One turn of a loop that fills a buffer: the first words are the values of f, the others are unchanged. From the laws of `up_to`.
use Prim.Native.Nat.{ℕ, suc, ◌+◌, ◌*◌, ◌%◌, ◌<◌, ◌≤◌}
use mathlib.Core.Path.{◌≡◌, refl, sym, ap, ◌∙◌}
use mathlib.Core.List.{List}
use native.Mathlib.Omega.{arith}
use lib.ListN.{length, get_or, set, length-set}
use lib.Dec.{eqb}
use borrow.Author.Tests.{eq-eqb, ne_eqb}
use Rattle.laws.specs.Pick.{pick}
use Rattle.laws.specs.Lists.{up_to}
use Rattle.laws.proofs.Lists.{length-up_to, up_to_more, up_to_rest, up_to_kept}

pub record Filled (i : ℕ) (f : ℕ → ℕ) (found ws : List ℕ) : Type 0 where
  pub long : length ws ≡ length found
  pub is : ws ≡ up_to i f found

pub none_filled : (f : ℕ → ℕ) (ws : List ℕ) → Filled 0 f ws ws
unfolding up_to
none_filled f ws = record { long = refl; is = refl }

-- the equation alone gives the length too
pub is_filled : (i : ℕ) (f : ℕ → ℕ) (found ws : List ℕ) → ws ≡ up_to i f found → Filled i f found ws
is_filled i f found ws e = record { long = rw e (length-up_to i f found); is = e }

module _ {i : ℕ} {f : ℕ → ℕ} {found ws : List ℕ} (w : Filled i f found ws) where
  -- the words from i on are unchanged
  pub filled_rest : (k : ℕ) → i ≤ k → get_or ws k 0 ≡ get_or found k 0
  filled_rest k h = rw w.is (up_to_rest i f found k h)

  -- one more word
  pub more_filled : (a : ℕ) → i < length found → a ≡ f i → Filled (i + 1) f found (set ws i a)
  more_filled a h e = record { long = simp length-set w.long; is = rw (w.is, e) (up_to_more i f found h) }

  -- a word that f leaves unchanged
  pub kept_filled : i < length found → f i ≡ get_or found i 0 → Filled (suc i) f found ws
  kept_filled h e = record { long = w.long; is = w.is ∙ sym (up_to_kept i f found h e) }

  -- after the last turn
  pub all_filled : (j : ℕ) → i ≡ j → ws ≡ up_to j f found
  all_filled j e = rw (← e) w.is

-- a change of the first word of each packet
abbrev pub firsts : (ℕ → ℕ) → List ℕ → ℕ → ℕ
firsts change ws k = pick (eqb (k % 4) 0) (change (get_or ws k 0)) (get_or ws k 0)

module _ (change : ℕ → ℕ) (ws : List ℕ) (k : ℕ) where
  is_first : k % 4 ≡ 0 → firsts change ws k ≡ change (get_or ws k 0)
  is_first h = rw (eq-eqb (k % 4) 0 h)

  no_first : (k % 4 ≡ 0 → ⊥) → firsts change ws k ≡ get_or ws k 0
  no_first h = rw (ne_eqb (k % 4) 0 h)

-- one more packet
pub packet_filled : (change : ℕ → ℕ) {found ws : List ℕ} (p a : ℕ) → Filled (p * 4) (firsts change found) found ws → (p + 1) * 4 ≤ length found → a ≡ change (get_or ws (p * 4) 0) → Filled ((p + 1) * 4) (firsts change found) found (set ws (p * 4) a)
packet_filled change {found} {ws} p a w h e =
    let q : a ≡ firsts change found (p * 4) = e ∙ ap change (filled_rest w (p * 4) (omega arith)) ∙ sym (is_first change found (p * 4) (omega arith)) in
    let one = more_filled w a (omega arith) q in
    let two = kept_filled one (omega arith) (no_first change found (p * 4 + 1) (λ z. omega arith)) in
    let three = kept_filled two (omega arith) (no_first change found (suc (p * 4 + 1)) (λ z. omega arith)) in
    let four = kept_filled three (omega arith) (no_first change found (suc (suc (p * 4 + 1))) (λ z. omega arith)) in
    let m : suc (suc (suc (p * 4 + 1))) ≡ (p + 1) * 4 = omega arith in
    rw m at four
