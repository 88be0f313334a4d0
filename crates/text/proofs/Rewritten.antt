-- Text written over text, and a change of the first word of each packet. Proved from the laws of `up_to`, word by word.
use Prim.Native.Nat.{ℕ, ◌+◌, ◌-◌, ◌*◌, ◌/◌, ◌%◌, ◌<◌, ◌≤◌}
use mathlib.Core.Path.{◌≡◌, refl, sym, ap, ◌∙◌}
use mathlib.Core.Bool.{Bool, true, false}
use mathlib.Core.Logic.{⊎_elim}
use mathlib.Core.List.{List}
use native.Mathlib.Omega.{arith}
use lib.ListN.{length, get_or}
use lib.Seq.{ext_get_or}
use lib.Dec.{eqb}
use borrow.Author.Tests.{eqb-true, eqb-false, le-ltb}
use Rattle.laws.specs.Pick.{pick}
use Rattle.laws.specs.Lists.{up_to}
use Rattle.laws.proofs.Pick.{below}
use Rattle.laws.proofs.Lists.{length-up_to, up_to_below, up_to_rest, up_to_over}
use Rattle.text.specs.Written.{head_octet, octet_at, word_in, word_new, whole_words, written, each_first}
use Rattle.text.proofs.Written.{octet_head, octet_text, word_text, word_zero, length-written, at_whole, at_rest}

pub written_over : (ws a b : List ℕ) (h h' : ℕ → ℕ) (cap n n' : ℕ) → written (written ws a h cap n) b h' cap n' ≡ written ws b h' cap n'
unfolding written
written_over ws a b h h' cap n n' = rw (length-up_to (whole_words ws) (word_new a h cap n) ws) (up_to_over (whole_words ws) _ _ ws)

-- ---- after the first word nothing depends on the head or on the number of packets
pub head_zero : (head j : ℕ) → 4 ≤ j → head_octet head j ≡ 0
unfolding head_octet
head_zero head j h = simp (le-ltb j 4 h)

module _ (text : List ℕ) (cap : ℕ) (hd hd' : ℕ → ℕ) (n n' : ℕ) where
  octet_past : (p j : ℕ) → 4 ≤ j → octet_at text hd cap n p j ≡ octet_at text hd' cap n' p j
  octet_past p j h =
      ⊎_elim (λ (l : j < 16 - cap). octet_head text hd cap n p j l ∙ head_zero _ j h ∙ sym (octet_head text hd' cap n' p j l ∙ head_zero _ j h))
      (λ (l : 16 - cap ≤ j). octet_text text hd cap n p j l ∙ sym (octet_text text hd' cap n' p j l)) (below j (16 - cap))

  pub word_past : (p q : ℕ) → 1 ≤ q → word_in text hd cap n p q ≡ word_in text hd' cap n' p q
  unfolding word_in
  word_past p q h = rw (octet_past p (q * 4) (omega arith), octet_past p (q * 4 + 1) (omega arith), octet_past p (q * 4 + 2) (omega arith), octet_past p (q * 4 + 3) (omega arith))

module _ (text : List ℕ) (cap n : ℕ) (hd hd' : ℕ → ℕ) where
  -- CHANGING THE FIRST WORDS IS CHANGING THE HEAD
  module _ (ws : List ℕ) (hw : n * 4 ≤ length ws) (g : ℕ → ℕ) (first : (p : ℕ) → p < n → g (word_in text hd cap n p 0) ≡ word_in text hd' cap n p 0) where
    abbrev old : List ℕ
    old = written ws text hd cap n

    abbrev new : List ℕ
    new = written ws text hd' cap n

    word_in_lem : (h : ℕ → ℕ) (k : ℕ) → k < n * 4 → get_or (written ws text h cap n) k 0 ≡ word_in text h cap n (k / 4) (k % 4)
    word_in_lem h k l = at_whole text h cap n ws k (omega arith) ∙ word_text text h cap n k l

    turned : (k w : ℕ) (b : Bool) → eqb (k % 4) 0 ≡ b → k < n * 4 → w ≡ word_in text hd cap n (k / 4) (k % 4) → pick b (g w) w ≡ word_in text hd' cap n (k / 4) (k % 4)
    turned k w true q l e = let z : k % 4 ≡ 0 = eqb-true (k % 4) 0 q in ap g (e ∙ ap (word_in text hd cap n (k / 4)) z) ∙ first (k / 4) (omega arith) ∙ ap (word_in text hd' cap n (k / 4)) (sym z)
    turned k w false q l e = e ∙ word_past text cap hd hd' n n (k / 4) (k % 4) (omega (arith, eqb-false (k % 4) 0 q))

    after : (k : ℕ) → n * 4 ≤ k → get_or old k 0 ≡ get_or new k 0
    after k l =
        ⊎_elim (λ (i : k < whole_words ws). at_whole text hd cap n ws k i ∙ word_zero text hd cap n k l ∙ sym (at_whole text hd' cap n ws k i ∙ word_zero text hd' cap n k l))
        (λ (i : whole_words ws ≤ k). at_rest text hd cap n ws k i ∙ sym (at_rest text hd' cap n ws k i)) (below k (whole_words ws))

    pub each_first_lem : each_first n g old ≡ new
    unfolding each_first
    each_first_lem =
        ext_get_or 0 _ _ (length-up_to (n * 4) _ old ∙ length-written text hd cap n ws ∙ sym (length-written text hd' cap n ws))
        (λ k h. at k (rw (length-up_to (n * 4) (λ k. pick (eqb (k % 4) 0) (g (get_or old k 0)) (get_or old k 0)) old) at h))
      where
        at : (k : ℕ) → k < length old → get_or (up_to (n * 4) (λ k. pick (eqb (k % 4) 0) (g (get_or old k 0)) (get_or old k 0)) old) k 0 ≡ get_or new k 0
        at k h =
            ⊎_elim (λ (l : k < n * 4). up_to_below (n * 4) _ old k l h ∙ turned k (get_or old k 0) (eqb (k % 4) 0) refl l (word_in_lem hd k l) ∙ sym (word_in_lem hd' k l))
            (λ (l : n * 4 ≤ k). up_to_rest (n * 4) _ old k l ∙ after k l) (below k (n * 4))
