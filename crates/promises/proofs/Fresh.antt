-- A fresh message is the buffer of the starting values, and these are good. For any row: without text the first word is the head, and all else is zero.
use Prim.Native.Nat.{ℕ, zero, suc, ◌+◌, ◌-◌, ◌*◌, ◌/◌, ◌≤◌, ◌<◌}
use mathlib.Core.Path.{◌≡◌, sym, ap, ◌∙◌, fun_ext}
use mathlib.Core.Bool.{true}
use mathlib.Core.Logic.{⊎_elim}
use mathlib.Core.List.{List, [], ◌∷◌}
use native.Mathlib.Omega.{arith}
use lib.ListN.{length}
use lib.Dec.{eqb, eqb-suc-zero}
use Rattle.laws.specs.Pick.{pick}
use Rattle.laws.specs.Lists.{up_to}
use Rattle.laws.proofs.Pick.{below}
use Rattle.slots.specs.Slots.{Slot, put_all, fits, words_below}
use Rattle.text.specs.Octets.{needed, due_format}
use Rattle.text.specs.Written.{octet_at, word_in, word_new, whole_words, written, blank}
use Rattle.text.proofs.Written.{octet_head, octet_text, word_text, word_zero}
use Rattle.kinds.specs.Fields.{Text, start}
use Rattle.kinds.specs.Layout.{Part, texts, Row, parts}
use Rattle.standard.specs.Heads.{head_word}
use Rattle.standard.specs.Words.{put_word, head_of, encode_in}
use Rattle.standard.proofs.OneWord.{put_first}
use Rattle.standard.proofs.TextHead.{empty_first, head_first, no_small}
use Rattle.text.proofs.Rewritten.{head_zero}
use Rattle.kinds.proofs.Rows.{TextRow}

-- ---- a blank buffer: the head, then words that do not depend on it
after : ℕ → List ℕ → List ℕ
after n ws = up_to (n / 4 * 4 - 1) (λ k. 0) ws

blank_cons : (head w : ℕ) (ws : List ℕ) → 3 ≤ length ws → blank head (w ∷ ws) ≡ head ∷ after (suc (length ws)) ws
unfolding blank up_to after
blank_cons head w ws l =
    let e : suc (length ws) / 4 * 4 ≡ suc (suc (length ws) / 4 * 4 - 1) = omega arith in
    ap (λ (n : ℕ). up_to n (λ k. pick (eqb k 0) head 0) (w ∷ ws)) e ∙ simp eqb-suc-zero

-- a table put into the first word is put into the head
blank_put : (t : List (Slot Part)) (v : Part → ℕ) (head : ℕ) (ws : List ℕ) → words_below 1 t ≡ true → 4 ≤ length ws → put_all t v (blank head ws) ≡ blank (put_word t v head) ws
blank_put t v head [] lo l = absurd (omega arith)
blank_put t v head (w ∷ ws) lo l = ap (put_all t v) (blank_cons head w ws (omega arith)) ∙ put_first t v head _ lo ∙ sym (blank_cons (put_word t v head) w ws (omega arith))

-- ---- empty text: one packet, zero except for its first word
octet_none : (head : ℕ → ℕ) (cap j : ℕ) → 4 ≤ j → octet_at [] head cap 1 0 j ≡ 0
octet_none head cap j h =
    ⊎_elim (λ (l : j < 16 - cap). octet_head [] head cap 1 0 j l ∙ head_zero _ j h) (λ (l : 16 - cap ≤ j). octet_text [] head cap 1 0 j l) (below j (16 - cap))

word_none : (head : ℕ → ℕ) (cap q : ℕ) → 1 ≤ q → word_in [] head cap 1 0 q ≡ 0
unfolding word_in
word_none head cap q h = rw (octet_none head cap (q * 4) (omega arith), octet_none head cap (q * 4 + 1) (omega arith), octet_none head cap (q * 4 + 2) (omega arith), octet_none head cap (q * 4 + 3) (omega arith))

new_word : (head : ℕ → ℕ) (cap k : ℕ) → word_new [] head cap 1 k ≡ pick (eqb k 0) (word_in [] head cap 1 0 0) 0
new_word head cap zero = word_text [] head cap 1 0 (omega arith)
new_word head cap (suc zero) = word_text [] head cap 1 1 (omega arith) ∙ word_none head cap 1 (omega arith)
new_word head cap (suc (suc zero)) = word_text [] head cap 1 2 (omega arith) ∙ word_none head cap 2 (omega arith)
new_word head cap (suc (suc (suc zero))) = word_text [] head cap 1 3 (omega arith) ∙ word_none head cap 3 (omega arith)
new_word head cap (suc (suc (suc (suc k)))) = rw eqb-suc-zero (word_zero [] head cap 1 (suc (suc (suc (suc k)))) (omega arith))

none_written : (head : ℕ → ℕ) (cap : ℕ) (ws : List ℕ) → written ws [] head cap 1 ≡ blank (word_in [] head cap 1 0 0) ws
unfolding written blank
none_written head cap ws = ap (λ (f : ℕ → ℕ). up_to (whole_words ws) f ws) (fun_ext (new_word head cap))

-- ---- fixed kinds and text kinds
module _ (ws : List ℕ) (l : 4 ≤ length ws) (r : Row) where
  text_first : (from : ℕ) → TextRow r from → (v : Part → ℕ) → fits r.fields v ≡ true → word_in [] (λ f. put_word r.fields v (head_word r.status f)) (16 - from) 1 0 0 ≡ put_word r.fields v (head_word r.status 0)
  unfolding due_format
  text_first from k v f =
      head_first [] no_small 1 0 from r.status k.least k.most k.status r.fields k.text k.bits k.first v f
      ∙ ap (put_word r.fields v) (empty_first r.status 1 0 k.status from k.least k.most)

  pub text_fresh : (x : Text) (from : ℕ) → TextRow r from → fits r.fields (parts start) ≡ true → put_all r.fields (parts start) (blank (head_word r.status 0) ws) ≡ encode_in (texts x from) r ws start
  unfolding encode_in needed start
  text_fresh x from k f =
      blank_put r.fields (parts start) (head_word r.status 0) ws k.first l
      ∙ ap (λ (w : ℕ). blank w ws) (sym (text_first from k (parts start) f)) ∙ sym (none_written (head_of r start) (16 - from) ws)
