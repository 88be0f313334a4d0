-- What is cleared and written, turn by turn and at the end. From the laws of `Filled` of fields.
use Prim.Native.Nat.{ℕ, zero, suc, ◌+◌, ◌-◌, ◌*◌, ◌/◌, ◌<◌, ◌≤◌}
use mathlib.Core.Path.{◌≡◌, refl, sym, ap, ◌∙◌}
use mathlib.Core.Logic.{⊎_elim}
use mathlib.Core.List.{List, [], ◌∷◌}
use native.Mathlib.Omega.{arith}
use native.Mathlib.Nat.{add-zero}
use lib.ListN.{length, get_or, set}
use lib.Seq.{ext_get_or}
use borrow.Author.Tests.{lt-ltb, le-ltb, lt-leb, ne_eqb}
use lib.Dec.{ltb, eqb}
use borrow.Author.Rules.{rules}
use Rattle.std.specs.Ordering.{ord_min, nat_cmp}
use Rattle.laws.specs.Pick.{pick}
use Rattle.laws.specs.Lists.{up_to}
use Rattle.laws.proofs.Pick.{below}
use Rattle.laws.proofs.Lists.{length-up_to, up_to_below, up_to_rest}
use Rattle.counts.specs.Counts.{first_word, wrapped}
use Rattle.counts.specs.declared.PacketNumber.{PacketNumber}
use Rattle.counts.specs.declared.WordNumber.{WordNumber}
use Rattle.counts.proofs.Wraps.{first-word}
use Rattle.text.specs.Octets.{due_format}
use Rattle.text.specs.Written.{word_in, word_new, whole_words, blank, written}
use Rattle.text.proofs.Written.{word-packet}
use Rattle.fields.proofs.Filled.{Filled, none_filled, more_filled, kept_filled}
use Rattle.buffer.specs.Acts.{packet_words, packet_set, clear_from, formatted, fill_text}
use Rattle.buffer.proofs.Octets.{same_head}

-- at the start, if f leaves the first i words unchanged
pub found_filled : (i : ℕ) (f : ℕ → ℕ) (ws : List ℕ) → i ≤ length ws → ((k : ℕ) → k < i → f k ≡ get_or ws k 0) → Filled i f ws ws
found_filled zero f ws l h = none_filled f ws
found_filled (suc i) f ws l h = kept_filled (found_filled i f ws (omega arith) (λ k m. h k (omega arith))) (omega arith) (h i (omega arith))

-- four more words
pub four_filled : {f : ℕ → ℕ} {found ws : List ℕ} (g : ℕ → ℕ) (k : ℕ) → Filled k f found ws → k + 4 ≤ length found → g 0 ≡ f k → g 1 ≡ f (k + 1) → g 2 ≡ f (k + 2) → g 3 ≡ f (k + 3) → Filled (k + 4) f found (packet_set g k ws)
four_filled {f} {found} g k w h e₀ e₁ e₂ e₃ =
    let s₂ : k + 1 + 1 ≡ k + 2 = omega arith in
    let s₃ : k + 2 + 1 ≡ k + 3 = omega arith in
    let s₄ : k + 3 + 1 ≡ k + 4 = omega arith in
    let one = more_filled w (g 0) (omega arith) e₀ in
    let two = (rw s₂ at (more_filled one (g 1) (omega arith) e₁)) in
    let three = (rw s₃ at (more_filled two (g 2) (omega arith) e₂)) in
    rw s₄ at (more_filled three (g 3) (omega arith) e₃)

-- four words, each the one that f gives
pub four_words : (f : ℕ → ℕ) (a b c d : ℕ) → a ≡ f 0 → b ≡ f 1 → c ≡ f 2 → d ≡ f 3 → a ∷ b ∷ c ∷ d ∷ [] ≡ f 0 ∷ f 1 ∷ f 2 ∷ f 3 ∷ []
four_words f a b c d ea eb ec ed = rw (ea, eb, ec, ed)

-- the same, put into a buffer
pub four_set : (f : ℕ → ℕ) (ws : List ℕ) (a b c d k k' : ℕ) → a ≡ f 0 → b ≡ f 1 → c ≡ f 2 → d ≡ f 3 → k' ≡ k → set (set (set (set ws k' a) (k' + 1) b) (k' + 2) c) (k' + 3) d ≡ packet_set f k ws
four_set f ws a b c d k k' ea eb ec ed ek = rw (ea, eb, ec, ed, ek)

-- the first word of a packet, as the code has it
pub word_of : (p : PacketNumber) (w : WordNumber) → p.0 ≤ 64 → w ≡ wrapped (first_word p) → w.0 ≡ p.0 * 4
word_of p w h e = ap (λ (x : WordNumber). x.0) (e ∙ first-word p.0 (omega arith))

-- one more packet, where its four words are those of the written text
pub text_more : (text : List ℕ) (head : ℕ → ℕ) (cap n p : ℕ) {found ws : List ℕ} → Filled (p * 4) (word_new text head cap n) found ws → p < n → p * 4 + 4 ≤ length found → Filled ((p + 1) * 4) (word_new text head cap n) found (packet_set (word_in text head cap n p) (p * 4) ws)
text_more text head cap n p {found} {ws} w h l =
    let m : p * 4 + 4 ≡ (p + 1) * 4 = omega arith in
    let z = word-packet text head cap n p 0 h (omega arith) in
    rw m at
    (four_filled {f = word_new text head cap n} {found = found} {ws = ws} (word_in text head cap n p) (p * 4) w l
    (sym (rw (add-zero (p * 4)) at z)) (sym (word-packet text head cap n p 1 h (omega arith))) (sym (word-packet text head cap n p 2 h (omega arith))) (sym (word-packet text head cap n p 3 h (omega arith))))

-- the same, where the packet has its own head and was made apart from the others
pub packet_more : (text : List ℕ) (head : ℕ → ℕ) (offset n p : ℕ) {o h m : ℕ} {found ws four after : List ℕ} → Filled (p * 4) (word_new text head (14 - offset) n) found ws → p < n → p * 4 + 4 ≤ length found → m ≡ p → o ≡ offset → h ≡ head (due_format n p) → four ≡ packet_words text o h m → after ≡ packet_set (λ q. get_or four q 0) (m * 4) ws → Filled ((p + 1) * 4) (word_new text head (14 - offset) n) found after
packet_more text head offset n p {h = h} {found = found} {ws = ws} w l r em eo eh e ea =
    let is : (q : ℕ) → word_in text (λ f. h) (14 - offset) 0 p q ≡ word_in text head (14 - offset) n p q = λ q. same_head text head (14 - offset) n p q h eh in
    rw (ea, e, em, eo, is 0, is 1, is 2, is 3) (text_more text head (14 - offset) n p {found = found} {ws = ws} w l r)

-- filled up to word i, and zero from there on
module _ (f : ℕ → ℕ) (i : ℕ) (ws : List ℕ) (l : i ≤ whole_words ws) (z : (k : ℕ) → i ≤ k → k < whole_words ws → 0 ≡ f k) where
  abbrev cleared : ℕ → ℕ
  cleared k = pick (ltb k i) (get_or (up_to i f ws) k 0) 0

  is_cleared : (k : ℕ) → k < length ws → k < whole_words ws → cleared k ≡ f k
  is_cleared k h l = ⊎_elim (λ (m : k < i). rw (lt-ltb k i m) (up_to_below i f ws k m h)) (λ (m : i ≤ k). rw (le-ltb k i m) (z k m l)) (below k i)

  pub clear_rest : clear_from i (up_to i f ws) ≡ up_to (whole_words ws) f ws
  unfolding clear_from
  clear_rest =
      rw (length-up_to i f ws)
      (ext_get_or 0 _ _ (length-up_to (whole_words ws) cleared (up_to i f ws) ∙ length-up_to i f ws ∙ sym (length-up_to (whole_words ws) f ws))
      (λ k h. at k (rw (length-up_to (whole_words ws) cleared (up_to i f ws), length-up_to i f ws) at h)))
    where
      at : (k : ℕ) → k < length ws → get_or (up_to (whole_words ws) cleared (up_to i f ws)) k 0 ≡ get_or (up_to (whole_words ws) f ws) k 0
      at k h =
          ⊎_elim (λ (m : k < whole_words ws). up_to_below (whole_words ws) cleared (up_to i f ws) k m (rw (length-up_to i f ws) h) ∙ is_cleared k h m ∙ sym (up_to_below (whole_words ws) f ws k m h))
          (λ (m : whole_words ws ≤ k). up_to_rest (whole_words ws) cleared (up_to i f ws) k m ∙ up_to_rest i f ws k (omega arith) ∙ sym (up_to_rest (whole_words ws) f ws k m)) (below k (whole_words ws))

pub length_cleared : (i : ℕ) (ws : List ℕ) → length (clear_from i ws) ≡ length ws
unfolding clear_from
length_cleared i ws = length-up_to _ _ ws

-- every packet zero, with a head in the first
module _ (head : ℕ) (ws : List ℕ) where
  pub blank_none : length ws < 4 → ws ≡ blank head ws
  unfolding blank up_to
  blank_none h = let e : length ws / 4 * 4 ≡ 0 = omega arith in rw e

  pub blank_cleared : 4 ≤ length ws → clear_from 1 (set ws 0 head) ≡ blank head ws
  unfolding blank
  blank_cleared h =
      let f : ℕ → ℕ = λ k. pick (eqb k 0) head 0 in
      let w : Filled (0 + 1) f ws (set ws 0 head) = more_filled (none_filled f ws) head (omega arith) refl in
      ap (clear_from 1) w.is ∙ clear_rest f 1 ws (omega arith) (λ k l m. rw (ne_eqb k 0 (λ e. omega arith)))

-- when text is written
pub text_filled : (text : List ℕ) (offset head n : ℕ) (ws : List ℕ) → offset < 14 → n ≤ 64 → fill_text text offset head n ws ≡ written ws text (formatted head) (14 - offset) n
unfolding fill_text
text_filled text offset head n ws h l = rw (lt-leb 14 offset h, le-ltb 64 n l)

-- the smaller of two numbers of packets
pub record Fewest (a b n : ℕ) : Type 0 where
  pub first : n ≤ a
  pub second : n ≤ b
  pub either : n < b → n ≡ a

pub fewest : (a b n : PacketNumber) → n ≡ ord_min (λ x y. nat_cmp x.0 y.0) a b → Fewest a.0 b.0 n.0
fewest a b n e = record { first = rw e (search rules); second = rw e (search rules); either = rw e (search rules) }
