-- The text of packets, word by word: the octets without zeros of each packet's words, the first of them cut to its text. Proved from the bytes of a packet.
use Prim.Native.Nat.{ℕ, zero, suc, ◌+◌, ◌-◌, ◌*◌, ◌/◌, ◌%◌, ◌^◌, ◌<◌, ◌≤◌}
use mathlib.Core.Path.{◌≡◌, refl, sym, ap, ap₂, ◌∙◌}
use mathlib.Core.List.{List, [], ◌∷◌, ◌++◌, append_assoc}
use native.Mathlib.Nat.{div-one, add-zero, zero-add, zero-mul, sub-zero}
use native.Mathlib.Omega.{arith}
use lib.ListN.{length, get_or, drop, length-append, drop_of_length-le}
use lib.Seq.{drop-cons, sets-eq}
use mathlib.Core.Bool.{Bool, true, false}
use native.Mathlib.Numerals.{add-one}
use Rattle.laws.specs.Pick.{pick}
use Rattle.laws.proofs.Pick.{true_false}
use Rattle.std.specs.Prelude.{◌==◌, not, cond, ◌&&◌}
use Rattle.std.specs.List.{count_by, list_all}
use Rattle.std.proofs.lemmas.List.Recursion.{is_count_by}
use Rattle.laws.specs.Lists.{tabulate, nonzero}
use Rattle.laws.proofs.Lists.{nonzero-none, nonzero-append, nonzero_zero, nonzero_kept, tabulate-same}
use Rattle.text.specs.Octets.{octet_of}
use Rattle.text.specs.Bytes.{text_byte, all_bytes, text_of}
use Rattle.text.proofs.Bytes.{bytes_from, bytes_packet}
use Rattle.text_copy.specs.Words.{octets_of, first_text, text_words_at, packet_text}
use borrow.Rule.Slice.PartMut.{put_mid, Post-is}
use Rattle.ascii_lines.specs.Page.{Wrote}
use Rattle.ascii_lines.proofs.FromLast.{whole}
use Rattle.std.specs.Int.{w32, to_be_bytes}

-- ---- zeros dropped from four parts of a list are dropped from the whole
pub four_joined : (a b c d : List ℕ) → nonzero a ++ nonzero b ++ nonzero c ++ nonzero d ≡ nonzero (a ++ b ++ c ++ d)
four_joined a b c d = rw (nonzero-append (a ++ b ++ c) d, nonzero-append (a ++ b) c, nonzero-append a b)

-- the library's bytes of a word, the highest first, are its octets
pub be_octets : (w : ℕ) → to_be_bytes w32 w ≡ octets_of w
unfolding octet_of
be_octets w = rw div-one

-- four octets in their place in a page are all of them written
pub four_here : (i : ℕ) (o u : List ℕ) → length u ≡ 4 → i + 4 ≤ length o → Wrote i o u (i + 4) (put_mid i (i + 4 - i) o u)
four_here i o u n h =
    let w = whole o u i (sym (sets-eq u o i (omega arith))) (omega arith) in
    rw (Post-is i (i + 4) o (omega arith), ← append_assoc) (rw n at w)

-- what is left of some octets at a place without zeros
module _ (xs : List ℕ) (i : ℕ) (h : i < length xs) where
  pub octet_more : (get_or xs i 0 ≡ 0 → ⊥) → nonzero (drop i xs) ≡ (get_or xs i 0 ∷ []) ++ nonzero (drop (i + 1) xs)
  octet_more n = rw (add-one, drop-cons xs i 0 h) (nonzero_kept _ _ n)

  pub octet_none : get_or xs i 0 ≡ 0 → nonzero (drop i xs) ≡ nonzero (drop (i + 1) xs)
  octet_none e = rw (add-one, drop-cons xs i 0 h) (nonzero_zero _ _ e)

pub octets_none : (xs : List ℕ) (i : ℕ) → length xs ≤ i → nonzero (drop i xs) ≡ []
octets_none xs i h = rw (drop_of_length-le xs h) nonzero-none

-- how many octets of a word are not zero
nonzero_count : (xs : List ℕ) → length (nonzero xs) ≡ count_by (λ x. not (x == 0)) xs
unfolding nonzero
nonzero_count = is_count_by (λ l. length (nonzero l)) (λ x. not (x == 0)) refl (λ x xs. go x xs (x == 0))
  where
    go : (x : ℕ) (xs : List ℕ) (b : Bool) → length (pick b (nonzero xs) (x ∷ nonzero xs)) ≡ cond (not b) (1 + length (nonzero xs)) (length (nonzero xs))
    go x xs true = refl {A = ℕ}
    go x xs false = omega arith

pub word_count : (w : ℕ) → count_by (λ x. not (x == 0)) (to_be_bytes w32 w) ≡ length (nonzero (octets_of w))
word_count w = sym (nonzero_count _) ∙ ap (λ (o : List ℕ). length (nonzero o)) (be_octets w)

-- octets of which none is zero all stay
pub none_zero : (xs : List ℕ) → list_all (λ x. not (x == 0)) xs ≡ true → nonzero xs ≡ xs
unfolding nonzero
none_zero [] h = refl
none_zero (x ∷ xs) h = kept x xs (none_zero xs) (x == 0) h
  where
    kept : (x : ℕ) (xs : List ℕ) → (list_all (λ x. not (x == 0)) xs ≡ true → nonzero xs ≡ xs) → (b : Bool) → not b && list_all (λ x. not (x == 0)) xs ≡ true → pick b (nonzero xs) (x ∷ nonzero xs) ≡ x ∷ xs
    kept x xs r false h = ap (λ (l : List ℕ). x ∷ l) (r h)
    kept x xs r true h = true_false (sym h)

pub four_lengths : (a b c d : List ℕ) → length a + length b + length c + length d ≡ length (a ++ b ++ c ++ d)
four_lengths a b c d = rw (length-append, length-append, length-append)

-- ---- the first word of a packet, with text from octet 2 or from octet 3 on
first_from_2 : (w : ℕ) → nonzero (octets_of (first_text w 0)) ≡ nonzero (octet_of w 2 ∷ octet_of w 3 ∷ [])
unfolding first_text octet_of
first_from_2 w =
    let a : w % 0x10000 / 2 ^ 24 % 2 ^ 8 ≡ 0 = omega arith in
    let b : w % 0x10000 / 2 ^ 16 % 2 ^ 8 ≡ 0 = omega arith in
    let c : w % 0x10000 / 2 ^ 8 % 2 ^ 8 ≡ w / 2 ^ 8 % 2 ^ 8 = omega arith in
    let d : w % 0x10000 / 2 ^ 0 % 2 ^ 8 ≡ w / 2 ^ 0 % 2 ^ 8 = omega arith in
    nonzero_zero _ _ a ∙ nonzero_zero _ _ b ∙ ap nonzero (ap₂ (λ (x y : ℕ). x ∷ y ∷ []) c d)

first_from_3 : (w : ℕ) → nonzero (octets_of (first_text w 1)) ≡ nonzero (octet_of w 3 ∷ [])
unfolding first_text octet_of
first_from_3 w =
    let a : w % 0x100 / 2 ^ 24 % 2 ^ 8 ≡ 0 = omega arith in
    let b : w % 0x100 / 2 ^ 16 % 2 ^ 8 ≡ 0 = omega arith in
    let c : w % 0x100 / 2 ^ 8 % 2 ^ 8 ≡ 0 = omega arith in
    let d : w % 0x100 / 2 ^ 0 % 2 ^ 8 ≡ w / 2 ^ 0 % 2 ^ 8 = omega arith in
    nonzero_zero _ _ a ∙ nonzero_zero _ _ b ∙ nonzero_zero _ _ c ∙ ap nonzero (ap (λ (x : ℕ). x ∷ []) d)

-- ---- a packet, and the packets from one on
module _ (ws : List ℕ) where
  -- word q of packet p
  abbrev word_at : ℕ → ℕ → ℕ
  word_at p q = get_or ws (p * 4 + q) 0

  -- the octets without zeros of packet p's words
  abbrev pub packet_at : ℕ → ℕ → List ℕ
  packet_at offset p = packet_text (text_words_at ws offset p)

  -- the text of the packets from packet p on
  abbrev pub left : ℕ → ℕ → List ℕ
  left offset p = nonzero (bytes_from ws (14 - offset) p (length ws / 4 - p))

  packet_bytes : (offset p : ℕ) → offset < 2 → nonzero (tabulate (14 - offset) (text_byte ws (14 - offset) p)) ≡ packet_at offset p
  unfolding tabulate text_byte
  packet_bytes zero p h =
      rw (add-zero (p * 4), first_from_2 (get_or ws (p * 4) 0))
      (sym (four_joined (octet_of (get_or ws (p * 4) 0) 2 ∷ octet_of (get_or ws (p * 4) 0) 3 ∷ []) (octets_of (word_at p 1)) (octets_of (word_at p 2)) (octets_of (word_at p 3))))
  packet_bytes (suc zero) p h =
      rw (add-zero (p * 4), first_from_3 (get_or ws (p * 4) 0))
      (sym (four_joined (octet_of (get_or ws (p * 4) 0) 3 ∷ []) (octets_of (word_at p 1)) (octets_of (word_at p 2)) (octets_of (word_at p 3))))
  packet_bytes (suc (suc offset)) p h = absurd (omega arith)

  pub left_all : (offset : ℕ) → left offset 0 ≡ text_of ws (14 - offset) (length ws / 4)
  unfolding all_bytes
  left_all offset = rw (sub-zero (length ws / 4)) (ap nonzero (tabulate-same (length ws / 4 * (14 - offset)) _ _ (λ i l. rw zero-add)))

  pub left_more : (offset p : ℕ) → offset < 2 → p < length ws / 4 → left offset p ≡ packet_at offset p ++ left offset (p + 1)
  left_more offset p h l =
      let m : length ws / 4 - p ≡ suc (length ws / 4 - (p + 1)) = omega arith in
      let q : suc p ≡ p + 1 = omega arith in
      rw (m, bytes_packet ws (14 - offset) p (length ws / 4 - (p + 1)), q, ← packet_bytes offset p h)
      (nonzero-append (tabulate (14 - offset) (text_byte ws (14 - offset) p)) (bytes_from ws (14 - offset) (p + 1) (length ws / 4 - (p + 1))))

  -- the same in lengths
  pub length_more : (offset p : ℕ) → offset < 2 → p < length ws / 4 → length (left offset p) ≡ length (packet_at offset p) + length (left offset (p + 1))
  length_more offset p h l = ap length (left_more offset p h l) ∙ length-append (packet_at offset p) (left offset (p + 1))

  pub left_none : (offset p : ℕ) → length ws / 4 ≤ p → left offset p ≡ []
  unfolding tabulate
  left_none offset p h = let z : length ws / 4 - p ≡ 0 = omega arith in rw (z, zero-mul, nonzero-none)
