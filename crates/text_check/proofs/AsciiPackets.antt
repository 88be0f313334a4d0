-- ASCII text in packets is UTF-8: each packet leaves no character open. If text is ASCII from octet 2 on, it is so from any later octet on: a smaller mask leaves fewer octets.
use Rattle.std.specs.Prelude.{Ok}
use Prim.Native.Nat.{ℕ, zero, suc, ◌+◌, ◌-◌, ◌*◌, ◌/◌, ◌%◌, ◌^◌, ◌≤◌, ◌<◌}
use mathlib.Core.Path.{◌≡◌, sym}
use mathlib.Core.Bool.{true, false}
use mathlib.Core.Logic.{⊎_elim}
use mathlib.Core.List.{List}
use native.Mathlib.Numerals.{add-one}
use native.Mathlib.Omega.{arith}
use lib.Dec.{leb, ltb, lit≤}
use lib.ListN.{length, get_or}
use borrow.Author.Tests.{lt-leb, lt-ltb, ltb-true}
use Rattle.laws.proofs.Pick.{true_false, passed, below}
use Rattle.laws.proofs.EachBelow.{four_hold}
use Rattle.utf8.specs.Utf8.{first_bad}
use Rattle.text.specs.Octets.{octet_of}
use Rattle.text.specs.Bytes.{text_of}
use Rattle.text_check.specs.FastCheck.{mask_bits, text_masks, text_words, text_word, ascii_word, ascii_words, ascii_texts, ascii_packet, AsciiStart}
use Rattle.text_check.proofs.Places.{good_is}
use Rattle.text_check.proofs.KnownSteps.{ascii_word_stays}
use Rattle.text_check.proofs.MaskedWords.{octet_fewer, masked, AtPacket, packets_begin, packets_turn, packets_finish}

module _ (ws : List ℕ) (offset : ℕ) where
  -- the look at a packet that is there
  pub ascii_here : (p : ℕ) (masks text : List ℕ) → p < length ws / 4 → masks ≡ text_masks offset → text ≡ text_words ws masks p → ascii_packet ws offset p ≡ ascii_words (get_or text 0 0) (get_or text 1 0) (get_or text 2 0) (get_or text 3 0)
  unfolding ascii_packet
  ascii_here p masks text h m t = rw (lt-leb (length ws / 4) p h, t, m)

  packet_turn : (p n : ℕ) → p < n → ascii_packet ws offset p ≡ true → AtPacket ws offset 0 p n → AtPacket ws offset 0 (p + 1) n
  unfolding ascii_packet
  packet_turn p n h e st =
      let all : ascii_texts ws offset p ≡ true = (passed (leb (length ws / 4) p) false (ascii_texts ws offset p) true (λ q. true_false (sym q)) e).1 in
      let t = four_hold _ _ _ _ all in
      rw (ascii_word_stays _ t.0, ascii_word_stays _ t.1, ascii_word_stays _ t.2, ascii_word_stays _ t.3) at (packets_turn ws offset 0 p n h st)

  -- after k ASCII packets no character is open
  ascii_passed : (n k : ℕ) → k ≤ n → ((p : ℕ) → p < k → ascii_packet ws offset p ≡ true) → AtPacket ws offset 0 k n
  ascii_passed n zero h plain = packets_begin ws offset n
  ascii_passed n (suc k) h plain = rw add-one at (packet_turn k n (omega arith) (plain k (omega arith)) (ascii_passed n k (omega arith) (λ p l. plain p (omega arith))))

  -- ---- packets at the start, one more at a time
  pub ascii-none : AsciiStart ws offset 0
  ascii-none = record { in_bounds = omega arith; ascii = λ p l. absurd (omega arith) }

  pub ascii_more : {k : ℕ} → AsciiStart ws offset k → k < length ws / 4 → ascii_packet ws offset k ≡ true → AsciiStart ws offset (k + 1)
  ascii_more {k} s h e =
      record {
        in_bounds = omega arith;
        ascii = λ p l. ⊎_elim (s.ascii p) (λ (b : k ≤ p). let q : p ≡ k = omega arith in rw q e) (below p k);
      }

  pub ascii_reached : {k : ℕ} → AsciiStart ws offset k → AtPacket ws offset 0 k (length ws / 4)
  ascii_reached {k} s = ascii_passed (length ws / 4) k s.in_bounds s.ascii

  -- ASCII TEXT IS UTF-8
  pub ascii_good : (n : ℕ) → ((p : ℕ) → p < n → ascii_packet ws offset p ≡ true) → first_bad (text_of ws (14 - offset) n) ≡ Ok tt
  ascii_good n plain = sym (good_is _ (sym (packets_finish ws offset 0 n n (omega arith) (ascii_passed n n (omega arith) plain))))

-- ---- text that starts at a later octet
octets-ascii : (w : ℕ) → ltb (octet_of w 0) 128 ≡ true → ltb (octet_of w 1) 128 ≡ true → ltb (octet_of w 2) 128 ≡ true → ltb (octet_of w 3) 128 ≡ true → ascii_word w ≡ true
unfolding ascii_word
octets-ascii w a b c d = rw (a, b, c, d)

module _ (w n m : ℕ) (l : m ≤ n) where
  fewer : (j : ℕ) → j < 4 → ltb (octet_of (w % 2 ^ mask_bits n) j) 128 ≡ true → ltb (octet_of (w % 2 ^ mask_bits m) j) 128 ≡ true
  fewer j h b = lt-ltb _ _ (octet_fewer w n m j 128 l h (lit≤ tt) (ltb-true _ _ b))

  ascii_fewer : ascii_word (w % 2 ^ mask_bits n) ≡ true → ascii_word (w % 2 ^ mask_bits m) ≡ true
  unfolding ascii_word
  ascii_fewer e =
      let v = w % 2 ^ mask_bits n in
      let t = four_hold (ltb (octet_of v 0) 128) (ltb (octet_of v 1) 128) (ltb (octet_of v 2) 128) (ltb (octet_of v 3) 128) e in
      octets-ascii (w % 2 ^ mask_bits m) (fewer 0 (lit≤ tt) t.0) (fewer 1 (lit≤ tt) t.1) (fewer 2 (lit≤ tt) t.2) (fewer 3 (lit≤ tt) t.3)

module _ (ws : List ℕ) (offset p : ℕ) where
  word-later : (at end : ℕ) → ascii_word (text_word ws 0 at end) ≡ true → ascii_word (text_word ws offset at end) ≡ true
  word-later at end e = rw (masked (get_or ws at 0) end offset) (ascii_fewer (get_or ws at 0) (end - 0) (end - offset) (omega arith) (rw (masked (get_or ws at 0) end 0) at e))

  -- a packet that is ASCII from octet 2 on is ASCII from any later octet on
  pub ascii-later : ascii_packet ws 0 p ≡ true → ascii_packet ws offset p ≡ true
  unfolding ascii_packet
  ascii-later e =
      let t = passed (leb (length ws / 4) p) false (ascii_texts ws 0 p) true (λ q. true_false (sym q)) e in
      let f = four_hold _ _ _ _ t.1 in
      rw (t.0, word-later (p * 4) 2 f.0, word-later (p * 4 + 1) 6 f.1, word-later (p * 4 + 2) 10 f.2, word-later (p * 4 + 3) 14 f.3)
