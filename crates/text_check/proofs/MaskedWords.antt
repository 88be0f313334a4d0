-- The words of packets with everything but the text masked out: their nonzero octets are the text, for any offset. Proved from the octets of a word and by dividing a byte's number by the capacity.
use Prim.Native.Nat.{ℕ, zero, suc, ◌+◌, ◌-◌, ◌*◌, ◌/◌, ◌%◌, ◌^◌, ◌≤◌, ◌<◌}
use mathlib.Core.Path.{◌≡◌, sym, ap, ap₂, ◌∙◌}
use mathlib.Core.Logic.{⊎_elim}
use mathlib.Core.List.{List, [], ◌++◌}
use native.Mathlib.Nat.{zero-add, add-zero, zero-mul, mod-lt, lt_of_lt_of_le, div-eq_of_lt, sub-zero}
use native.Mathlib.Omega.{arith}
use lib.Dec.{eqb}
use lib.Pow.{pow_pos, pow_mono}
use lib.Bits.{bit_and, and_mask}
use lib.ListN.{get_or}
use borrow.Author.Tests.{lt-ltb, le-ltb}
use Rattle.laws.specs.Lists.{tabulate, nonzero}
use Rattle.laws.proofs.Pick.{below}
use Rattle.laws.proofs.Bits.{low_field}
use Rattle.laws.proofs.Lists.{nonzero-append, pad_dropped, tabulate-same, tabulate_join}
use Rattle.utf8.specs.Utf8.{first_bad}
use Rattle.text.specs.Octets.{octet_of}
use Rattle.text.specs.Bytes.{text_byte, all_bytes, text_of}
use Rattle.text.proofs.Bytes.{bytes_from, bytes_packet}
use Rattle.text_check.specs.FastCheck.{is_good, character_of, scan_of, mask_bits, text_mask, text_masks, text_words, after_word}
use Rattle.text_check.proofs.Progress.{WillAnswer, answer_start}
use Rattle.text_check.proofs.Numbers.{answer_word, answer_last}

-- ---- a word with only its last n octets kept

bits_few : (n j : ℕ) → j + n < 4 → mask_bits n ≤ 24 - j * 8
unfolding mask_bits
bits_few n j h = rw (lt-ltb n 4 (omega arith)) (omega arith)

bits_many : (n j : ℕ) → j < 4 → 4 ≤ j + n → 24 - j * 8 + 8 ≤ mask_bits n
unfolding mask_bits
bits_many n j l h = ⊎_elim (λ (k : n < 4). rw (lt-ltb n 4 k) (omega arith)) (λ (k : 4 ≤ n). rw (le-ltb n 4 k) (omega arith)) (below n 4)

octet_cut : (w n j : ℕ) → j + n < 4 → octet_of (w % 2 ^ mask_bits n) j ≡ 0
unfolding octet_of
octet_cut w n j h = rw (div-eq_of_lt (lt_of_lt_of_le (mod-lt w (pow_pos (mask_bits n))) (pow_mono (bits_few n j h))))

octet_left : (w n j : ℕ) → j < 4 → 4 ≤ j + n → octet_of (w % 2 ^ mask_bits n) j ≡ octet_of w j
unfolding octet_of
octet_left w n j l h = low_field w (mask_bits n) (24 - j * 8) 8 (bits_many n j l h)

-- a smaller mask keeps an octet or makes it zero
pub octet_fewer : (w n m j bound : ℕ) → m ≤ n → j < 4 → 0 < bound → octet_of (w % 2 ^ mask_bits n) j < bound → octet_of (w % 2 ^ mask_bits m) j < bound
octet_fewer w n m j bound l h some b =
    ⊎_elim (λ (k : j + m < 4). rw (octet_cut w m j k) some)
    (λ (k : 4 ≤ j + m). rw (octet_left w m j h k, sym (octet_left w n j h (omega arith))) b)
    (below (j + m) 4)

pub masked : (w end offset : ℕ) → bit_and w (text_mask end offset) ≡ w % 2 ^ mask_bits (end - offset)
unfolding text_mask
masked w end offset = and_mask w (mask_bits (end - offset))

-- ---- packets

module _ (ws : List ℕ) (offset : ℕ) where
  -- word q of packet p, masked
  abbrev masked_word : ℕ → ℕ → ℕ
  masked_word p q = get_or ws (p * 4 + q) 0 % 2 ^ mask_bits (q * 4 + 2 - offset)

  -- octet i, of sixteen, of packet p, masked
  abbrev masked_octet : ℕ → ℕ → ℕ
  masked_octet p i = octet_of (masked_word p (i / 4)) (i % 4)

  -- the masked octets of n packets from packet p on
  abbrev pub masked_from : ℕ → ℕ → List ℕ
  masked_from p zero = []
  masked_from p (suc n) = tabulate 16 (masked_octet p) ++ masked_from (suc p) n

  octet_hidden : (p i : ℕ) → i < 16 - (14 - offset) → masked_octet p i ≡ 0
  octet_hidden p i h = octet_cut (get_or ws (p * 4 + i / 4) 0) (i / 4 * 4 + 2 - offset) (i % 4) (omega arith)

  octet_seen : (p b : ℕ) → b < 14 - offset → masked_octet p (16 - (14 - offset) + b) ≡ text_byte ws (14 - offset) p b
  unfolding text_byte
  octet_seen p b h =
      let i : ℕ = 16 - (14 - offset) + b in
      octet_left (get_or ws (p * 4 + i / 4) 0) (i / 4 * 4 + 2 - offset) (i % 4) (omega arith) (omega arith)

  -- the nonzero masked octets of a packet are its nonzero text bytes
  masked_packet : (p : ℕ) → nonzero (tabulate 16 (masked_octet p)) ≡ nonzero (tabulate (14 - offset) (text_byte ws (14 - offset) p))
  unfolding nonzero
  masked_packet p =
      let cap : ℕ = 14 - offset in
      let e : 16 ≡ 16 - cap + cap = omega arith in
      ap nonzero (ap (λ (n : ℕ). tabulate n (masked_octet p)) e ∙ tabulate_join (16 - cap) cap (masked_octet p) (λ i. get_or [] i 0) (text_byte ws cap p) (octet_hidden p) (octet_seen p))
      ∙ nonzero-append (tabulate (16 - cap) (λ i. get_or [] i 0)) (tabulate cap (text_byte ws cap p))
      ∙ ap (λ (l : List ℕ). l ++ nonzero (tabulate cap (text_byte ws cap p))) (pad_dropped [] (16 - cap) (omega arith))

module _ (ws : List ℕ) (offset : ℕ) where
  masked_bytes : (n p : ℕ) → nonzero (masked_from ws offset p n) ≡ nonzero (bytes_from ws (14 - offset) p n)
  unfolding tabulate
  masked_bytes zero p = rw zero-mul
  masked_bytes (suc n) p =
      let cap : ℕ = 14 - offset in
      nonzero-append (tabulate 16 (masked_octet ws offset p)) (masked_from ws offset (suc p) n)
      ∙ ap₂ (λ (l r : List ℕ). l ++ r) (masked_packet ws offset p) (masked_bytes n (suc p))
      ∙ sym (nonzero-append (tabulate cap (text_byte ws cap p)) (bytes_from ws cap (suc p) n))
      ∙ ap nonzero (sym (bytes_packet ws cap p n))

  pub masked_text : (n : ℕ) → nonzero (masked_from ws offset 0 n) ≡ text_of ws (14 - offset) n
  unfolding all_bytes
  masked_text n = masked_bytes n 0 ∙ ap nonzero (tabulate-same (n * (14 - offset)) _ _ (λ i l. rw zero-add))

  -- ---- the loop over packets

  -- the check has reached packet p of n, and its answer will be right
  abbrev pub AtPacket : ℕ → ℕ → ℕ → Type 0
  AtPacket s p n = WillAnswer (scan_of s) (nonzero (masked_from ws offset p (n - p))) (is_good (first_bad (text_of ws (14 - offset) n)))

  pub packets_begin : (n : ℕ) → AtPacket 0 0 n
  unfolding character_of
  packets_begin n = rw (sub-zero n, masked_text n) (answer_start (text_of ws (14 - offset) n))

  pub packets_turn : (s p n : ℕ) → p < n → AtPacket s p n → AtPacket (after_word (after_word (after_word (after_word s (bit_and (get_or ws (p * 4) 0) (text_mask 2 offset))) (bit_and (get_or ws (p * 4 + 1) 0) (text_mask 6 offset))) (bit_and (get_or ws (p * 4 + 2) 0) (text_mask 10 offset))) (bit_and (get_or ws (p * 4 + 3) 0) (text_mask 14 offset))) (p + 1) n
  unfolding tabulate
  packets_turn s p n h st =
      let m : n - p ≡ suc (n - suc p) = omega arith in
      let q : p + 1 ≡ suc p = omega arith in
      let first = masked (get_or ws (p * 4) 0) 2 offset ∙ ap (λ (k : ℕ). get_or ws k 0 % 2 ^ mask_bits (2 - offset)) (sym (add-zero (p * 4))) in
      rw (q, first, masked (get_or ws (p * 4 + 1) 0) 6 offset, masked (get_or ws (p * 4 + 2) 0) 10 offset, masked (get_or ws (p * 4 + 3) 0) 14 offset)
      (answer_word _ (masked_word ws offset p 3) _ (answer_word _ (masked_word ws offset p 2) _ (answer_word _ (masked_word ws offset p 1) _ (answer_word s (masked_word ws offset p 0) _ (rw m at st)))))

  -- the same for what the code has: masks, words under them, and the number r after them
  pub packet_passed : (s r p n : ℕ) (masks text : List ℕ) → p < n → masks ≡ text_masks offset → text ≡ text_words ws masks p → r ≡ after_word (after_word (after_word (after_word s (get_or text 0 0)) (get_or text 1 0)) (get_or text 2 0)) (get_or text 3 0) → AtPacket s p n → AtPacket r (p + 1) n
  packet_passed s r p n masks text h m t e st = rw (e, t, m) (packets_turn s p n h st)

  pub packets_finish : (s p n : ℕ) → n ≤ p → AtPacket s p n → eqb (s % 0x100) 0 ≡ is_good (first_bad (text_of ws (14 - offset) n))
  unfolding nonzero
  packets_finish s p n h st = let z : n - p ≡ 0 = omega arith in answer_last s _ (rw z at st)
