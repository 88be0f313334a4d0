-- The fast check: the scan between words as one number, the looks that replace it for common text, and the masks that select the text of a packet's words.
use Rattle.std.specs.Prelude.{ℕ, ◌+◌, ◌-◌, ◌*◌, ◌/◌, ◌%◌, ◌^◌, ◌≤◌, ◌<◌, ◌≡◌, Bool, true, false, not, ◌&&◌, List, [], ◌∷◌, eqb, ltb, leb, get_or, drop, length, Result, Ok, Err}
use Rattle.std.specs.Int.Bits.{bit_and}
use Rattle.laws.specs.Pick.{pick}
use Rattle.counts.specs.Counts.{byte}
use Rattle.utf8.specs.Utf8.{first_bad}
use Rattle.utf8.specs.Scan.{Scan, after_byte}
use Rattle.utf8.specs.declared.scan.LastCharacter.{LastCharacter}
use Rattle.text.specs.Octets.{octet_of}
use Rattle.text.specs.BigEndian.{big_endian_at}
use Rattle.counts.specs.declared.TextByteNumber.{TextByteNumber}

-- whether a verdict is Ok
abbrev pub is_good : Result (Unit {0}) TextByteNumber → Bool
is_good (Ok tt) = true
is_good (Err n) = false

-- ---- the scan, without places: byte 0 stands for all

-- the scan after byte b of a packet's text, where a zero byte is dropped
unfoldable pub after_text_byte : Scan → ℕ → Scan
after_text_byte k b = pick (eqb b 0) k (after_byte k (byte 0) b)

-- no character is open: the text may end here
unfoldable pub none_open : Scan → Bool
none_open (Err n) = false
none_open (Ok c) = eqb c.due 0

-- a scan as one number: its lowest octet is how many bytes are due, the two above say how much narrower than 80..BF the next byte's range is, at the low end and at the high end
-- so 0, 1 and 2 mean that none, one or two tails are due
unfoldable pub character_of : ℕ → LastCharacter
character_of s =
    record { due = s % 0x100; low = 0x80 + s / 0x100 % 0x80; high = 0xBF - s / 0x10000 % 0x40; start = byte 0 }

abbrev pub scan_of : ℕ → Scan
scan_of s = Ok (character_of s)

-- the number of a scan; one that has stopped is as one that waits for a byte from FF to 80, which no byte is
unfoldable pub number_of : Scan → ℕ
number_of (Err n) = 0x3F7F01
number_of (Ok c) = (0x3F - c.high % 0x40) * 0x10000 + c.low % 0x80 * 0x100 + c.due

-- the scan after the four octets of a word
abbrev pub after_octets : Scan → ℕ → Scan
after_octets k w = after_text_byte (after_text_byte (after_text_byte (after_text_byte k (octet_of w 0)) (octet_of w 1)) (octet_of w 2)) (octet_of w 3)

-- the same from number to number
unfoldable pub after_word : ℕ → ℕ → ℕ
after_word s w = number_of (after_octets (scan_of s) w)

-- ---- simple three-byte characters, which a look can tell: the first byte is E1..EF but not ED, the other two are any of 80..BF

-- a byte of E0..EF
abbrev pub is_e0_to_ef : ℕ → Bool
is_e0_to_ef b = eqb (b / 16) 14

-- a byte of E0..EF is neither E0 nor ED, whose second byte is restricted
abbrev pub not_e0_or_ed : ℕ → Bool
not_e0_or_ed b = not (eqb (b % 16) 0) && not (eqb (b % 16) 13)

-- the first byte of a simple three-byte character
abbrev pub simple_first : ℕ → Bool
simple_first b = is_e0_to_ef b && not_e0_or_ed b

-- a byte of 80..BF, UTF8-tail in RFC 3629
abbrev pub is_tail : ℕ → Bool
is_tail b = eqb (b / 64) 2

-- a byte continues a run of simple characters that has so many tails due: none, one or two
unfoldable pub run_of_one : ℕ → ℕ → Bool
run_of_one due b = pick (eqb due 0) (simple_first b) (pick (eqb due 1) (is_tail b) (pick (eqb due 2) (is_tail b) false))

-- two bytes continue it
unfoldable pub run_of_two : ℕ → ℕ → ℕ → Bool
run_of_two due a b = pick (eqb due 0) (simple_first a && is_tail b) (pick (eqb due 1) (is_tail a && simple_first b) (pick (eqb due 2) (is_tail a && is_tail b) false))

-- three bytes are a simple character
abbrev pub simple_character : ℕ → ℕ → ℕ → Bool
simple_character a b c = is_e0_to_ef a && (is_tail b && (is_tail c && not_e0_or_ed a))

-- the four octets of a word continue a run that has no tail due
unfoldable pub run_none_due : ℕ → Bool
run_none_due w = is_e0_to_ef (octet_of w 0) && (is_tail (octet_of w 1) && (is_tail (octet_of w 2) && (is_e0_to_ef (octet_of w 3) && (not_e0_or_ed (octet_of w 0) && not_e0_or_ed (octet_of w 3)))))

-- the same for a run that has one tail due
unfoldable pub run_one_due : ℕ → Bool
run_one_due w = is_tail (octet_of w 0) && (is_e0_to_ef (octet_of w 1) && (is_tail (octet_of w 2) && (is_tail (octet_of w 3) && not_e0_or_ed (octet_of w 1))))

-- the same for a run that has two tails due
unfoldable pub run_two_due : ℕ → Bool
run_two_due w = is_tail (octet_of w 0) && (is_tail (octet_of w 1) && (is_e0_to_ef (octet_of w 2) && (is_tail (octet_of w 3) && not_e0_or_ed (octet_of w 2))))

-- the same for a run that has so many tails due
unfoldable pub run_of_four : ℕ → ℕ → Bool
run_of_four due w = pick (eqb due 0) (run_none_due w) (pick (eqb due 1) (run_one_due w) (pick (eqb due 2) (run_two_due w) false))

-- the octets of three words continue a run
unfoldable pub run_of_twelve : ℕ → ℕ → ℕ → ℕ → Bool
run_of_twelve due a b c =
    pick (eqb due 0) (run_none_due a && (run_two_due b && run_one_due c))
    (pick (eqb due 1) (run_one_due a && (run_none_due b && run_two_due c))
    (pick (eqb due 2) (run_two_due a && (run_one_due b && run_none_due c)) false))

-- the twelve bytes of a text from byte i on are four simple characters
unfoldable pub run_at : List ℕ → ℕ → Bool
run_at text i = run_none_due (big_endian_at text i) && (run_two_due (big_endian_at text (i + 4)) && run_one_due (big_endian_at text (i + 8)))

-- ---- words

-- all four octets are below 128
unfoldable pub ascii_word : ℕ → Bool
ascii_word w = ltb (octet_of w 0) 128 && (ltb (octet_of w 1) 128 && (ltb (octet_of w 2) 128 && ltb (octet_of w 3) 128))

-- the same for four words
abbrev pub ascii_words : ℕ → ℕ → ℕ → ℕ → Bool
ascii_words a b c d = ascii_word a && (ascii_word b && (ascii_word c && ascii_word d))

-- the number of bits in the last n octets of a word, at most 32
unfoldable pub mask_bits : ℕ → ℕ
mask_bits n = pick (ltb n 4) (n * 8) 32

-- the mask that keeps the last (end - offset) octets of a word, at most four
unfoldable pub text_mask : ℕ → ℕ → ℕ
text_mask end offset = 2 ^ mask_bits (end - offset) - 1

-- the masks of a packet's four words, in order
abbrev pub text_masks : ℕ → List ℕ
text_masks offset = text_mask 2 offset ∷ text_mask 6 offset ∷ text_mask 10 offset ∷ text_mask 14 offset ∷ []

-- the four words of packet p under such masks
abbrev pub text_words : List ℕ → List ℕ → ℕ → List ℕ
text_words ws masks p =
    bit_and (get_or ws (p * 4) 0) (get_or masks 0 0)
    ∷ bit_and (get_or ws (p * 4 + 1) 0) (get_or masks 1 0)
    ∷ bit_and (get_or ws (p * 4 + 2) 0) (get_or masks 2 0)
    ∷ bit_and (get_or ws (p * 4 + 3) 0) (get_or masks 3 0)
    ∷ []

-- the text octets of a word, and zeros for the others
abbrev pub text_word : List ℕ → ℕ → ℕ → ℕ → ℕ
text_word ws offset at end = bit_and (get_or ws at 0) (text_mask end offset)

-- the text octets of packet p are all ASCII or zero
abbrev pub ascii_texts : List ℕ → ℕ → ℕ → Bool
ascii_texts ws offset p =
    ascii_words (text_word ws offset (p * 4) 2)
    (text_word ws offset (p * 4 + 1) 6)
    (text_word ws offset (p * 4 + 2) 10)
    (text_word ws offset (p * 4 + 3) 14)

-- packet p exists and its text octets are all ASCII or zero
unfoldable pub ascii_packet : List ℕ → ℕ → ℕ → Bool
ascii_packet ws offset p = pick (leb (length ws / 4) p) false (ascii_texts ws offset p)

-- each of the first n packets is such a packet
pub record AsciiStart (ws : List ℕ) (offset n : ℕ) : Type 0 where
  pub in_bounds : n ≤ length ws / 4
  pub ascii : (p : ℕ) → p < n → ascii_packet ws offset p ≡ true

-- ---- a text as it is given

-- how many octets at the start of a word are surely whole characters; 0 if these tests cannot tell
unfoldable pub whole_characters : ℕ → ℕ
whole_characters w = pick (ascii_word w) 4 (pick (simple_character (octet_of w 0) (octet_of w 1) (octet_of w 2)) 3 0)

-- the bytes i to j of a text are whole characters, so they may be skipped: the rest is good exactly if the text from i is
pub record Skipped (text : List ℕ) (i j : ℕ) : Type 0 where
  pub forward : i ≤ j
  pub in_bounds : j ≤ length text
  pub same-verdict : is_good (first_bad (drop j text)) ≡ is_good (first_bad (drop i text))
