-- Four bytes as a big-endian word, if they are all there and if not. Proved from the one test and the octets of a word.
use Prim.Native.Nat.{ℕ, ◌+◌, ◌<◌, ◌≤◌}
use mathlib.Core.Path.{◌≡◌, sym, ap, ◌∙◌}
use mathlib.Core.List.{List}
use native.Mathlib.Omega.{arith}
use lib.ListN.{length, get_or, take, drop, length-drop}
use lib.Seq.{get_or-take, get_or-drop, length-take-le}
use borrow.Author.Tests.{lt-ltb, le-ltb}
use Rattle.laws.specs.Bits.{word_of}
use Rattle.text.specs.BigEndian.{big_endian_at}

module _ (bytes : List ℕ) (i : ℕ) where
  pub big_endian_in : i + 4 ≤ length bytes → big_endian_at bytes i ≡ word_of (get_or bytes i 0) (get_or bytes (i + 1) 0) (get_or bytes (i + 2) 0) (get_or bytes (i + 3) 0)
  unfolding big_endian_at
  big_endian_in h = rw (le-ltb (length bytes) (i + 4) h)

  pub big_endian_out : length bytes < i + 4 → big_endian_at bytes i ≡ 0
  unfolding big_endian_at
  big_endian_out h = rw (lt-ltb (length bytes) (i + 4) h)

-- four bytes of a part of a text
module _ (text : List ℕ) (from len : ℕ) (room : from + len ≤ length text) where
  part-byte : (i at : ℕ) → i < len → at ≡ from + i → get_or (take len (drop from text)) i 0 ≡ get_or text at 0
  part-byte i at h e = get_or-take len (drop from text) i 0 h ∙ get_or-drop from text i 0 ∙ ap (λ (x : ℕ). get_or text x 0) (sym e)

  part_length : length (take len (drop from text)) ≡ len
  part_length = length-take-le len (drop from text) (rw (length-drop from text) (omega arith))

  pub big_endian_part : (i : ℕ) → i + 4 ≤ len → big_endian_at (take len (drop from text)) i ≡ word_of (get_or text (from + i) 0) (get_or text (from + i + 1) 0) (get_or text (from + i + 2) 0) (get_or text (from + i + 3) 0)
  big_endian_part i h =
      rw (big_endian_in (take len (drop from text)) i (rw part_length h), part-byte i (from + i) (omega arith) (omega arith), part-byte (i + 1) (from + i + 1) (omega arith) (omega arith), part-byte (i + 2) (from + i + 2) (omega arith) (omega arith), part-byte (i + 3) (from + i + 3) (omega arith) (omega arith))
