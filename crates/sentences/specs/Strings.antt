-- A text as a C string in a lent buffer.
use Rattle.std.specs.Prelude.{ℕ, ◌+◌, ◌-◌, ◌<◌, ◌≤◌, min, ◌≡◌, Bool, true, List, [], ◌∷◌, ◌++◌, length, take, drop, get_or, eqb, leb}
use Rattle.laws.specs.Pick.{pick, both}

-- the text, cut to all but one byte of the buffer, then a zero, then the buffer's other bytes unchanged; an empty buffer stays empty
abbrev pub as_string : List ℕ → List ℕ → List ℕ
as_string text [] = []
as_string text (byte ∷ out) = take (length out) text ++ 0 ∷ drop (length text) out

-- ---- the same said by its parts, and what C reads
-- where the zero stands: after the text, or in the last byte if the text is cut
abbrev pub zero_at : List ℕ → List ℕ → ℕ
zero_at text out = min (length text) (length out - 1)

-- p is the buffer `out` with the text as a string
pub record StringIn (text out p : List ℕ) : Type 0 where
  pub size : length p ≡ length out
  -- with room for the text and its zero
  pub whole : length text < length out → take (length text + 1) p ≡ text ++ 0 ∷ []
  -- with less room
  pub cut : 0 < length out → length out ≤ length text → p ≡ take (length out - 1) text ++ 0 ∷ []
  -- in any buffer that is not empty there is a zero, and no byte after it changes
  pub inside : 0 < length out → zero_at text out < length out
  pub zero : 0 < length out → get_or p (zero_at text out) 1 ≡ 0
  pub after : drop (zero_at text out + 1) p ≡ drop (zero_at text out + 1) out

-- what C reads: the bytes before the first zero
unfoldable pub c_text : List ℕ → List ℕ
c_text [] = []
c_text (byte ∷ bytes) = pick (eqb byte 0) [] (byte ∷ c_text bytes)

-- every byte is from a space to a tilde, so none is zero
unfoldable pub printable : List ℕ → Bool
printable [] = true
printable (byte ∷ bytes) = both (both (leb 32 byte) (leb byte 126)) (printable bytes)
