-- Fields of words, and tables of them.
use Rattle.std.specs.Prelude.{ℕ, ◌+◌, ◌-◌, ◌*◌, ◌^◌, ◌≡◌, Bool, true, List, [], ◌∷◌, get_or, set, ltb, leb, eqb}
use Rattle.laws.specs.Pick.{pick, both}
use Rattle.laws.specs.Bits.{field_of, put_field}

-- a field of some words: its word, lowest bit and width, and a key that says whose number it holds; a table is a list of slots
pub record Slot (K : Type 0) : Type 0 where
  pub word : ℕ
  pub at : ℕ
  pub span : ℕ
  pub key : K

-- the number in a slot
unfoldable pub get : {K : Type 0} → Slot K → List ℕ → ℕ
get s ws = field_of (get_or ws s.word 0) s.at s.span

-- the words with number v in a slot
unfoldable pub put : {K : Type 0} → Slot K → ℕ → List ℕ → List ℕ
put s v ws = set ws s.word (put_field (get_or ws s.word 0) s.at s.span v)

-- the slot's bits as a mask
unfoldable pub mask : {K : Type 0} → Slot K → ℕ
mask s = (2 ^ s.span - 1) * 2 ^ s.at

-- the words with all slots of a table put, with a value for each key
unfoldable pub put_all : {K : Type 0} → List (Slot K) → (K → ℕ) → List ℕ → List ℕ
put_all [] v ws = ws
put_all (s ∷ ss) v ws = put s (v s.key) (put_all ss v ws)

-- the slots whose keys pass a test
unfoldable pub those : {K : Type 0} → (K → Bool) → List (Slot K) → List (Slot K)
those t [] = []
those t (s ∷ ss) = pick (t s.key) (s ∷ those t ss) (those t ss)

-- each value is below the bound of its slot
unfoldable pub fits : {K : Type 0} → List (Slot K) → (K → ℕ) → Bool
fits [] v = true
fits (s ∷ ss) v = both (ltb (v s.key) (2 ^ s.span)) (fits ss v)

-- two slots share no bit
unfoldable pub apart : {K L : Type 0} → Slot K → Slot L → Bool
apart s t =
    pick (eqb s.word t.word) (pick (leb (s.at + s.span) t.at) true (leb (t.at + t.span) s.at)) true

-- a slot shares no bit with any slot of a table
unfoldable pub apart_from_all : {K L : Type 0} → Slot K → List (Slot L) → Bool
apart_from_all s [] = true
apart_from_all s (t ∷ ts) = both (apart s t) (apart_from_all s ts)

-- no two slots of a table share a bit
unfoldable pub disjoint : {K : Type 0} → List (Slot K) → Bool
disjoint [] = true
disjoint (s ∷ ss) = both (apart_from_all s ss) (disjoint ss)

-- each slot lies in the first n words
unfoldable pub words_below : {K : Type 0} → ℕ → List (Slot K) → Bool
words_below n [] = true
words_below n (s ∷ ss) = both (ltb s.word n) (words_below n ss)

-- each slot ends within n bits
unfoldable pub bits_within : {K : Type 0} → ℕ → List (Slot K) → Bool
bits_within n [] = true
bits_within n (s ∷ ss) = both (leb (s.at + s.span) n) (bits_within n ss)

-- each slot holds its value
unfoldable pub reads : {K : Type 0} → List (Slot K) → (K → ℕ) → List ℕ → Type 0
reads [] v ws = Unit {0}
reads (s ∷ ss) v ws = (get s ws ≡ v s.key) × reads ss v ws
