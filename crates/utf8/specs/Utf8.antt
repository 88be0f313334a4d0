-- UTF-8 by RFC 3629, section 4: what a character is, what a valid text is, and where the first bad character of a text starts.
use Rattle.std.specs.Prelude.{◌≡◌, ℕ, suc, ◌<◌, Bool, true, ◌&&◌, List, [], ◌∷◌, ◌++◌, length, take, drop, ◌≢◌, nat_le, Result, Ok, Err}
use Rattle.std.proofs.Math.Option.{Option, none, some}
use Rattle.laws.specs.Pick.{pick}
use Rattle.counts.specs.Counts.{byte}
use Rattle.counts.specs.declared.TextByteNumber.{TextByteNumber}

infix 80 ◌‥◌
infix 50 ◌then◌
-- the bytes from one number to another, both included
pub data Range : Type 0 where
  ◌‥◌ : ℕ → ℕ → Range

-- whether a byte is in a range
abbrev pub inside : Range → ℕ → Bool
inside (low ‥ high) x = nat_le low x && nat_le x high

-- a range for the first byte of a character, and a range for each byte after it
pub data CharRow : Type 0 where
  ◌then◌ : Range → List Range → CharRow

-- RFC 3629: UTF8-tail
abbrev pub tail : Range
tail = 0x80 ‥ 0xBF

-- RFC 3629: UTF8-char, one row for each alternative
abbrev pub char_table : List CharRow
char_table =
    (0x00 ‥ 0x7F then [])
    ∷ (0xC2 ‥ 0xDF then tail ∷ [])
    ∷ (0xE0 ‥ 0xE0 then 0xA0 ‥ 0xBF ∷ tail ∷ [])
    ∷ (0xE1 ‥ 0xEC then tail ∷ tail ∷ [])
    ∷ (0xED ‥ 0xED then 0x80 ‥ 0x9F ∷ tail ∷ [])
    ∷ (0xEE ‥ 0xEF then tail ∷ tail ∷ [])
    ∷ (0xF0 ‥ 0xF0 then 0x90 ‥ 0xBF ∷ tail ∷ tail ∷ [])
    ∷ (0xF1 ‥ 0xF3 then tail ∷ tail ∷ tail ∷ [])
    ∷ (0xF4 ‥ 0xF4 then 0x80 ‥ 0x8F ∷ tail ∷ tail ∷ [])
    ∷ []

-- the ranges of the bytes that must follow first byte x, by some rows; none if no row has x
abbrev pub ranges_after : List CharRow → ℕ → Option (List Range)
ranges_after [] x = none
ranges_after ((r then ds) ∷ rows) x = pick (inside r x) (some ds) (ranges_after rows x)

-- the same by the whole table
unfoldable pub due_after : ℕ → Option (List Range)
due_after x = ranges_after char_table x

-- ---- what is valid

-- one byte in each range, and no more
pub data Fit : List Range → List ℕ → Type 0 where
  no_more : Fit [] []
  one_more : {d : Range} {ds : List Range} {x : ℕ} {xs : List ℕ} → inside d x ≡ true → Fit ds xs → Fit (d ∷ ds) (x ∷ xs)

-- RFC 3629: UTF8-char, one character
pub data Char : List ℕ → Type 0 where
  char : {x : ℕ} {ds : List Range} {xs : List ℕ} → due_after x ≡ some ds → Fit ds xs → Char (x ∷ xs)

-- RFC 3629: UTF8-octets, a sequence of characters
pub data Valid : List ℕ → Type 0 where
  empty : Valid []
  more : {c s : List ℕ} → Char c → Valid s → Valid (c ++ s)

-- the first bad character starts at byte n: the text before n is valid, and what is at n does not start with a character
pub record BadFrom (s : List ℕ) (n : ℕ) : Type 0 where
  pub before : Valid (take n s)
  pub there : n < length s
  pub bad : (c t : List ℕ) → Char c → drop n s ≢ c ++ t

-- ---- where the first bad character starts, byte by byte

-- `going ds n`: in a character that started at byte n, with the ranges ds still due; `stopped n`: the character at n is bad
pub data State : Type 0 where
  going : List Range → ℕ → State
  stopped : ℕ → State

-- the state after a first byte, number `at`, with these ranges due; `none` if the byte is bad
abbrev pub start_char : Option (List Range) → ℕ → State
start_char (some ds) at = going ds at
start_char none at = stopped at

-- the state after byte x, number `at`
abbrev pub next_state : State → ℕ → ℕ → State
next_state (stopped n) at x = stopped n
next_state (going [] n) at x = start_char (due_after x) at
next_state (going (d ∷ ds) n) at x = pick (inside d x) (going ds n) (stopped n)

-- the verdict if the text ends here
abbrev pub verdict : State → Result (Unit {0}) TextByteNumber
verdict (stopped n) = Err (byte n)
verdict (going [] n) = Ok tt
verdict (going (d ∷ ds) n) = Err (byte n)

-- the verdict on the remaining bytes; the first of them is byte number `at`
abbrev pub verdict_from : State → ℕ → List ℕ → Result (Unit {0}) TextByteNumber
verdict_from s at [] = verdict s
verdict_from s at (x ∷ xs) = verdict_from (next_state s at x) (suc at) xs

-- THE VERDICT on a text: good, or where its first bad character starts
unfoldable pub first_bad : List ℕ → Result (Unit {0}) TextByteNumber
first_bad xs = verdict_from (going [] 0) 0 xs

-- what follows from a verdict: something of the place where the first bad character starts, or what comes next if the text is good
abbrev pub if_bad : {A : Type 0} → Result (Unit {0}) TextByteNumber → (TextByteNumber → A) → A → A
if_bad (Err n) bad next = bad n
if_bad (Ok tt) bad next = next
