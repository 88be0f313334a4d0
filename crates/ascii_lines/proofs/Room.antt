-- How long texts are, and what a page holds if there is room. By induction on the text and on the digits.
use Prim.Native.Nat.{ℕ, zero, suc, ◌+◌, ◌*◌, ◌/◌, ◌^◌, ◌<◌, ◌≤◌}
use mathlib.Core.Path.{◌≡◌, refl, ap, ◌∙◌}
use mathlib.Core.Logic.{⊎_elim}
use mathlib.Core.List.{List, [], ◌∷◌, ◌++◌}
use native.Mathlib.Omega.{arith}
use native.Mathlib.Nat.{pow-suc, add-zero}
use native.Mathlib.Numerals.{add-one}
use lib.ListN.{length, set, take, drop, length-set, length-append}
use lib.Seq.{sets, sets-eq, take_at}
use borrow.Author.Tests.{lt-ltb, le-ltb}
use Rattle.laws.proofs.Pick.{below}
use Rattle.laws.proofs.Lists.{each-length}
use Rattle.ascii_lines.specs.Page.{Page, page, put_byte, put_bytes, Wrote}
use Rattle.ascii_lines.specs.Numbers.{decimal, hex_byte, hex_or_dash}
use Rattle.ascii_lines.proofs.Numbers.{decimal_one, decimal_more}

-- ---- lengths
-- the number of digits: 1 below ten, otherwise one more than n / 10 has
pub length_one : (n : ℕ) → n < 10 → length (decimal n) ≡ 1
length_one n h = rw (decimal_one n h)

pub length_more : (n : ℕ) → 10 ≤ n → length (decimal n) ≡ length (decimal (n / 10)) + 1
length_more n h = rw (decimal_more n h, length-append)

-- the number of digits, from the largest power of ten that is not above the number
pub length_power : (k n : ℕ) → 10 ^ k ≤ n → n < 10 * 10 ^ k → length (decimal n) ≡ k + 1
length_power zero n l h = length_one n (omega arith)
length_power (suc k) n l h =
    let p = pow-suc 10 k in
    let e : length (decimal n) ≡ length (decimal (n / 10)) + 1 = length_more n (omega arith) in
    let r : length (decimal (n / 10)) ≡ k + 1 = length_power k (n / 10) (omega arith) (omega arith) in
    omega arith

-- a number below 10 ^ (k + 1) has at most k + 1 digits
pub decimal-length : (k n : ℕ) → n < 10 ^ suc k → length (decimal n) ≤ suc k
decimal-length zero n h = omega (arith, length_one n (omega arith))
decimal-length (suc k) n h =
    let l = pow-suc 10 (suc k) in
    ⊎_elim (λ s. omega (arith, length_one n s)) (λ g. omega (arith, length_more n g, decimal-length k (n / 10) (omega arith))) (below n 10)

-- a 64-bit number has at most twenty digits
pub length_most : (n : ℕ) → n < 2 ^ 64 → length (decimal n) ≤ 20
length_most n h = decimal-length 19 n (omega arith)

-- bytes in hex: two digits each, and one character for no bytes
pub hex_or_dash_length : (xs : List ℕ) → length (hex_or_dash xs) ≤ length xs * 2 + 1
unfolding hex_or_dash
hex_or_dash_length [] = omega arith
hex_or_dash_length (x ∷ xs) = omega (arith, each-length hex_byte 2 (λ b. omega arith) (x ∷ xs))

-- ---- a page keeps its length, and its place stays within it
put_length : (s : Page) (b : ℕ) → length (put_byte s b).out ≡ length s.out
unfolding put_byte
put_length s b =
    ⊎_elim (λ h. simp (lt-ltb s.at (length s.out) h, length-set)) (λ h. simp (le-ltb s.at (length s.out) h)) (below s.at (length s.out))

pub puts_length : (s : Page) (a : List ℕ) → length (put_bytes s a).out ≡ length s.out
unfolding put_bytes
puts_length s [] = refl
puts_length s (b ∷ a) = puts_length (put_byte s b) a ∙ put_length s b

put_within : (s : Page) (b : ℕ) → s.at ≤ length s.out → (put_byte s b).at ≤ length s.out
unfolding put_byte
put_within s b l =
    ⊎_elim (λ h. rw (lt-ltb s.at (length s.out) h) (omega arith)) (λ h. rw (le-ltb s.at (length s.out) h) l) (below s.at (length s.out))

pub puts_within : (s : Page) (a : List ℕ) → s.at ≤ length s.out → (put_bytes s a).at ≤ length s.out
unfolding put_bytes
puts_within s [] l = l
puts_within s (b ∷ a) l = rw (put_length s b) at (puts_within (put_byte s b) a (rw (put_length s b) (put_within s b l)))

pub place_in_bounds : {i j : ℕ} {o p a : List ℕ} → Wrote i o a j p → i ≤ length o → j ≤ length p
place_in_bounds {i} {o = o} {a = a} w l =
    let e : (put_bytes (page i o) a).at ≤ length (put_bytes (page i o) a).out = rw (puts_length (page i o) a) (puts_within (page i o) a l) in
    rw (← w.is) at e

-- ---- if there is room, the text is stored from i on, byte by byte
pub puts_sets : (a o : List ℕ) (i : ℕ) → i + length a ≤ length o → put_bytes (page i o) a ≡ page (i + length a) (sets o i a)
unfolding put_bytes put_byte
puts_sets [] o i h = rw add-zero
puts_sets (b ∷ a) o i h =
    let l : suc i + length a ≤ length (set o i b) = rw length-set (omega arith) in
    let e : suc i + length a ≡ i + suc (length a) = omega arith in
    rw (lt-ltb i (length o) (omega arith), add-one) (puts_sets a (set o i b) (suc i) l ∙ ap (λ (n : ℕ). page n (sets (set o i b) (suc i) a)) e)

-- the text is at i, the place is after it, and the rest is unchanged
pub record Placed (i : ℕ) (o a : List ℕ) (j : ℕ) (p : List ℕ) : Type 0 where
  pub next : j ≡ i + length a
  pub whole : p ≡ take i o ++ a ++ drop (i + length a) o

-- IF THERE IS ROOM the whole text is put
pub room : {i j : ℕ} {o p a : List ℕ} → Wrote i o a j p → i + length a ≤ length o → Placed i o a j p
room {i} {o = o} {a = a} w h =
    let e = w.is ∙ puts_sets a o i h in
    record { next = ap (λ (s : Page). s.at) e; whole = ap (λ (s : Page). s.out) e ∙ sets-eq a o i h }

-- put from the start of a buffer with room, the text is the first j bytes
pub text_at_start : {j : ℕ} {o p a : List ℕ} → Wrote 0 o a j p → length a ≤ length o → take j p ≡ a
text_at_start {j} {o} {p} {a} w h =
    let r = room w (omega arith) in
    let n : length a ≡ j = omega (arith, r.next) in
    rw r.whole (take_at a (drop (0 + length a) o) j n)
