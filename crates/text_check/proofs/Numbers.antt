-- A scan held as a number answers as the scan does: its ranges are inside 80..FF and 80..BF, so the number keeps them. By cases on the steps.
use Prim.Native.Nat.{ℕ, ◌+◌, ◌-◌, ◌*◌, ◌/◌, ◌%◌, ◌≤◌, ◌<◌}
use mathlib.Core.Path.{◌≡◌, refl, sym, ap, ◌∙◌}
use mathlib.Core.Bool.{Bool, true, false}
use mathlib.Core.Option.{some}
use mathlib.Core.List.{List, [], ◌∷◌}
use native.Mathlib.Omega.{arith}
use lib.Dec.{eqb, leb, ltb, lit≤}
use borrow.Author.Tests.{lt-leb, leb-true}
use Rattle.laws.specs.Pick.{pick}
use Rattle.laws.specs.Lists.{nonzero}
use Rattle.laws.proofs.Pick.{split, picked}
use Rattle.counts.specs.Counts.{byte}
use Rattle.counts.specs.declared.TextByteNumber.{TextByteNumber}
use Rattle.utf8.specs.Utf8.{◌‥◌, inside, going, stopped, verdict_from}
use Rattle.std.specs.Prelude.{Ok, Err}
use Rattle.utf8.specs.declared.scan.LastCharacter.{LastCharacter}
use Rattle.utf8.specs.Scan.{Scan, char_length, second_low, second_high, tails_due, second_due, after_first_byte, after_byte, due_ranges, meaning}
use Rattle.utf8.proofs.Valid.{verdict_stopped}
use Rattle.text.specs.Octets.{octet_of}
use Rattle.text_check.specs.FastCheck.{is_good, none_open, after_text_byte, character_of, scan_of, number_of, after_octets, after_word}
use Rattle.text_check.proofs.Places.{any_start}
use Rattle.text_check.proofs.Progress.{WillAnswer, answer_octets, answer_end}

-- ---- what the number can hold

abbrev Narrow : Scan → Type 0
Narrow (Err n) = Unit
Narrow (Ok c) = (c.due < 0x100) × (0x80 ≤ c.low) × (c.low < 0x100) × (0x80 ≤ c.high) × (c.high < 0xC0)

narrow_scan : (s : ℕ) → Narrow (scan_of s)
unfolding character_of
narrow_scan s = (omega arith, omega arith, omega arith, omega arith, omega arith)

low_narrow : (b : ℕ) → (0x80 ≤ second_low b) × (second_low b < 0x100)
unfolding second_low
low_narrow b = picked (λ (n : ℕ). (0x80 ≤ n) × (n < 0x100)) (eqb b 0xE0) 0xA0 (pick (eqb b 0xF0) 0x90 0x80) (λ e. (lit≤ tt, lit≤ tt)) (λ e. picked (λ (n : ℕ). (0x80 ≤ n) × (n < 0x100)) (eqb b 0xF0) 0x90 0x80 (λ f. (lit≤ tt, lit≤ tt)) (λ f. (lit≤ tt, lit≤ tt)))

high_narrow : (b : ℕ) → (0x80 ≤ second_high b) × (second_high b < 0xC0)
unfolding second_high
high_narrow b = picked (λ (n : ℕ). (0x80 ≤ n) × (n < 0xC0)) (eqb b 0xED) 0x9F (pick (eqb b 0xF4) 0x8F 0xBF) (λ e. (lit≤ tt, lit≤ tt)) (λ e. picked (λ (n : ℕ). (0x80 ≤ n) × (n < 0xC0)) (eqb b 0xF4) 0x8F 0xBF (λ f. (lit≤ tt, lit≤ tt)) (λ f. (lit≤ tt, lit≤ tt)))

narrow_tails : (due : ℕ) (start : TextByteNumber) → due < 0x100 → Narrow (Ok (tails_due due start))
narrow_tails due start h = (h, lit≤ tt, lit≤ tt, lit≤ tt, lit≤ tt)

narrow_second : (due b : ℕ) (start : TextByteNumber) → due < 0x100 → Narrow (Ok (second_due due b start))
narrow_second due b start h = (h, (low_narrow b).0, (low_narrow b).1, (high_narrow b).0, (high_narrow b).1)

narrow_first : (at : TextByteNumber) (b : ℕ) → Narrow (after_first_byte at b)
unfolding after_first_byte
narrow_first at b = go (eqb (char_length b) 1) (eqb (char_length b) 2) (ltb b 0xC2) (eqb (char_length b) 3) (eqb (char_length b) 4) (ltb 0xF4 b)
  where
    go : (one two low three four high : Bool) → Narrow (pick one (Ok (tails_due 0 at)) (pick two (pick low (Err at) (Ok (tails_due 1 at))) (pick three (Ok (second_due 2 b at)) (pick four (pick high (Err at) (Ok (second_due 3 b at))) (Err at)))))
    go true two low three four high = narrow_tails 0 at (lit≤ tt)
    go false true true three four high = tt
    go false true false three four high = narrow_tails 1 at (lit≤ tt)
    go false false low true four high = narrow_second 2 b at (lit≤ tt)
    go false false low false true true = tt
    go false false low false true false = narrow_second 3 b at (lit≤ tt)
    go false false low false false high = tt

narrow_byte : (k : Scan) (at : TextByteNumber) (b : ℕ) → Narrow k → Narrow (after_byte k at b)
unfolding after_byte
narrow_byte (Err n) at b h = tt
narrow_byte (Ok c) at b h =
    picked Narrow (eqb c.due 0) (after_first_byte at b) (pick (inside (c.low ‥ c.high) b) (Ok (tails_due (c.due - 1) c.start)) (Err c.start)) (λ e. narrow_first at b)
    (λ e. picked Narrow (inside (c.low ‥ c.high) b) (Ok (tails_due (c.due - 1) c.start)) (Err c.start) (λ f. narrow_tails (c.due - 1) c.start (omega (arith, h.0))) (λ f. tt))

narrow_text : (k : Scan) (b : ℕ) → Narrow k → Narrow (after_text_byte k b)
unfolding after_text_byte
narrow_text k b h = picked Narrow (eqb b 0) k (after_byte k (byte 0) b) (λ e. h) (λ e. narrow_byte k (byte 0) b h)

narrow_octets : (k : Scan) (w : ℕ) → Narrow k → Narrow (after_octets k w)
narrow_octets k w h = narrow_text _ (octet_of w 3) (narrow_text _ (octet_of w 2) (narrow_text _ (octet_of w 1) (narrow_text k (octet_of w 0) h)))

-- ---- a scan, its number, and the scan of that number

no_byte : (x : ℕ) → inside (0xFF ‥ 0x80) x ≡ false
no_byte x = split (leb 0xFF x) (λ e. let h = leb-true 0xFF x e in rw (e, lt-leb x 0x80 (omega arith))) (λ e. rw e)

-- no byte is from FF to 80
waits : (xs : List ℕ) → is_good (verdict_from (going (0xFF ‥ 0x80 ∷ []) 0) 0 xs) ≡ false
waits [] = refl
waits (x ∷ xs) = ap (λ (t : Bool). is_good (verdict_from (pick t (going [] 0) (stopped 0)) 1 xs)) (no_byte x) ∙ ap is_good (verdict_stopped 0 1 xs)

-- the parts of the number give the scan back
parts : (c : LastCharacter) → Narrow (Ok c) →
    let s = number_of (Ok c) in
    (s % 0x100 ≡ c.due) × (0x80 + s / 0x100 % 0x80 ≡ c.low) × (0xBF - s / 0x10000 % 0x40 ≡ c.high)
unfolding number_of
parts c h =
    let s = number_of (Ok c) in
    let q : s / 0x100 ≡ (0x3F - c.high % 0x40) * 0x100 + c.low % 0x80 = omega (arith, h.0) in
    let r : s / 0x10000 ≡ 0x3F - c.high % 0x40 = omega (arith, h.0) in
    (omega (arith, h.0), rw q (omega (arith, h.1, h.2)), rw r (omega (arith, h.3, h.4)))

number_same : (k : Scan) (xs : List ℕ) → Narrow k → is_good (verdict_from (meaning (scan_of (number_of k))) 0 xs) ≡ is_good (verdict_from (meaning k) 0 xs)
unfolding character_of number_of
number_same (Err n) xs h = waits xs ∙ sym (ap is_good (verdict_stopped n.0 0 xs))
number_same (Ok c) xs h =
    let p = parts c h in
    rw (p.0, p.1, p.2) (any_start xs (some (due_ranges c.due c.low c.high)) 0 c.start.0 0 0)

-- ---- what the check will answer from a number

-- after a word
pub answer_word : (s w : ℕ) (xs : List ℕ) {v : Bool} → WillAnswer (scan_of s) (nonzero (octet_of w 0 ∷ octet_of w 1 ∷ octet_of w 2 ∷ octet_of w 3 ∷ xs)) v → WillAnswer (scan_of (after_word s w)) (nonzero xs) v
unfolding after_word
answer_word s w xs h = record { answer = number_same (after_octets (scan_of s) w) (nonzero xs) (narrow_octets (scan_of s) w (narrow_scan s)) ∙ (answer_octets w xs h).answer }

-- once the text is bad
pub answer_bad : (s : ℕ) (xs : List ℕ) (v : Bool) → s ≡ 0x3F7F01 → WillAnswer (scan_of s) xs v → false ≡ v
unfolding character_of
answer_bad s xs v e st = sym (waits xs) ∙ ap (λ (n : ℕ). is_good (verdict_from (meaning (scan_of n)) 0 xs)) (sym e) ∙ st.answer

-- at the end
pub answer_last : (s : ℕ) (v : Bool) → WillAnswer (scan_of s) [] v → eqb (s % 0x100) 0 ≡ v
unfolding character_of none_open
answer_last s v st = answer_end (scan_of s) v st
