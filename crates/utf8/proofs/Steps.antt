-- The steps of the code are the steps of the definition, by the meaning of a scan's state. Proved by computing, for all 256 bytes, that the code's view of a first byte is the table's row.
use Rattle.std.proofs.Common.{◌≡◌, ℕ, zero, suc, ◌+◌, ◌-◌, ◌%◌, ◌^◌, ◌<◌, ◌≤◌, Bool, true, false, eqb, ltb, List, ◌∷◌, length, get_or, drop, replicate, sym, refl, ap, ◌∙◌, mod-eq_of_lt, add-one, arith, drop_of_length-le, drop-cons, Result, Ok, Err}
use mathlib.Core.Option.{Option, none, some}
use lib.Dec.{eqb-suc-zero}
use Rattle.laws.specs.Pick.{pick}
use Rattle.laws.specs.Lists.{nonzero}
use Rattle.laws.proofs.Pick.{never}
use Rattle.laws.proofs.EachBelow.{each_at}
use Rattle.counts.specs.Counts.{byte}
use Rattle.counts.specs.declared.TextByteNumber.{TextByteNumber}
use Rattle.utf8.specs.declared.scan.LastCharacter.{LastCharacter}
use Rattle.utf8.specs.declared.skipping_zeros.SkippingScan.{SkippingScan}
use Rattle.utf8.specs.declared.skipping_zeros.KeptScan.{KeptScan}
use Rattle.utf8.specs.Utf8.{Range, ◌‥◌, inside, tail, due_after, going, stopped, start_char, next_state, verdict, verdict_from, first_bad}
use Rattle.utf8.specs.Scan.{Scan, leading_ones, length_by_ones, char_length, second_low, second_high, tails_due, second_due, after_first_byte, after_byte, verdict_at_end, due_ranges, meaning, new_skipping_scan, one_read, after_read, verdict_after, new_kept_scan, after_kept, verdict_kept}
use Rattle.utf8.proofs.Same.{same_ranges, same_due, same_due_eq}
use Rattle.utf8.proofs.Valid.{verdict_stopped}

-- ---- a first byte: its length, the barred bytes and the range of the second byte give the table's row

-- what is due in a scan
scan_due : Scan → Option (List Range)
scan_due (Err n) = none
scan_due (Ok c) = some (due_ranges c.due c.low c.high)

due_test : TextByteNumber → ℕ → Bool
due_test n b = same_due (scan_due (after_first_byte n b)) (due_after b)

due_law : (n : TextByteNumber) (b : ℕ) → b < 256 → scan_due (after_first_byte n b) ≡ due_after b
unfolding due_test scan_due same_due same_ranges after_first_byte leading_ones length_by_ones char_length second_low second_high due_after
due_law n b h = same_due_eq (scan_due (after_first_byte n b)) (due_after b) (each_at (due_test n) 256 tt b h)

first_byte_due : (n : TextByteNumber) (b : ℕ) → meaning (after_first_byte n b) ≡ start_char (scan_due (after_first_byte n b)) n.0
unfolding after_first_byte scan_due
first_byte_due n b = go (eqb (char_length b) 1) (eqb (char_length b) 2) (ltb b 0xC2) (eqb (char_length b) 3) (eqb (char_length b) 4) (ltb 0xF4 b)
  where
    go : (one two low three four high : Bool) →
        let k : Scan = pick one (Ok (tails_due 0 n)) (pick two (pick low (Err n) (Ok (tails_due 1 n))) (pick three (Ok (second_due 2 b n)) (pick four (pick high (Err n) (Ok (second_due 3 b n))) (Err n)))) in
        meaning k ≡ start_char (scan_due k) n.0
    go true two low three four high = refl
    go false true true three four high = refl
    go false true false three four high = refl
    go false false low true four high = refl
    go false false low false true true = refl
    go false false low false true false = refl
    go false false low false false high = refl

first_byte_law : (n : TextByteNumber) (b : ℕ) → b < 256 → meaning (after_first_byte n b) ≡ start_char (due_after b) n.0
first_byte_law n b h = first_byte_due n b ∙ ap (λ (o : Option (List Range)). start_char o n.0) (due_law n b h)

-- ---- any byte

tails : (k : ℕ) → due_ranges k 0x80 0xBF ≡ replicate k tail
tails zero = refl
tails (suc k) = refl

-- a character with so many bytes due, the next of them from low to high
abbrev pub reached : ℕ → ℕ → ℕ → TextByteNumber → LastCharacter
reached due low high start = record { due = due; low = low; high = high; start = start }

-- a step of the scan is a step of the definition
reached_law : (due low high : ℕ) (start n : TextByteNumber) (b : ℕ) → b < 256 → meaning (after_byte (Ok (reached due low high start)) n b) ≡ next_state (meaning (Ok (reached due low high start))) n.0 b
unfolding after_byte
reached_law zero low high start n b h = first_byte_law n b h
reached_law (suc k) low high start n b h = rw eqb-suc-zero (go (inside (low ‥ high) b))
  where
    less : suc k - 1 ≡ k
    less = omega arith

    go : (t : Bool) → meaning (pick t (Ok (tails_due (suc k - 1) start)) (Err start)) ≡ pick t (going (replicate k tail) start.0) (stopped start.0)
    go true = ap (λ (j : ℕ). going (due_ranges j 0x80 0xBF) start.0) less ∙ ap (λ (l : List Range). going l start.0) (tails k)
    go false = refl

pub byte_law : (s : Scan) (n : TextByteNumber) (b : ℕ) → b < 256 → meaning (after_byte s n b) ≡ next_state (meaning s) n.0 b
unfolding after_byte
byte_law (Err m) n b h = refl
byte_law (Ok c) n b h = reached_law c.due c.low c.high c.start n b h

due_end : (due low high : ℕ) (start : TextByteNumber) → verdict_at_end (Ok (reached due low high start)) ≡ verdict (meaning (Ok (reached due low high start)))
unfolding verdict_at_end
due_end zero low high start = refl
due_end (suc k) low high start = rw eqb-suc-zero

end_law : (s : Scan) → verdict_at_end s ≡ verdict (meaning s)
unfolding verdict_at_end
end_law (Err m) = refl
end_law (Ok c) = due_end c.due c.low c.high c.start

-- ---- one turn of a loop over a text, and its end

-- what a check answers from a scan, if the bytes of the text from byte i on are still to come
abbrev pub verdict_of : List ℕ → Scan → ℕ → Result (Unit {0}) TextByteNumber
verdict_of text s i = verdict_from (meaning s) i (drop i text)

module _ (text : List ℕ) (s : Scan) (i : ℕ) (h : i < length text) (f : get_or text i 0 < 256) where
  pub scan_turn : verdict_of text (after_byte s (byte i) (get_or text i 0)) (i + 1) ≡ verdict_of text s i
  scan_turn = rw (add-one, byte_law s (byte i) (get_or text i 0) f, drop-cons text i 0 h)

  -- the check goes on, or its verdict stands
  pub scan_goes_on : (r : Scan) → r ≡ after_byte s (byte i) (get_or text i 0) → verdict_of text r (i + 1) ≡ verdict_of text s i
  scan_goes_on r e = rw e scan_turn

  pub scan_stops : (n : TextByteNumber) → Err n ≡ after_byte s (byte i) (get_or text i 0) → Err n ≡ verdict_of text s i
  scan_stops n e = sym (verdict_stopped n.0 (i + 1) (drop (i + 1) text)) ∙ scan_goes_on (Err n) e

pub scan_finish : (text : List ℕ) (s : Scan) (i : ℕ) → length text ≤ i → verdict_at_end s ≡ verdict_of text s i
scan_finish text s i h = rw (drop_of_length-le text h) (end_law s)

-- ---- one byte with zeros skipped

-- once a check has stopped, what is still to come does not matter
after_stop : (n : TextByteNumber) (at : ℕ) (xs : List ℕ) → verdict_from (meaning (Err n)) at xs ≡ Err n
after_stop n at xs = verdict_stopped n.0 at xs

pub skipping_start : (xs : List ℕ) → verdict_after (Ok new_skipping_scan) xs ≡ first_bad (nonzero xs)
unfolding first_bad
skipping_start xs = refl

one_read_law : (s : Scan) (at : TextByteNumber) (xs : List ℕ) → at.0 + 1 < 2 ^ 64 → verdict_after (one_read at s) xs ≡ verdict_from (meaning s) (suc at.0) (nonzero xs)
one_read_law (Err n) at xs k = sym (after_stop n (suc at.0) (nonzero xs))
one_read_law (Ok c) at xs k = rw (mod-eq_of_lt k, add-one)

pub skipping_law : (r : SkippingScan) (b : ℕ) (xs : List ℕ) → b < 256 → r.at.0 + 1 < 2 ^ 64 → verdict_after (after_read (Ok r) b) xs ≡ verdict_after (Ok r) (b ∷ xs)
unfolding after_read nonzero
skipping_law r zero xs h k = refl
skipping_law r (suc n) xs h k = rw (eqb-suc-zero, one_read_law (after_byte (Ok r.last) r.at (suc n)) r.at xs k, byte_law (Ok r.last) r.at (suc n) h)

-- the count of nonzero bytes grows by at most one
one_read_count : (s : Scan) (at : TextByteNumber) (q : SkippingScan) → one_read at s ≡ Ok q → q.at.0 ≤ at.0 + 1
one_read_count (Err n) at q e = never (cc)
one_read_count (Ok c) at q e = let w : q ≡ record { last = c; at = byte ((at.0 + 1) % 2 ^ 64) } = cc in rw w (omega arith)

pub skipping_count : (r q : SkippingScan) (b : ℕ) → after_read (Ok r) b ≡ Ok q → q.at.0 ≤ r.at.0 + 1
unfolding after_read
skipping_count r q zero e = let w : r ≡ q = cc in rw w (omega arith)
skipping_count r q (suc k) e = one_read_count (after_byte (Ok r.last) r.at (suc k)) r.at q (rw eqb-suc-zero at e)

-- ---- one turn of a loop that skips zeros, and its end

pub skipping_turn : (text : List ℕ) (q : SkippingScan) (i : ℕ) → i < length text → get_or text i 0 < 256 → q.at.0 + 1 < 2 ^ 64 → verdict_after (after_read (Ok q) (get_or text i 0)) (drop (suc i) text) ≡ verdict_after (Ok q) (drop i text)
skipping_turn text q i h f k = rw (drop-cons text i 0 h) (skipping_law q (get_or text i 0) (drop (suc i) text) f k)

pub skipping_finish : (text : List ℕ) (r : SkippingScan) (i : ℕ) → length text ≤ i → verdict_at_end (Ok r.last) ≡ verdict_after (Ok r) (drop i text)
unfolding nonzero
skipping_finish text r i h = rw (drop_of_length-le text h) (end_law (Ok r.last))

-- ---- the same for a check that is kept whether or not it stopped

pub kept_start : (xs : List ℕ) → verdict_kept new_kept_scan xs ≡ first_bad (nonzero xs)
unfolding first_bad
kept_start xs = refl

kept_law : (r : KeptScan) (b : ℕ) (xs : List ℕ) → b < 256 → r.at.0 + 1 < 2 ^ 64 → verdict_kept (after_kept r b) xs ≡ verdict_kept r (b ∷ xs)
unfolding after_kept nonzero
kept_law r zero xs h k = refl
kept_law r (suc n) xs h k = rw (eqb-suc-zero, mod-eq_of_lt k, add-one, byte_law r.scan r.at (suc n) h)

-- the count of nonzero bytes grows by at most one, after a stop too
pub kept_count : (r : KeptScan) (b : ℕ) → (after_kept r b).at.0 ≤ r.at.0 + 1
unfolding after_kept
kept_count r zero = omega arith
kept_count r (suc k) = rw eqb-suc-zero (omega arith)

-- a kept check that has stopped has its verdict
pub kept_early : (r : KeptScan) (xs : List ℕ) (n : TextByteNumber) (v : Result (Unit {0}) TextByteNumber) → r.scan ≡ Err n → verdict_kept r xs ≡ v → Err n ≡ v
kept_early r xs n v e h = sym (after_stop n r.at.0 (nonzero xs)) ∙ (rw e at h)

-- one turn of a loop that keeps its check, and its end
pub kept_turn : (text : List ℕ) (q r : KeptScan) (i : ℕ) → i < length text → get_or text i 0 < 256 → q.at.0 + 1 < 2 ^ 64 → r ≡ after_kept q (get_or text i 0) → verdict_kept r (drop (suc i) text) ≡ verdict_kept q (drop i text)
kept_turn text q r i h f k e = rw (e, drop-cons text i 0 h) (kept_law q (get_or text i 0) (drop (suc i) text) f k)

pub kept_finish : (text : List ℕ) (r : KeptScan) (i : ℕ) → length text ≤ i → verdict_at_end r.scan ≡ verdict_kept r (drop i text)
unfolding nonzero
kept_finish text r i h = rw (drop_of_length-le text h) (end_law r.scan)

-- ---- the two forms of the check

-- a check that goes on, as it is kept
abbrev pub kept : SkippingScan → KeptScan
kept r = record { scan = Ok r.last; at = r.at }

-- a kept check is where the other form is: at the same character and count, or stopped at the same place
abbrev pub KeptAs : Result SkippingScan TextByteNumber → KeptScan → Type 0
KeptAs (Err n) k = k.scan ≡ Err n
KeptAs (Ok r) k = k ≡ kept r

one_kept : (at : TextByteNumber) (s : Scan) → KeptAs (one_read at s) (record { scan = s; at = byte ((at.0 + 1) % 2 ^ 64) })
one_kept at (Err n) = refl
one_kept at (Ok c) = refl

stop_kept : (k : KeptScan) (n : TextByteNumber) (b : ℕ) → k.scan ≡ Err n → (after_kept k b).scan ≡ Err n
unfolding after_kept after_byte
stop_kept k n zero e = e
stop_kept k n (suc b) e = rw (eqb-suc-zero, e)

go_kept : (r : SkippingScan) (b : ℕ) → KeptAs (after_read (Ok r) b) (after_kept (kept r) b)
unfolding after_read after_kept
go_kept r zero = refl
go_kept r (suc b) = rw eqb-suc-zero (one_kept r.at (after_byte (Ok r.last) r.at (suc b)))

-- both forms begin and step together, so where one stops the other has stopped there too
pub kept_begins : KeptAs (Ok new_skipping_scan) new_kept_scan
kept_begins = refl

pub kept_steps : (r : Result SkippingScan TextByteNumber) (k : KeptScan) (b : ℕ) → KeptAs r k → KeptAs (after_read r b) (after_kept k b)
unfolding after_read
kept_steps (Err n) k b e = stop_kept k n b e
kept_steps (Ok r) k b e = rw e (go_kept r b)
