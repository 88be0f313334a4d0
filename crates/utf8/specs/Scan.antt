-- What each function of the check returns, and what a `Scan` means in terms of the grammar's states.
use Rattle.std.specs.Prelude.{ℕ, zero, suc, ◌+◌, ◌-◌, ◌/◌, ◌%◌, ◌^◌, List, [], ◌∷◌, replicate, ◌==◌, nat_lt, Option, Some, None, Result, Ok, Err}
use Rattle.laws.specs.Pick.{pick}
use Rattle.laws.specs.Lists.{nonzero}
use Rattle.counts.specs.Counts.{byte}
use Rattle.counts.specs.declared.TextByteNumber.{TextByteNumber}
use Rattle.utf8.specs.Utf8.{Range, ◌‥◌, tail, inside, State, going, stopped, verdict_from}
use Rattle.utf8.specs.declared.skipping_zeros.SkippingScan.{SkippingScan}
use Rattle.utf8.specs.declared.skipping_zeros.KeptScan.{KeptScan}
use Rattle.utf8.specs.declared.scan.LastCharacter.{LastCharacter}

-- a check on its way: the character reached, or the place of the bad character that stopped it
abbrev pub Scan : Type 0
Scan = Result LastCharacter TextByteNumber

-- ---- a first byte

-- the number of leading ones in the k low bits of b
unfoldable pub leading_ones : ℕ → ℕ → ℕ
leading_ones zero b = 0
leading_ones (suc k) b = pick (b / 2 ^ k % 2 == 1) (suc (leading_ones k b)) 0

-- a character's length by the leading ones of its first byte: 0 ones give 1; 2, 3 and 4 ones give the same number; any other count is bad, 0
unfoldable pub length_by_ones : ℕ → ℕ
length_by_ones n =
    pick (n == 0) 1
    (pick (n == 2) 2
    (pick (n == 3) 3
    (pick (n == 4) 4 0)))

-- a character's length by its first byte
unfoldable pub char_length : ℕ → ℕ
char_length b = length_by_ones (leading_ones 8 b)

-- a number, where 0 says that there is none
abbrev pub unless_zero : ℕ → Option ℕ
unless_zero n = pick (n == 0) None (Some n)

-- the smallest second byte after first byte b
unfoldable pub second_low : ℕ → ℕ
second_low b = pick (b == 0xE0) 0xA0 (pick (b == 0xF0) 0x90 0x80)

-- the largest second byte after first byte b
unfoldable pub second_high : ℕ → ℕ
second_high b = pick (b == 0xED) 0x9F (pick (b == 0xF4) 0x8F 0xBF)

-- ---- any byte

-- a character that started at `start`, with so many tails due
abbrev pub tails_due : ℕ → TextByteNumber → LastCharacter
tails_due due start = record { due = due; low = 0x80; high = 0xBF; start = start }

-- the same after first byte b, which may narrow the range of the second
abbrev pub second_due : ℕ → ℕ → TextByteNumber → LastCharacter
second_due due b start = record { due = due; low = second_low b; high = second_high b; start = start }

-- a check that has read nothing
abbrev pub new_scan : LastCharacter
new_scan = tails_due 0 (byte 0)

-- the check after byte b, number `at`, where a character starts; no character starts with C0, C1 or F5 and above
unfoldable pub after_first_byte : TextByteNumber → ℕ → Scan
after_first_byte at b =
    pick (char_length b == 1) (Ok (tails_due 0 at))
    (pick (char_length b == 2) (pick (nat_lt b 0xC2) (Err at) (Ok (tails_due 1 at)))
    (pick (char_length b == 3) (Ok (second_due 2 b at))
    (pick (char_length b == 4) (pick (nat_lt 0xF4 b) (Err at) (Ok (second_due 3 b at))) (Err at))))

-- the check after byte b, number `at`
unfoldable pub after_byte : Scan → TextByteNumber → ℕ → Scan
after_byte (Err n) at b = Err n
after_byte (Ok c) at b =
    pick (c.due == 0) (after_first_byte at b)
    (pick (inside (c.low ‥ c.high) b) (Ok (tails_due (c.due - 1) c.start)) (Err c.start))

-- the verdict at the end of the text
unfoldable pub verdict_at_end : Scan → Result (Unit {0}) TextByteNumber
verdict_at_end (Err n) = Err n
verdict_at_end (Ok c) = pick (c.due == 0) (Ok tt) (Err c.start)

-- ---- the meaning of a `Scan` in terms of the grammar's states

-- n bytes due: the next from low to high, the others tails
abbrev pub due_ranges : ℕ → ℕ → ℕ → List Range
due_ranges zero low high = []
due_ranges (suc n) low high = low ‥ high ∷ replicate n tail

-- the state of the definition that a scan stands for
abbrev pub meaning : Scan → State
meaning (Err n) = stopped n.0
meaning (Ok c) = going (due_ranges c.due c.low c.high) c.start.0

-- ---- zero bytes skipped

-- a check that has read nothing
abbrev pub new_skipping_scan : SkippingScan
new_skipping_scan = record { last = new_scan; at = byte 0 }

-- the check after byte number `at` was read; the count wraps at 2 ^ 64, which no slice reaches
abbrev pub one_read : TextByteNumber → Scan → Result SkippingScan TextByteNumber
one_read at (Err n) = Err n
one_read at (Ok c) = Ok (record { last = c; at = byte ((at.0 + 1) % 2 ^ 64) })

-- the check after one more byte
unfoldable pub after_read : Result SkippingScan TextByteNumber → ℕ → Result SkippingScan TextByteNumber
after_read (Err n) b = Err n
after_read (Ok r) b = pick (b == 0) (Ok r) (one_read r.at (after_byte (Ok r.last) r.at b))

-- the verdict if the bytes xs are still to come
abbrev pub verdict_after : Result SkippingScan TextByteNumber → List ℕ → Result (Unit {0}) TextByteNumber
verdict_after (Err n) xs = Err n
verdict_after (Ok r) xs = verdict_from (meaning (Ok r.last)) r.at.0 (nonzero xs)

-- ---- zero bytes skipped, by a check that is kept whether or not it stopped

-- a kept check that has read nothing
abbrev pub new_kept_scan : KeptScan
new_kept_scan = record { scan = Ok new_scan; at = byte 0 }

-- the kept check after one more byte, counted after a stop too; the count wraps at 2 ^ 64, which no slice reaches
unfoldable pub after_kept : KeptScan → ℕ → KeptScan
after_kept r b = pick (b == 0) r (record { scan = after_byte r.scan r.at b; at = byte ((r.at.0 + 1) % 2 ^ 64) })

-- the verdict of a kept check if the bytes xs are still to come
abbrev pub verdict_kept : KeptScan → List ℕ → Result (Unit {0}) TextByteNumber
verdict_kept r xs = verdict_from (meaning r.scan) r.at.0 (nonzero xs)
