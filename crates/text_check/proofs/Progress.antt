-- What the fast check will answer from a given scan for the remaining bytes: at the start, after a byte, after the octets of a word, and at the end.
use Prim.Native.Nat.{ℕ, zero, suc, ◌<◌}
use mathlib.Core.Path.{◌≡◌, refl, sym, ap, ◌∙◌}
use mathlib.Core.Bool.{Bool, true, false}
use mathlib.Core.Option.{some}
use mathlib.Core.List.{List, [], ◌∷◌}
use lib.Dec.{eqb-suc-zero}
use Rattle.laws.specs.Lists.{nonzero}
use Rattle.laws.proofs.Pick.{true_false}
use Rattle.counts.specs.Counts.{byte}
use Rattle.utf8.specs.Utf8.{State, verdict_from, first_bad}
use Rattle.std.specs.Prelude.{eqb, Ok, Err}
use Rattle.utf8.specs.Scan.{Scan, new_scan, after_byte, meaning}
use Rattle.counts.specs.declared.TextByteNumber.{TextByteNumber}
use Rattle.utf8.proofs.Steps.{reached, byte_law}
use Rattle.utf8.proofs.Valid.{verdict_stopped}
use Rattle.text.specs.Octets.{octet_of}
use Rattle.text.proofs.Back.{octet_small}
use Rattle.text_check.specs.FastCheck.{is_good, none_open, after_text_byte, after_octets}
use Rattle.text_check.proofs.Places.{any_start, any_place}

-- from scan k, with the bytes xs remaining, the check will answer v
pub record WillAnswer (k : Scan) (xs : List ℕ) (v : Bool) : Type 0 where
  pub answer : is_good (verdict_from (meaning k) 0 xs) ≡ v

-- ---- the start and the end

pub answer_start : (xs : List ℕ) → WillAnswer (Ok new_scan) xs (is_good (first_bad xs))
unfolding first_bad
answer_start xs = record { answer = refl }

pub answer_stopped : (k : Scan) (n : TextByteNumber) (xs : List ℕ) (v : Bool) → k ≡ Err n → WillAnswer k xs v → false ≡ v
answer_stopped k n xs v e st = sym (ap is_good (verdict_stopped n.0 0 xs)) ∙ ap (λ (c : Scan). is_good (verdict_from (meaning c) 0 xs)) (sym e) ∙ st.answer

due_end : (due low high : ℕ) (start : TextByteNumber) (v : Bool) → is_good (verdict_from (meaning (Ok (reached due low high start))) 0 []) ≡ v → eqb due 0 ≡ v
due_end zero low high start v e = e
due_end (suc d) low high start v e = rw eqb-suc-zero e

pub answer_end : (k : Scan) (v : Bool) → WillAnswer k [] v → none_open k ≡ v
unfolding none_open
answer_end (Err n) v st = st.answer
answer_end (Ok c) v st = due_end c.due c.low c.high c.start v st.answer

-- where no character is open, the answer is the verdict on the remaining bytes
pub answer_open : (k : Scan) (xs : List ℕ) → none_open k ≡ true → is_good (verdict_from (meaning k) 0 xs) ≡ is_good (first_bad xs)
unfolding none_open first_bad
answer_open (Err n) xs e = true_false (sym e)
answer_open (Ok c) xs e = due_open c.due c.low c.high c.start e
  where
    due_open : (due low high : ℕ) (start : TextByteNumber) → eqb due 0 ≡ true → is_good (verdict_from (meaning (Ok (reached due low high start))) 0 xs) ≡ is_good (verdict_from (meaning (Ok new_scan)) 0 xs)
    due_open zero low high start q = any_start xs (some []) start.0 0 0 0
    due_open (suc d) low high start q = true_false (sym (rw eqb-suc-zero at q))

-- ---- a byte, kept or dropped if zero

pub answer_keeping : {k : Scan} (b : ℕ) {xs : List ℕ} {v : Bool} → b < 256 → WillAnswer k (b ∷ xs) v → WillAnswer (after_byte k (byte 0) b) xs v
answer_keeping {k} b {xs} l h =
    record { answer = any_place (meaning (after_byte k (byte 0) b)) xs 0 1 ∙ ap (λ (s : State). is_good (verdict_from s 1 xs)) (byte_law k (byte 0) b l) ∙ h.answer }

answer_dropping : {k : Scan} {b : ℕ} (xs : List ℕ) {v : Bool} → b < 256 → WillAnswer k (nonzero (b ∷ xs)) v → WillAnswer (after_text_byte k b) (nonzero xs) v
unfolding after_text_byte nonzero
answer_dropping {b = zero} xs l h = h
answer_dropping {b = suc b} xs l h = rw eqb-suc-zero (answer_keeping (suc b) l (rw eqb-suc-zero at h))

-- the four octets of a word
pub answer_octets : {k : Scan} (w : ℕ) (xs : List ℕ) {v : Bool} → WillAnswer k (nonzero (octet_of w 0 ∷ octet_of w 1 ∷ octet_of w 2 ∷ octet_of w 3 ∷ xs)) v → WillAnswer (after_octets k w) (nonzero xs) v
answer_octets w xs h =
    answer_dropping xs (octet_small w 3)
    (answer_dropping (octet_of w 3 ∷ xs) (octet_small w 2)
    (answer_dropping (octet_of w 2 ∷ octet_of w 3 ∷ xs) (octet_small w 1)
    (answer_dropping (octet_of w 1 ∷ octet_of w 2 ∷ octet_of w 3 ∷ xs) (octet_small w 0) h)))
