-- What `as_string` leaves, part by part, and what C reads back. By cases on the buffer, and by induction on the text.
use Prim.Native.Nat.{ℕ, zero, suc, ◌+◌, ◌-◌, ◌≤◌}
use mathlib.Core.Path.{◌≡◌, refl, sym, ap}
use mathlib.Core.Bool.{true}
use mathlib.Core.List.{List, [], ◌∷◌, ◌++◌}
use native.Mathlib.Omega.{arith}
use native.Mathlib.Numerals.{add-one}
use lib.ListN.{length, take, drop, length-take, length-append, length-drop, drop_of_length-le}
use lib.Seq.{append_snoc, take_all, take_at, drop_at, get_or_at}
use lib.Dec.{leb}
use borrow.Author.Tests.{leb-true, ne_eqb}
use Rattle.laws.specs.Pick.{both}
use Rattle.laws.proofs.Pick.{both_left, both_right}
use Rattle.sentences.specs.Strings.{as_string, zero_at, StringIn, c_text, printable}
use Rattle.sentences.proofs.Strings.{after_zero}

-- ---- the parts, in a buffer with a byte
module _ (text : List ℕ) (byte : ℕ) (out : List ℕ) where
  zero_is : zero_at text (byte ∷ out) ≡ length (take (length out) text)
  zero_is = rw length-take (omega arith)

  after_is : (z : ℕ) → z ≡ length (take (length out) text) → drop (z + 1) (as_string text (byte ∷ out)) ≡ drop (z + 1) (byte ∷ out)
  after_is z e = rw (← append_snoc (take (length out) text) 0 (drop (length text) out), drop_at (take (length out) text ++ 0 ∷ []) (drop (length text) out) (z + 1) (rw (length-append, e)), add-one, e, after_zero text out)

  in_some : StringIn text (byte ∷ out) (as_string text (byte ∷ out))
  in_some =
      record {
        size = rw (length-append, length-drop, length-take) (omega arith);
        whole = λ h.
            rw (take_all (length out) text (omega arith), ← append_snoc text 0 (drop (length text) out))
            (take_at (text ++ 0 ∷ []) (drop (length text) out) (length text + 1) (length-append text (0 ∷ [])));
        cut = λ h l. let e : length (byte ∷ out) - 1 ≡ length out = omega arith in rw (e, drop_of_length-le out {i = length text} (omega arith));
        inside = λ h. omega arith;
        zero = λ h. get_or_at (take (length out) text) 0 (drop (length text) out) 1 _ (sym zero_is);
        after = after_is _ zero_is;
      }

-- EVERY PART OF A STRING is where it should be, in any buffer
pub string_in : (text out : List ℕ) → StringIn text out (as_string text out)
string_in text [] = record { size = refl; whole = λ h. absurd (omega arith); cut = λ h. absurd (omega arith); inside = λ h. absurd (omega arith); zero = λ h. absurd (omega arith); after = refl }
string_in text (byte ∷ out) = in_some text byte out

-- ---- reading
text_read : (n : ℕ) (text rest : List ℕ) → printable text ≡ true → c_text (take n text ++ 0 ∷ rest) ≡ take n text
unfolding c_text printable
text_read zero text rest e = refl
text_read (suc n) [] rest e = refl
text_read (suc n) (b ∷ text) rest e =
    let low = both_left (leb 32 b) (leb b 126) (both_left (both (leb 32 b) (leb b 126)) (printable text) e) in
    let h : 32 ≤ b = leb-true 32 b low in
    rw (ne_eqb b 0 (λ q. omega arith)) (ap (λ (l : List ℕ). b ∷ l) (text_read n text rest (both_right (both (leb 32 b) (leb b 126)) (printable text) e)))

-- WHAT C READS is the text, cut to all but one byte of the buffer
pub string_read : (text out : List ℕ) → printable text ≡ true → c_text (as_string text out) ≡ take (length out - 1) text
unfolding c_text
string_read text [] e = refl
string_read text (byte ∷ out) e = let n : length (byte ∷ out) - 1 ≡ length out = omega arith in rw n (text_read (length out) text (drop (length text) out) e)
