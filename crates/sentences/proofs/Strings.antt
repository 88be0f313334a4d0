-- A text put into all but the last byte of a buffer, and a zero after it, are a C string.
use Prim.Native.Nat.{ℕ, ◌-◌, ◌<◌, ◌≤◌}
use mathlib.Core.Path.{◌≡◌, refl, sym, ap, ◌∙◌}
use mathlib.Core.Logic.{⊎_elim}
use mathlib.Core.List.{List, [], ◌∷◌, ◌++◌, append_assoc}
use native.Mathlib.Omega.{arith}
use native.Mathlib.Nat.{zero-add}
use lib.ListN.{length, set, take, drop, length-take, length-append, length-drop, take-append-drop, drop_of_length-le}
use lib.Seq.{sets, length-sets, sets-eq, take_all, drop-cons, drop-append-le, drop-length, length-take-le, set_at}
use Rattle.laws.proofs.Pick.{below}
use Rattle.ascii_lines.specs.Page.{Page, Wrote}
use Rattle.ascii_lines.proofs.Page.{◌⨾◌, nothing, says, same_outcome}
use Rattle.ascii_lines.proofs.FromLast.{stayed, whole}
use Rattle.ascii_lines.proofs.Room.{place_in_bounds}
use Rattle.sentences.specs.Strings.{as_string}

-- ---- a text put at the start of a buffer: as much of it as there is room for
abbrev pub held : List ℕ → List ℕ → List ℕ
held text out = take (length out) text

held_fits : (text out : List ℕ) → length (held text out) ≤ length out
held_fits text out = rw length-take (omega arith)

-- the rest of the text is dropped
rest_dropped : (text out p : List ℕ) → length p ≡ length out → Wrote (length (held text out)) p (drop (length out) text) (length (held text out)) p
rest_dropped text out p e =
    ⊎_elim (λ (h : length out < length text). stayed p _ _ (rw (e, length-take) (omega arith)))
    (λ (h : length text ≤ length out). rw (drop_of_length-le text h) (nothing _ p))
    (below (length out) (length text))

pub record Started (text out : List ℕ) (j : ℕ) (p : List ℕ) : Type 0 where
  pub next : j ≡ length (held text out)
  pub bytes : p ≡ held text out ++ drop (length (held text out)) out

started : {text out p : List ℕ} {j : ℕ} → Wrote 0 out text j p → Started text out j p
started {text} {out} w =
    let u = held text out in
    let l = held_fits text out in
    let front : Wrote 0 out u (length u) (sets out 0 u) = rw zero-add at (whole out u 0 refl (rw zero-add l)) in
    let all = says (front ⨾ rest_dropped text out (sets out 0 u) (length-sets out 0 u)) (take-append-drop (length out) text) in
    let e = same_outcome w all in
    record {
      next = ap (λ (s : Page). s.at) e;
      bytes = ap (λ (s : Page). s.out) e ∙ rw zero-add at (sets-eq u out 0 (rw zero-add l));
    }

-- the bytes after the zero, said by the text and by what is held of it
pub after_zero : (text out : List ℕ) → drop (length (held text out)) out ≡ drop (length text) out
after_zero text out =
    ⊎_elim (λ (h : length out < length text). rw (length-take-le (length out) text (omega arith), drop-length, drop_of_length-le out {i = length text} (omega arith)))
    (λ (h : length text ≤ length out). rw (take_all (length out) text h))
    (below (length out) (length text))

-- ---- all but the last byte of a buffer, with the text put there
abbrev front : ℕ → List ℕ → List ℕ
front byte out = take (length out) (byte ∷ out)

front_length : (byte : ℕ) (out : List ℕ) → length (front byte out) ≡ length out
front_length byte out = length-take-le (length out) (byte ∷ out) (omega arith)

module _ {text p : List ℕ} {j : ℕ} (byte : ℕ) (out : List ℕ) (w : Wrote 0 (front byte out) text j p) where
  joined : p ++ drop (length out) (byte ∷ out) ≡ held text (front byte out) ++ drop (length (held text (front byte out))) (byte ∷ out)
  joined =
      let q = front byte out in
      rw ((started w).bytes, append_assoc, ← drop-append-le (length (held text q)) q (drop (length out) (byte ∷ out)) (held_fits text q), take-append-drop)

  string_written : set (p ++ drop (length out) (byte ∷ out)) j 0 ≡ as_string text (byte ∷ out)
  string_written =
      let q = front byte out in
      let l : length (held text q) < length (byte ∷ out) = omega (arith, held_fits text q, front_length byte out) in
      rw (joined, drop-cons (byte ∷ out) (length (held text q)) 0 l, set_at (held text q) _ _ 0 j (sym (started w).next), front_length byte out, after_zero text out)

-- the same of any buffer with a byte
module _ {text p : List ℕ} {j : ℕ} (out : List ℕ) (w : Wrote 0 (take (length out - 1) out) text j p) (some : 0 < length out) where
  pub end_inside : j < length (p ++ drop (length out - 1) out)
  end_inside = rw (length-append, length-drop) (omega (arith, place_in_bounds w (omega arith)))

pub string_put : {text p : List ℕ} {j : ℕ} (out : List ℕ) → Wrote 0 (take (length out - 1) out) text j p → 0 < length out → set (p ++ drop (length out - 1) out) j 0 ≡ as_string text out
string_put [] w h = absurd (omega arith)
string_put (byte ∷ out) w h = let m : length (byte ∷ out) - 1 ≡ length out = omega arith in rw m (string_written byte out (rw m at w))

-- a buffer of no bytes
pub none_put : (text out : List ℕ) → length out ≤ 0 → out ≡ as_string text out
none_put text [] h = refl
none_put text (byte ∷ out) h = absurd (omega arith)

-- the same where the code has the place of the last byte
module _ {text p : List ℕ} {j last : ℕ} (out : List ℕ) (is : last ≡ length out - 1) (some : 1 ≤ length out) (w : Wrote 0 (take last out) text j p) where
  pub string_ended : set (p ++ drop last out) j 0 ≡ as_string text out
  string_ended = rw is (string_put out (rw is at w) (omega arith))
