-- Numbers held to their slots and put into them, one a turn. Closed by taking the list apart at the turn.
use Prim.Native.Nat.{ℕ, suc, ◌+◌, ◌-◌, ◌^◌, ◌<◌, ◌≤◌}
use mathlib.Core.Path.{◌≡◌, sym, ap, ◌∙◌}
use mathlib.Core.Bool.{Bool, true, false}
use mathlib.Core.List.{List}
use native.Mathlib.Omega.{arith}
use native.Mathlib.Numerals.{add-one}
use lib.ListN.{length, get_or, drop, drop_of_length-le}
use lib.Seq.{drop-cons}
use lib.Dec.{leb}
use borrow.Author.Tests.{lt-ltb, le-ltb, leb-true, leb-false}
use Rattle.laws.specs.Pick.{both}
use Rattle.slots.specs.Slots.{Slot}
use Rattle.fields.specs.Puts.{put_in}
use Rattle.kinds.specs.Layout.{Part}
use Rattle.table.specs.declared.places.Place.{Place}
use Rattle.table.specs.Places.{slot_at, PlaceIs}
use Rattle.numbers.specs.BySlot.{fit_from, put_slot, put_from}

module _ (t : List (Slot Part)) (xs : List ℕ) (first i : ℕ) where
  pub fit_turn : i < length xs → leb (2 ^ (slot_at t (first + i)).span) (get_or xs i 0) ≡ false → fit_from t (first + (i + 1)) (drop (i + 1) xs) ≡ fit_from t (first + i) (drop i xs)
  unfolding fit_from both
  fit_turn h l =
      let e : first + (i + 1) ≡ suc (first + i) = omega arith in
      rw (drop-cons xs i 0 h, lt-ltb (get_or xs i 0) (2 ^ (slot_at t (first + i)).span) (leb-false _ _ l), e, add-one)

  pub fit_bad : i < length xs → leb (2 ^ (slot_at t (first + i)).span) (get_or xs i 0) ≡ true → false ≡ fit_from t (first + i) (drop i xs)
  unfolding fit_from both
  fit_bad h l = rw (drop-cons xs i 0 h, le-ltb (get_or xs i 0) (2 ^ (slot_at t (first + i)).span) (leb-true _ _ l))

  pub fit_done : length xs ≤ i → true ≡ fit_from t (first + i) (drop i xs)
  unfolding fit_from
  fit_done h = rw (drop_of_length-le xs h)

  pub put_last : (ws : List ℕ) → length xs ≤ i → put_from t (first + i) (drop i xs) ws ≡ ws
  unfolding put_from
  put_last ws h = rw (drop_of_length-le xs h)

-- one number more, before those that are put
pub put_turn : (t : List (Slot Part)) (xs ws : List ℕ) (first i : ℕ) → 0 < i → i ≤ length xs → put_slot (slot_at t (first + (i - 1))) (get_or xs (i - 1) 0) (put_from t (first + i) (drop i xs) ws) ≡ put_from t (first + (i - 1)) (drop (i - 1) xs) ws
unfolding put_from
put_turn t xs ws first i p h =
    let put : ℕ → ℕ → List ℕ = λ a b. put_slot (slot_at t (first + (i - 1))) (get_or xs (i - 1) 0) (put_from t a (drop b xs) ws) in
    let e : first + i ≡ suc (first + (i - 1)) = omega arith in
    let f : i ≡ suc (i - 1) = omega arith in
    ap (λ (a : ℕ). put a i) e ∙ ap (λ (b : ℕ). put (suc (first + (i - 1))) b) f ∙ rw (drop-cons xs (i - 1) 0 (omega arith))

-- from slot first + 0 on, nothing of the numbers dropped
pub whole : (t : List (Slot Part)) (first : ℕ) (xs : List ℕ) → fit_from t (first + 0) (drop 0 xs) ≡ fit_from t first xs
whole t first xs = let e : first + 0 ≡ first = omega arith in rw e

-- what the code's test says, by the place that it was given
pub width_told : {s : Slot Part} {p : Place} {a b : Bool} (v : ℕ) → PlaceIs s p → a ≡ leb (2 ^ p.bits.width) v → a ≡ b → leb (2 ^ s.span) v ≡ b
width_told v w e t = rw (← w.width) (sym e ∙ t)

pub placed : {s : Slot Part} {p : Place} (v : ℕ) (ws : List ℕ) → PlaceIs s p → put_in p.word.0 p.bits.low p.bits.width v ws ≡ put_slot s v ws
placed v ws w = rw (w.word, w.low, w.width)
