-- A computable test that two lists of due ranges are equal, and that equality follows from it.
use Rattle.std.proofs.Common.{◌≡◌, ℕ, Bool, true, false, ◌&&◌, T, eqb, List, [], ◌∷◌, refl, ap, ap₂, eqb→eq}
use mathlib.Core.Option.{Option, none, some}
use Rattle.laws.proofs.EachBelow.{and_left, and_right}
use Rattle.utf8.specs.Utf8.{Range, ◌‥◌}

unfoldable pub same_ranges : List Range → List Range → Bool
same_ranges [] [] = true
same_ranges [] (d ∷ ds) = false
same_ranges (c ∷ cs) [] = false
same_ranges ((a ‥ b) ∷ cs) ((e ‥ f) ∷ ds) = (eqb a e && eqb b f) && same_ranges cs ds

ranges_eq : (cs ds : List Range) → T (same_ranges cs ds) → cs ≡ ds
unfolding same_ranges
ranges_eq [] [] t = refl
ranges_eq [] (d ∷ ds) t = absurd t
ranges_eq (c ∷ cs) [] t = absurd t
ranges_eq ((a ‥ b) ∷ cs) ((e ‥ f) ∷ ds) t =
    let h = and_left (eqb a e && eqb b f) (same_ranges cs ds) t in
    ap₂ (λ (r : Range) (l : List Range). r ∷ l)
    (ap₂ (λ (x y : ℕ). x ‥ y) (eqb→eq a e (and_left (eqb a e) (eqb b f) h)) (eqb→eq b f (and_right (eqb a e) (eqb b f) h)))
    (ranges_eq cs ds (and_right (eqb a e && eqb b f) (same_ranges cs ds) t))

unfoldable pub same_due : Option (List Range) → Option (List Range) → Bool
same_due none none = true
same_due none (some ds) = false
same_due (some cs) none = false
same_due (some cs) (some ds) = same_ranges cs ds

pub same_due_eq : (o p : Option (List Range)) → T (same_due o p) → o ≡ p
unfolding same_due
same_due_eq none none t = refl
same_due_eq none (some ds) t = absurd t
same_due_eq (some cs) none t = absurd t
same_due_eq (some cs) (some ds) t = ap some (ranges_eq cs ds t)
