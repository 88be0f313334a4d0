-- The walk's answer as it crosses, from the case that the walk of all words gave. Closed by rewriting.
use Rattle.std.specs.Prelude.{Some, None}
use Prim.Native.Nat.{ℕ, ◌-◌, ◌<◌}
use mathlib.Core.Path.{◌≡◌, sym, ap, ◌∙◌}
use mathlib.Core.List.{List}
use native.Mathlib.Omega.{arith}
use lib.ListN.{length, take}
use lib.Seq.{take_all}
use Rattle.counts.specs.declared.WordNumber.{WordNumber}
use Rattle.records.specs.declared.message.Message.{Message}
use Rattle.records.specs.declared.answers.Walked.{Walked}
use Rattle.records.specs.declared.answers.Walked.TheVariants as W
use Rattle.standard.specs.Walk.{walk_of}
use Rattle.walking.specs.Other.{other_size}
use Rattle.walking.proofs.Other.{size_end}
use Rattle.laws.proofs.Pick.{below}
use mathlib.Core.Logic.{⊎_elim}
use Rattle.numbers.specs.declared.Numbers.{Numbers}
use Rattle.numbers.specs.Numbers.{as_numbers}
use Rattle.c_structs.specs.declared.answers.WalkAnswer.{WalkAnswer}
use Rattle.c_structs.specs.Crossed.{found_crossed, walk_crossed}

-- where another type has a size, the position is within the words
pub size_inside : (ws : List ℕ) (pos : ℕ) (n : WordNumber) → Some n ≡ other_size ws pos → pos < length ws
size_inside ws pos n e =
    ⊎_elim (λ h. h) (λ h. let z : Some n ≡ None = e ∙ sym (size_end ws pos h) in absurd (cc)) (below pos (length ws))

module _ (ws : List ℕ) (pos : ℕ) {a : Walked} (walk : a ≡ walk_of (take (length ws - 0) ws) pos) {r : WalkAnswer} where
  pub case_crossed : {b : Walked} → a ≡ b → r ≡ walk_crossed b → r ≡ walk_crossed (walk_of ws pos)
  case_crossed e q = q ∙ ap walk_crossed (sym e ∙ rw (take_all (length ws - 0) ws (omega arith)) at walk)

  pub message_crossed : {m k : Message} {next : WordNumber} {n : Numbers} → a ≡ W.Message m next → m ≡ k → n ≡ as_numbers k → r ≡ found_crossed n next.0 → r ≡ walk_crossed (walk_of ws pos)
  message_crossed {next = next} e is c q = case_crossed e (q ∙ ap (λ (x : Numbers). found_crossed x next.0) (c ∙ ap as_numbers (sym is)))
