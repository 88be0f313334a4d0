-- The invariant: the search of the packets from p on finds what the search of all finds.
use Prim.Native.Nat.{ℕ, ◌-◌}
use mathlib.Core.Path.{◌≡◌}
use mathlib.Core.Bool.{Bool}
use Rattle.laws.specs.First.{first, first_from}
use Rattle.standard.specs.Heads.{packets_of}
use Rattle.reading.specs.Rules.{Tells}
use Rattle.reading.proofs.rules.first_packet.Given as goal

abbrev pub invariant-loop-p : goal.invariant-loop-p
invariant-loop-p g l = (t : ℕ → Bool) → Tells (goal.T-post g l.test) l.words t → first_from t (packets_of l.words - l.p) l.p ≡ first t (packets_of l.words)
