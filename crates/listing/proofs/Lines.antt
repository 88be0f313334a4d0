-- What is left to list at each position of a walk. Closed by the laws of the walk, visit by visit.
use Prim.Native.Nat.{ℕ, zero, suc, ◌-◌, ◌≤◌, ◌<◌}
use mathlib.Core.Path.{◌≡◌}
use mathlib.Core.List.{List, [], ◌++◌}
use native.Mathlib.Omega.{arith}
use lib.ListN.{length}
use Rattle.laws.specs.Lists.{each}
use Rattle.records.specs.declared.answers.Walked.{Walked}
use Rattle.standard.specs.Walk.{walk_of}
use Rattle.walking.specs.Visits.{next_of, visits}
use Rattle.walking.proofs.Visits.{next_between, visits_more, visits-none}
use Rattle.ascii_lines.specs.declared.Writer.{Writer}
use Rattle.ascii_lines.specs.Page.{Puts}
use Rattle.ascii_lines.proofs.Puts.{ToPut, to_put_all, to_put_turn, to_put_none}
use Rattle.listing.specs.Lines.{line_of}
use Rattle.listing.specs.Listing.{visit_lines, lines_of}

-- ---- what is left to list: the lines of at most so many visits from the position on
pub record Going (r : Writer) (ws : List ℕ) (s : Writer) (pos : ℕ) : Type 0 where
  pub most : ℕ
  pub enough : length ws - pos ≤ most
  pub left : ToPut r (lines_of ws) s (visit_lines ws (visits most ws pos))

pub going_all : (r : Writer) (ws : List ℕ) → Going r ws r 0
going_all r ws = record { most = length ws; enough = omega arith; left = to_put_all r (lines_of ws) }

-- no lines are left at the end
lines_none : (most : ℕ) (ws : List ℕ) (pos : ℕ) → length ws ≤ pos → visit_lines ws (visits most ws pos) ≡ []
unfolding each
lines_none most ws pos h = rw (visits-none most ws pos h)

pub going_none : {r s : Writer} {pos : ℕ} {ws : List ℕ} → Going r ws s pos → length ws ≤ pos → Puts r (lines_of ws) s
going_none {pos = pos} {ws} g h = to_put_none g.left (lines_none g.most ws pos h)

-- a turn lists one visit
lines_more : (most : ℕ) (ws : List ℕ) (pos j : ℕ) (a : Walked) → pos < length ws → a ≡ walk_of ws pos → j ≡ next_of a pos → visit_lines ws (visits (suc most) ws pos) ≡ line_of a ws pos ++ visit_lines ws (visits most ws j)
unfolding each
lines_more most ws pos j a h e q = rw (visits_more most ws pos h, q, e)

pub going_turn : {r s t : Writer} {pos j : ℕ} {ws : List ℕ} (a : Walked) → Going r ws s pos → pos < length ws → a ≡ walk_of ws pos → Puts s (line_of a ws pos) t → j ≡ next_of a pos → Going r ws t j
going_turn {r} {s} {t} {pos} {j} {ws} a g h e w n = go g.most g.enough g.left
  where
    go : (most : ℕ) → length ws - pos ≤ most → ToPut r (lines_of ws) s (visit_lines ws (visits most ws pos)) → Going r ws t j
    go zero l left = absurd (omega arith)
    go (suc most) l left =
        record { most = most; enough = omega (arith, next_between ws pos j a h e n); left = to_put_turn left w (lines_more most ws pos j a h e n) }
