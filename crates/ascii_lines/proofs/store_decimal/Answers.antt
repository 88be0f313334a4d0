-- `store_decimal` meets its contract. Invariant: storing the remaining digits now gives the buffer with all digits stored.
use native.Mathlib.Omega.{arith}
use Prim.Native.Nat.{ℕ, ◌-◌}
use mathlib.Core.Path.{refl, ap, ◌∙◌}
use lib.Seq.{sets}
use Rattle.ascii_lines.proofs.FromLast.{last_digits, last_all, digit_turn, stored, stayed, filled}
use Rattle.ascii_lines.proofs.Room.{length_most}
use Rattle.ascii_lines.proofs.store_decimal.Goals as goal

pub overflow_add-at : goal.overflow_add-at
overflow_add-at c = let h = length_most c.args.n c.ranges.n.fits in omega (arith, h)

pub overflow_add-at-2 : goal.overflow_add-at-2
overflow_add-at-2 c = let h = length_most c.args.n c.ranges.n.fits in omega (arith, h)

pub returns-then-out-at : goal.returns-then-out-at
returns-then-out-at c = stayed _ _ _ c.if-out-at.true

pub loop-i-init : goal.loop-i-init
loop-i-init c = record {
  length = refl;
  stores = ap (λ (k : ℕ). sets c.args.out.now c.args.at (last_digits k c.args.n)) c.digits_of-count.ensures ∙ ap (sets c.args.out.now c.args.at) (last_all c.args.n);
}

pub loop-i-preserved : goal.loop-i-preserved
loop-i-preserved c =
    let l = c.loop-i in
    let v = l.invariant in
    record {
      length = c.store.auto.out ∙ v.length;
      stores = rw (c.store.ensures, c.digit.ensures) (digit_turn _ c.args.at (l.i - 1) l.rest (omega arith) ∙ v.stores);
    }

pub returns : goal.returns
returns c =
    let v = c.loop-i.invariant in
    let all = stored _ c.loop-i.i _ c.loop-i-test.false v.stores in
    filled _ _ _ all (omega arith) (rw (v.length, c.digits_of-count.ensures) at c.min.ensures)
