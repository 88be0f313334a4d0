-- `by_slot::numbers_fit` meets its contract, by the laws of `BySlot`, turn by turn.
use mathlib.Core.Path.{◌∙◌}
use native.Mathlib.Omega.{arith}
use lib.ListN.{get_or}
use Rattle.numbers.proofs.BySlot.{fit_turn, fit_bad, fit_done, width_told}
use Rattle.numbers.proofs.by_slot.numbers_fit.Goals as goal

pub returns-then-too_large : goal.returns-then-too_large
returns-then-too_large c = fit_bad _ _ _ c.loop-i.i c.loop-i-test.true (width_told (get_or c.args.numbers.now c.loop-i.i 0) c.place_of.ensures c.too_large.ensures c.if-too_large.true) ∙ c.loop-i.invariant.1

pub loop-i-preserved : goal.loop-i-preserved
loop-i-preserved c = (omega arith, fit_turn _ _ _ c.loop-i.i c.loop-i-test.true (width_told (get_or c.args.numbers.now c.loop-i.i 0) c.place_of.ensures c.too_large.ensures c.if-too_large.false) ∙ c.loop-i.invariant.1)

pub returns : goal.returns
returns c = fit_done _ _ _ c.loop-i.i c.loop-i-test.false ∙ c.loop-i.invariant.1
