-- `store_numbers` meets its contract. Invariant: writing the remaining numbers from here gives all numbers written from the start.
use mathlib.Core.Path.{refl, ◌∙◌}
use Rattle.laws.proofs.Lists.{each_more, each_none}
use Rattle.ascii_lines.specs.Numbers.{number}
use Rattle.ascii_lines.proofs.Page.{to_write_all, to_write_turn, to_write_none}
use Rattle.ascii_lines.proofs.store_numbers.Goals as goal

pub loop-n-init : goal.loop-n-init
loop-n-init c = record { length = refl; written = to_write_all _ _ _ }

pub loop-n-preserved : goal.loop-n-preserved
loop-n-preserved c =
    let v = c.loop-n.invariant in
    let w = c.store_number-end in
    record { length = w.auto.out ∙ v.length; written = to_write_turn v.written w.ensures (each_more number _ _ c.loop-n-test.true) }

pub returns : goal.returns
returns c = to_write_none c.loop-n.invariant.written (each_none number _ _ c.loop-n-test.false)
