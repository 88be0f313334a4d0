-- `utf8::first_byte::char_length` meets its contract: the leading zeros of the inverted byte are its leading ones (`ones_law`).
use Rattle.std.proofs.Common.{ap, arith}
use Rattle.utf8.specs.Scan.{length_by_ones, unless_zero}
use Rattle.utf8.proofs.Ones.{length_law, no_length}
use Rattle.utf8.proofs.first_byte.char_length.Goals as goal

pub returns-in-0 : goal.returns-in-0
unfolding length_by_ones
returns-in-0 c = ap unless_zero (length_law c.args.b 0 c.ranges.b.fits c.in-0.is)

pub returns-in-2 : goal.returns-in-2
unfolding length_by_ones
returns-in-2 c = ap unless_zero (length_law c.args.b 2 c.ranges.b.fits c.in-2.is)

pub returns-in-3 : goal.returns-in-3
unfolding length_by_ones
returns-in-3 c = ap unless_zero (length_law c.args.b 3 c.ranges.b.fits c.in-3.is)

pub returns-in-4 : goal.returns-in-4
unfolding length_by_ones
returns-in-4 c = ap unless_zero (length_law c.args.b 4 c.ranges.b.fits c.in-4.is)

pub returns-in_default : goal.returns-in_default
returns-in_default c =
    ap unless_zero (no_length c.args.b c.ranges.b.fits (λ e. omega arith) (λ e. omega arith) (λ e. omega arith) (λ e. omega arith))
