-- `helpers::offset_of` meets its contract: in every row the text starts at octet 2 or 3.
use native.Mathlib.Omega.{arith}
use Rattle.reading.proofs.TextRows.{offset_few}
use Rattle.reading.proofs.helpers.offset_of.Goals as goal

pub returns : goal.returns
returns c = let s = offset_few c.args.kind in omega (arith, s, c.row_of-row.ensures.offset)
