-- `store_number` meets its contract: the space, then the digits.
use Rattle.ascii_lines.proofs.Page.{◌⨾◌}
use Rattle.ascii_lines.proofs.store_number.Goals as goal

pub returns : goal.returns
returns c = c.store_byte-end.ensures ⨾ c.store_decimal.ensures
