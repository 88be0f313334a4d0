-- `answers::put_line` meets its contract, by the laws of `Puts` of lines.
use Rattle.ascii_lines.proofs.Puts.{◌⨾◌}
use Rattle.listing.proofs.answers.put_line.Goals as goal

pub returns : goal.returns
returns c = c.put_decimal.ensures ⨾ c.put_answer.ensures ⨾ c.put_byte.ensures
