-- `put_named` meets its contract: the name, then the numbers.
use Rattle.ascii_lines.proofs.Puts.{◌⨾◌}
use Rattle.ascii_lines.proofs.Writer.put_named.Goals as goal

pub returns : goal.returns
returns c = c.put_text.ensures ⨾ c.put_numbers.ensures
