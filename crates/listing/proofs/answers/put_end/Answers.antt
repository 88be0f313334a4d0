-- `answers::put_end` meets its contract, by the laws of `Puts` of lines.
use Rattle.ascii_lines.proofs.Puts.{◌⨾◌}
use Rattle.listing.proofs.answers.put_end.Goals as goal

pub returns : goal.returns
returns c = c.put_named.ensures ⨾ c.put_byte.ensures
