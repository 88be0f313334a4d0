-- `put_hex` meets its contract: one digit after the other.
use Rattle.ascii_lines.proofs.Puts.{◌⨾◌}
use Rattle.ascii_lines.proofs.Writer.put_hex.Goals as goal

pub returns : goal.returns
returns c = rw (← c.digit.ensures, ← c.digit-2.ensures) (c.put_byte.ensures ⨾ c.put_byte-2.ensures)
