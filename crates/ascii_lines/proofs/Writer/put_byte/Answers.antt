-- `put_byte` meets its contract, as `store_byte` does.
use mathlib.Core.Path.{refl}
use Rattle.ascii_lines.proofs.Writer.put_byte.Goals as goal

pub returns : goal.returns
returns c = record { same_buffer = refl; wrote = c.store_byte-self.ensures }
