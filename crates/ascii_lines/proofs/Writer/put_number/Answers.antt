-- `put_number` meets its contract, as `store_number` does.
use mathlib.Core.Path.{refl}
use Rattle.ascii_lines.proofs.Writer.put_number.Goals as goal

pub returns : goal.returns
returns c = record { same_buffer = refl; wrote = c.store_number-self.ensures }
