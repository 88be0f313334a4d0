-- `put_numbers` meets its contract, as `store_numbers` does.
use mathlib.Core.Path.{refl}
use Rattle.ascii_lines.proofs.Writer.put_numbers.Goals as goal

pub returns : goal.returns
returns c = record { same_buffer = refl; wrote = c.store_numbers-self.ensures }
