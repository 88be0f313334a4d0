-- `put_decimal` meets its contract, as `store_decimal` does.
use mathlib.Core.Path.{refl}
use Rattle.ascii_lines.proofs.Writer.put_decimal.Goals as goal

pub returns : goal.returns
returns c = record { same_buffer = refl; wrote = c.store_decimal-self.ensures }
