-- `put_text` meets its contract, as `store_text` does.
use mathlib.Core.Path.{refl}
use Rattle.ascii_lines.proofs.Writer.put_text.Goals as goal

pub returns : goal.returns
returns c = record { same_buffer = refl; wrote = c.store_text-self.ensures }
