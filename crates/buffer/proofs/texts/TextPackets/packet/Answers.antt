-- `TextPackets::packet` meets its contract, by the laws of `Puts` and `Needed`: a format fits its two bits.
use mathlib.Core.Path.{◌∙◌, ap}
use lib.Dec.{lit≤}
use Rattle.text.proofs.Needed.{due_format_small}
use Rattle.fields.proofs.Puts.{put_fitting}
use Rattle.buffer.specs.Acts.{formatted}
use Rattle.buffer.proofs.texts.TextPackets.packet.Goals as goal

pub returns-clause-head : goal.returns-clause-head
returns-clause-head c = c.put.ensures ∙ put_fitting _ 26 2 _ (lit≤ tt) (rw c.due_format-format.ensures (due_format_small _ _)) ∙ ap (formatted c.args.self.head) c.due_format-format.ensures
