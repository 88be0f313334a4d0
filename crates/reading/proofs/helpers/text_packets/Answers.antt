-- `helpers::text_packets` meets its contract: by its row a kind has no text, or text that is seen.
use mathlib.Core.Path.{◌∙◌}
use Rattle.reading.proofs.TextRows.{several_told, offset_one}
use Rattle.reading.proofs.Passes.{text_seen}
use Rattle.reading.proofs.helpers.text_packets.Goals as goal

pub returns : goal.returns
returns c = c.seen_text-2.ensures ∙ text_seen c.args.kind c.args.words.now (several_told c.args.kind c.row_of-row.ensures c.if-row-eq1.false) (offset_one c.args.kind c.offset_of.ensures c.if-offset_of-eq0.false)
