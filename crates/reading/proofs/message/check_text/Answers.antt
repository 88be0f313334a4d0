-- `message::check_text` meets its contract: the slice of all words is the words.
use mathlib.Core.Path.{sym}
use mathlib.Core.Bool.{true, false}
use Rattle.reading.proofs.Bodies.{checked}
use Rattle.reading.proofs.message.check_text.Goals as goal

pub returns-then-not-good_text : goal.returns-then-not-good_text
returns-then-not-good_text c = checked _ _ c.offset_of.ensures false (sym c.if-not-good_text.ensures)

pub returns : goal.returns
returns c = checked _ _ c.offset_of.ensures true (sym c.if-not-good_text.ensures)
