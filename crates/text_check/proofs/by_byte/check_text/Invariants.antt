-- `by_byte::check_text` meets its contract. Invariant: p packets were read.
use Rattle.std.proofs.Common.{◌-◌, ◌*◌, ◌/◌, length, Ok}
use Rattle.text_check.specs.ByByte.{HasRead}
use Rattle.text_check.proofs.by_byte.check_text.Given as goal

abbrev pub invariant-loop-p : goal.invariant-loop-p
invariant-loop-p l = HasRead l.words (14 - l.offset) (length l.words / 4) (Ok l.check) (l.p * (14 - l.offset))
