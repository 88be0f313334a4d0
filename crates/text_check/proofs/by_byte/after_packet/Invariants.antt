-- `by_byte::after_packet` meets its contract. Invariant: b bytes of the packet were read.
use Rattle.std.proofs.Common.{◌+◌, ◌-◌, ◌*◌, ◌/◌, length, Ok}
use Rattle.text_check.specs.ByByte.{HasRead}
use Rattle.text_check.proofs.by_byte.after_packet.Given as goal

abbrev pub invariant-loop-b : goal.invariant-loop-b
invariant-loop-b l = HasRead l.words (14 - l.offset) (length l.words / 4) (Ok l.check) (l.packet.0 * (14 - l.offset) + l.b)
