-- `shown::put_bytes` meets its contract, by the laws of `Ahead` and `Puts` of lines, turn by turn.
use Prim.Native.Nat.{◌-◌, ◌/◌}
use lib.ListN.{length}
use Rattle.laws.specs.Lists.{each}
use Rattle.text.specs.Bytes.{text_of}
use Rattle.ascii_lines.specs.Numbers.{hex_byte}
use Rattle.ascii_lines.proofs.Puts.{ToPut}
use Rattle.listing.proofs.Ahead.{Ahead, ahead}
use Rattle.listing.proofs.shown.put_bytes.Given as goal

abbrev pub invariant-loop-byte : goal.invariant-loop-byte
invariant-loop-byte l = Ahead l.words (14 - l.offset) l.place × ToPut l.initial.writer (each hex_byte (text_of l.words (14 - l.offset) (length l.words / 4))) l.writer (each hex_byte (ahead l.words (14 - l.offset) l.place))

abbrev pub decreases-loop-byte : goal.decreases-loop-byte
decreases-loop-byte l = length (ahead l.words (14 - l.offset) l.place)
