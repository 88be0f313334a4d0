-- `put_word` meets its contract. Invariant: writing the digits of the remaining bytes from here gives all eight digits written from the start.
use lib.ListN.{drop}
use Rattle.laws.specs.Lists.{each}
use Rattle.ascii_lines.specs.Numbers.{hex_byte}
use Rattle.ascii_lines.proofs.Puts.{ToPut}
use Rattle.ascii_lines.proofs.Writer.put_word.Given as goal

abbrev pub invariant-loop-byte : goal.invariant-loop-byte
invariant-loop-byte l = ToPut l.initial.self (each hex_byte l.byte-items) l.self (each hex_byte (drop l.byte-index l.byte-items))
