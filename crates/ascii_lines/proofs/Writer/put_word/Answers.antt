-- `put_word` meets its contract. Invariant: writing the digits of the remaining bytes from here gives all eight digits written from the start.
use mathlib.Core.Path.{◌≡◌, ap}
use lib.ListN.{length}
use native.Mathlib.Omega.{arith}
use Rattle.laws.specs.Lists.{each}
use Rattle.laws.proofs.Lists.{each_more, each_none}
use Rattle.ascii_lines.specs.Numbers.{hex_byte}
use Rattle.ascii_lines.proofs.Puts.{to_put_all, to_put_turn, to_put_none, says}
use Rattle.ascii_lines.proofs.Writer.put_word.Goals as goal

pub loop-byte-init : goal.loop-byte-init
loop-byte-init c = to_put_all _ _

pub loop-byte-preserved : goal.loop-byte-preserved
loop-byte-preserved c =
    let four : length c.to_be_bytes-byte-items.result ≡ 4 = ap length c.to_be_bytes-byte-items.ensures in
    to_put_turn c.loop-byte.invariant c.put_hex.ensures (each_more hex_byte c.to_be_bytes-byte-items.result c.loop-byte.byte-index (omega arith))

pub returns : goal.returns
returns c =
    let four : length c.to_be_bytes-byte-items.result ≡ 4 = ap length c.to_be_bytes-byte-items.ensures in
    says (to_put_none c.loop-byte.invariant (each_none hex_byte c.to_be_bytes-byte-items.result c.loop-byte.byte-index (omega arith))) (ap (each hex_byte) c.to_be_bytes-byte-items.ensures)
