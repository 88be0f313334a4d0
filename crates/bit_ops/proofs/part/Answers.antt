-- `part` meets its contract: the part, or 0 if the index is out of range.
use mathlib.Core.Path.{sym}
use lib.Pow.{pow_pos}
use Rattle.bit_ops.proofs.Parts.{part_out, part_at}
use Rattle.bit_ops.proofs.part.Goals as goal

pub returns : goal.returns
returns g c =
    let r = part_at _ _ _ _ _ _ c.if-index.false c.lowest_bit.ensures c.get_bits.ensures in
    record { value = r.0; small = r.1 }

pub returns-then-index : goal.returns-then-index
returns-then-index g c = record { value = sym (part_out _ _ _ _ c.if-index.true); small = pow_pos _ }
