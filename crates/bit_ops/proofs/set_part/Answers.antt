-- `set_part` meets its contract: the part is put, or nothing changes.
use mathlib.Core.Path.{sym}
use native.Mathlib.Omega.{arith}
use Rattle.laws.proofs.Bits.{one_shl}
use Rattle.bit_ops.proofs.Parts.{put_out, put_large, put_at}
use Rattle.bit_ops.proofs.set_part.Goals as goal

pub returns-then-index : goal.returns-then-index
returns-then-index g c = sym (put_out _ _ _ _ _ c.if-index.true)

pub returns-then-v : goal.returns-then-v
returns-then-v g c = sym (put_large _ _ _ _ _ c.if-index.false (omega (arith, one_shl {k = g.row.SPAN} 32 (omega arith))))

pub returns : goal.returns
returns g c = put_at _ _ _ _ _ _ _ c.if-index.false (omega arith) c.lowest_bit.ensures c.put_bits.ensures
