-- `put_bits` meets its contract: the old value is subtracted, the new one added.
use Rattle.bit_ops.proofs.Shifts.{put_fits, put_shl}
use borrow.Author.Rules.{rules}
use Rattle.bit_ops.proofs.put_bits.Goals as goal

pub overflow_add-result : goal.overflow_add-result
overflow_add-result g c = record { fits = put_fits _ _ _ _ _ c.requires.2 c.requires.3 c.get_bits.ensures (search rules) }

pub returns : goal.returns
returns g c = put_shl _ _ _ _ _ c.requires.2 c.requires.3 c.get_bits.ensures
