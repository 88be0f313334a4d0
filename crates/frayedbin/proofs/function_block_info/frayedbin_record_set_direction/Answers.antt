-- `function_block_info::frayedbin_record_set_direction` meets its contract, as the calls that it makes.
use Rattle.std.proofs.Common.{rules}
use Rattle.frayedbin.proofs.OneNumber.{direction_own}
use Rattle.frayedbin.proofs.function_block_info.frayedbin_record_set_direction.Goals as goal

pub returns : goal.returns
returns c = rw (← c.try_from.ensures, c.in-Ok.is) (direction_own _ c.map-edited.result c.edited.ensures c.in-Ok.direction c.record_of.ensures (search rules))
