-- `function_block_info::frayedbin_record_set_midi1_port` meets its contract, as the calls that it makes.
use Rattle.std.proofs.Common.{rules}
use Rattle.frayedbin.proofs.OneNumber.{port_own}
use Rattle.frayedbin.proofs.function_block_info.frayedbin_record_set_midi1_port.Goals as goal

pub returns : goal.returns
returns c = rw (← c.try_from.ensures, c.in-Ok.is) (port_own _ c.map-edited.result c.edited.ensures c.in-Ok.port c.record_of.ensures (search rules))
