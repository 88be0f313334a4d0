-- `function_block_name::frayedbin_record_set_function_block` meets its contract, as the calls that it makes.
use Rattle.std.proofs.Common.{rules}
use Rattle.frayedbin.proofs.OneNumber.{block_own}
use Rattle.frayedbin.proofs.function_block_name.frayedbin_record_set_function_block.Goals as goal

pub returns : goal.returns
returns c = block_own _ c.map-edited.result c.edited.ensures c.args.number c.record_of.ensures (search rules)
