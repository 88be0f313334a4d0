-- `device_identity::frayedbin_record_set_device_family` meets its contract, as the calls that it makes.
use Rattle.std.proofs.Common.{rules}
use Rattle.kinds.specs.Fields.{Pair}
use Rattle.frayedbin.proofs.OneNumber.{pair_own}
use Rattle.frayedbin.proofs.device_identity.frayedbin_record_set_device_family.Goals as goal

pub returns : goal.returns
returns c = pair_own _ c.map-edited.result c.edited.ensures Pair.device_family c.args.family c.record_of.ensures (search rules)
