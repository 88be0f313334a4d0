-- `device_identity::frayedbin_record_set_device_family_model_number` meets its contract, as the calls that it makes.
use Rattle.std.proofs.Common.{rules}
use Rattle.kinds.specs.Fields.{Pair}
use Rattle.frayedbin.proofs.OneNumber.{pair_own}
use Rattle.frayedbin.proofs.device_identity.frayedbin_record_set_device_family_model_number.Goals as goal

pub returns : goal.returns
returns c = pair_own _ c.map-edited.result c.edited.ensures Pair.device_family_model_number c.args.model c.record_of.ensures (search rules)
