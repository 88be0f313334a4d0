-- `device_identity::frayedbin_record_set_device_manufacturer` meets its contract, as the calls that it makes.
use Rattle.std.proofs.Common.{rules}
use Rattle.frayedbin.proofs.OneNumber.{manufacturer_own}
use Rattle.frayedbin.proofs.device_identity.frayedbin_record_set_device_manufacturer.Goals as goal

pub returns : goal.returns
returns c = manufacturer_own _ c.map-edited.result c.edited.ensures c.args.a c.args.b c.args.c c.record_of.ensures (search rules)
