-- `device_identity::frayedbin_record_set_software_version` meets its contract, as the calls that it makes.
use Rattle.std.proofs.Common.{rules}
use Rattle.frayedbin.proofs.OneNumber.{version_own}
use Rattle.frayedbin.proofs.device_identity.frayedbin_record_set_software_version.Goals as goal

pub returns : goal.returns
returns c = version_own _ c.map-edited.result c.edited.ensures c.args.a c.args.b c.args.c c.args.d c.record_of.ensures (search rules)
