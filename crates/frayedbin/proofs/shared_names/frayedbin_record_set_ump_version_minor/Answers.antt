-- `shared_names::frayedbin_record_set_ump_version_minor` meets its contract, by the record's status.
use mathlib.Core.Path.{◌∙◌}
use Rattle.frayedbin.proofs.OneNumber.{first-name, second-name}
use Rattle.frayedbin.proofs.shared_names.frayedbin_record_set_ump_version_minor.Goals as goal

pub returns-then-record-eq0 : goal.returns-then-record-eq0
returns-then-record-eq0 c = c.number_in.ensures ∙ first-name _ _ _ _ c.if-record-eq0.true

pub returns : goal.returns
returns c = c.number_in-2.ensures ∙ second-name _ _ _ _ c.if-record-eq0.false
