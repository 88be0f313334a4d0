-- `named::number_in` meets its contract, by the laws of `OneNumber`.
use mathlib.Core.Path.{◌∙◌}
use Rattle.frayedbin.proofs.OneNumber.{number-set}
use Rattle.frayedbin.proofs.named.number_in.Goals as goal

pub returns : goal.returns
returns c = c.one_in.ensures ∙ number-set c.args.number c.args.x _ c.number_at-at.ensures
