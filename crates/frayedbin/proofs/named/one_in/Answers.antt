-- `named::one_in` meets its contract, by the laws of `OneNumber`.
use mathlib.Core.Path.{sym, ◌∙◌}
use Rattle.frayedbin.proofs.OneNumber.{in_done}
use Rattle.frayedbin.proofs.named.one_in.Goals as goal

pub returns : goal.returns
returns c = c.accepted.ensures ∙ rw c.with_number.ensures (in_done _ _ _ _ (sym c.check_record.ensures ∙ c.in_default.is) c.requires.1 c.requires.0 (sym c.too_large.ensures ∙ c.if-too_large.false))
