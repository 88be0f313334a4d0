-- `named::flag_in` meets its contract, by the laws of `OneNumber`.
use mathlib.Core.Path.{◌∙◌}
use Rattle.bit_ops.proofs.Parts.{bit_byte}
use Rattle.frayedbin.proofs.OneNumber.{flag-set}
use Rattle.frayedbin.proofs.named.flag_in.Goals as goal

pub returns : goal.returns
returns c = rw (c.from.ensures, bit_byte) at c.one_in.ensures ∙ flag-set c.args.flag c.args.on _ c.flag_at-at.ensures
