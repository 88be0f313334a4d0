-- `answers::RecordAnswer::fresh` meets its contract, by the laws of `Fresh`.
use mathlib.Core.Path.{ap}
use Rattle.c_structs.specs.Crossed.{with_numbers}
use Rattle.c_structs.proofs.Fresh.{fresh_plain, fresh-block}
use Rattle.c_structs.proofs.answers.RecordAnswer.fresh.Goals as goal

pub returns-in_default : goal.returns-in_default
returns-in_default c = rw (c.accepted.ensures, c.of_text-numbers.ensures) (ap with_numbers (fresh_plain _ c.in_default.not-FunctionBlockInfo))

pub returns : goal.returns
returns c = rw (c.accepted-2.ensures, c.with_number.ensures, c.of_text-numbers.ensures, c.in-FunctionBlockInfo.is) (ap with_numbers fresh-block)
