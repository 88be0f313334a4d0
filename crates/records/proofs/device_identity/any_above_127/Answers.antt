-- A number of the list is above 127.
use Rattle.std.proofs.Common.{rules, tests}
use mathlib.Core.Path.{◌∙◌}
use Rattle.std.proofs.lemmas.Iterator.{YieldsList-from_slice}
use Rattle.std.proofs.lemmas.Iterator.Search.{any_from_yields_List}
use Rattle.records.proofs.Methods.{above_127, any_above}
use Rattle.records.proofs.device_identity.any_above_127.Goals as goal

pub returns : goal.returns
returns c = any_from_yields_List above_127 c.any.new.self _ _ c.any.ensures.ran (YieldsList-from_slice c.args.numbers.now cc) (λ x b q k. search (rules, tests)) ∙ any_above _
