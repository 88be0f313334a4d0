-- `in_slots::are_within` meets its contract, by the laws of `Within`.
use Rattle.std.proofs.Common.{rules, tests}
use mathlib.Core.Path.{◌∙◌}
use borrow.Author.Tests.{lt-leb}
use Rattle.std.proofs.lemmas.Iterator.{YieldsList-from_slice, YieldsList-from_zip}
use Rattle.std.proofs.lemmas.Iterator.Search.{all_from_yields_List}
use Rattle.numbers.proofs.Within.{below_limit, within_pairs, within_short}
use Rattle.numbers.proofs.in_slots.are_within.Goals as goal

pub returns-then-limits-numbers : goal.returns-then-limits-numbers
returns-then-limits-numbers c = all_from_yields_List below_limit c.all.new.self _ _ c.all.ensures.ran (YieldsList-from_zip (YieldsList-from_slice c.args.numbers.now cc) (YieldsList-from_slice c.args.limits.now cc)) (λ x b q k. search (rules, tests)) ∙ within_pairs _ _ c.if-limits-numbers.true

pub returns-else-limits-numbers : goal.returns-else-limits-numbers
returns-else-limits-numbers c = rw (within_short _ _ c.if-limits-numbers.false, lt-leb _ _ c.if-limits-numbers.false)
