-- `words::after_first_word` meets its contract: two bytes of a run, one, or the scan.
use mathlib.Core.Path.{sym}
use native.Mathlib.Omega.{arith}
use Rattle.laws.proofs.Pick.{told}
use Rattle.text_check.proofs.KnownSteps.{second_half_known, last_octet_known}
use Rattle.text_check.proofs.words.after_first_word.Goals as goal

pub overflow_add-result : goal.overflow_add-result
overflow_add-result c = omega (arith, (second_half_known _ _ (told c.run_of_two.ensures c.if-run_of_two.true)).few)

pub returns-then-run_of_two : goal.returns-then-run_of_two
returns-then-run_of_two c = sym (second_half_known _ _ (told c.run_of_two.ensures c.if-run_of_two.true)).after

pub overflow_add-result-then-run_of_one : goal.overflow_add-result-then-run_of_one
overflow_add-result-then-run_of_one c = omega (arith, (last_octet_known _ _ (told c.run_of_one.ensures c.if-run_of_one.true)).few)

pub returns-then-run_of_one : goal.returns-then-run_of_one
returns-then-run_of_one c = sym (last_octet_known _ _ (told c.run_of_one.ensures c.if-run_of_one.true)).after
