-- `words::after_word` meets its contract: four bytes of a run, four ASCII bytes, the last two bytes of a text in a run, or the scan.
use mathlib.Core.Path.{sym}
use native.Mathlib.Omega.{arith}
use Rattle.laws.proofs.Pick.{told}
use Rattle.text_check.proofs.KnownSteps.{ascii_word_stays, four_known, first_half_known}
use Rattle.text_check.proofs.words.after_word.Goals as goal

pub overflow_add-result : goal.overflow_add-result
overflow_add-result c = omega (arith, (four_known _ _ (told c.run_of_four.ensures c.if-run_of_four.true)).few)

pub returns-then-run_of_four : goal.returns-then-run_of_four
returns-then-run_of_four c = sym (four_known _ _ (told c.run_of_four.ensures c.if-run_of_four.true)).after

pub returns-then-ascii_word : goal.returns-then-ascii_word
returns-then-ascii_word c = rw c.if-s-eq0.true (sym (ascii_word_stays _ (told c.ascii_word.ensures c.if-ascii_word.true)))

pub overflow_add-result-then-run_of_two : goal.overflow_add-result-then-run_of_two
overflow_add-result-then-run_of_two c = omega (arith, (first_half_known _ _ c.if-w-eq0.true (rw c.octets.ensures at (told c.run_of_two.ensures c.if-run_of_two.true))).few)

pub returns-then-run_of_two : goal.returns-then-run_of_two
returns-then-run_of_two c = sym (first_half_known _ _ c.if-w-eq0.true (rw c.octets.ensures at (told c.run_of_two.ensures c.if-run_of_two.true))).after
