-- `bytes::run_at` meets its contract: the twelve bytes are four simple characters.
use Rattle.laws.proofs.Pick.{told}
use Rattle.text_check.proofs.Skips.{skip_run}
use Rattle.text_check.proofs.bytes.run_at.Goals as goal

pub returns-then-run_one_due-clause-skipped : goal.returns-then-run_one_due-clause-skipped
returns-then-run_one_due-clause-skipped c =
    skip_run _ (λ k. (c.type_inv.text k).fits) _ c.requires (rw c.big_endian.ensures at (told c.run_none_due.ensures c.if-run_none_due.true)) (rw c.big_endian-then-run_none_due.ensures at (told c.run_two_due.ensures c.if-run_two_due.true)) (rw c.big_endian-then-run_two_due.ensures at (told c.run_one_due.ensures c.if-run_one_due.true))
