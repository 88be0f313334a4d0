-- `bytes::ascii_at` meets its contract: the four bytes are ASCII.
use Rattle.laws.proofs.Pick.{told}
use Rattle.text_check.proofs.Skips.{skip_four}
use Rattle.text_check.proofs.bytes.ascii_at.Goals as goal

pub returns-then-ascii_word-clause-skipped : goal.returns-then-ascii_word-clause-skipped
returns-then-ascii_word-clause-skipped c =
    skip_four _ (λ k. (c.type_inv.text k).fits) _ c.requires (rw c.big_endian.ensures at (told c.ascii_word.ensures c.if-ascii_word.true))
