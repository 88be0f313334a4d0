-- `bytes::whole_at` meets its contract: the four bytes are ASCII, or the first three one simple character.
use Rattle.laws.proofs.Pick.{told}
use Rattle.text_check.proofs.Skips.{skip_four, skip_three}
use Rattle.text_check.proofs.bytes.whole_at.Goals as goal

pub returns-then-ascii_word-clause-skipped : goal.returns-then-ascii_word-clause-skipped
returns-then-ascii_word-clause-skipped c =
    skip_four _ (λ k. (c.type_inv.text k).fits) _ c.requires (rw c.big_endian-w.ensures at (told c.ascii_word.ensures c.if-ascii_word.true))

pub returns-then-simple_character-clause-skipped : goal.returns-then-simple_character-clause-skipped
returns-then-simple_character-clause-skipped c =
    skip_three _ (λ k. (c.type_inv.text k).fits) _ c.requires (rw (c.octets.ensures, c.big_endian-w.ensures) at (told c.simple_character.ensures c.if-simple_character.true))
