-- `words::after_packet` meets its contract: ASCII words leave no character open; otherwise the words are taken in turn.
use Rattle.laws.proofs.Pick.{told}
use Rattle.laws.proofs.EachBelow.{four_hold}
use Rattle.text_check.proofs.KnownSteps.{ascii_word_stays}
use Rattle.text_check.proofs.words.after_packet.Goals as goal

pub returns-then-ascii_words : goal.returns-then-ascii_words
returns-then-ascii_words c =
    let t = four_hold _ _ _ _ (told c.ascii_words.ensures c.if-ascii_words.true) in
    rw (c.if-s-eq0.true, ascii_word_stays _ t.0, ascii_word_stays _ t.1, ascii_word_stays _ t.2, ascii_word_stays _ t.3)
