-- `words::leading_ascii_packets` meets its contract. Invariant: the first p packets are ASCII.
use Rattle.std.proofs.Common.{◌∙◌}
use Rattle.laws.proofs.Pick.{told}
use Rattle.text_check.proofs.AsciiPackets.{ascii_here, ascii_more}
use Rattle.text_check.proofs.words.leading_ascii_packets.Goals as goal

pub loop-p-preserved : goal.loop-p-preserved
loop-p-preserved c =
    let h = rw c.whole_packets-packets.ensures at c.loop-p-test.true in
    ascii_more _ _ c.loop-p.invariant h (ascii_here _ _ _ _ _ h c.text_masks-masks.ensures c.text_words.ensures ∙ told c.ascii_words.ensures c.if-not-ascii_words.false)
