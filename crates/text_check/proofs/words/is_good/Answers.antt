-- `words::is_good` meets its contract. Invariant: the check has reached packet p, and its answer will be right.
use Rattle.text_check.proofs.Numbers.{answer_bad}
use Rattle.text_check.proofs.MaskedWords.{packet_passed, packets_finish}
use Rattle.text_check.proofs.AsciiPackets.{ascii_reached}
use Rattle.text_check.proofs.words.is_good.Goals as goal

pub loop-p-init : goal.loop-p-init
loop-p-init c = ascii_reached _ _ c.leading_ascii_packets-plain.ensures

pub returns-then-s-eq-BAD : goal.returns-then-s-eq-BAD
returns-then-s-eq-BAD c =
    answer_bad _ _ _ c.if-s-eq-BAD.true (packet_passed _ _ _ _ _ _ _ _ (rw c.whole_packets-packets.ensures at c.loop-p-test.true) c.text_masks-masks.ensures c.text_words.ensures c.after_packet-s.ensures c.loop-p.invariant)

pub loop-p-preserved : goal.loop-p-preserved
loop-p-preserved c =
    packet_passed _ _ _ _ _ _ _ _ (rw c.whole_packets-packets.ensures at c.loop-p-test.true) c.text_masks-masks.ensures c.text_words.ensures c.after_packet-s.ensures c.loop-p.invariant

pub returns : goal.returns
returns c = packets_finish _ _ _ _ _ (rw c.whole_packets-packets.ensures at c.loop-p-test.false) c.loop-p.invariant
