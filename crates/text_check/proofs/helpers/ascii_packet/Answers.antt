-- `helpers::ascii_packet` meets its contract: the packet is whole, and its four words are tested as one.
use Rattle.std.proofs.Common.{◌∙◌, sym}
use Rattle.text_check.proofs.AsciiPackets.{ascii_here}
use Rattle.text_check.proofs.helpers.ascii_packet.Goals as goal

pub returns : goal.returns
returns c =
    c.ascii_words.ensures ∙ sym (ascii_here _ _ _ _ _ (rw c.whole_packets-packets.ensures at c.if-packets-packet.false) c.text_masks.ensures c.text_words.ensures)
