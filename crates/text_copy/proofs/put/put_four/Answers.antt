-- `put::put_four` meets its contract: the four octets in their place are all of them written.
use Rattle.std.proofs.Common.{ap, ◌∙◌, length}
use Rattle.ascii_lines.proofs.Page.{says}
use Rattle.text_copy.proofs.Packets.{be_octets, four_here}
use Rattle.text_copy.proofs.put.put_four.Goals as goal

pub returns : goal.returns
returns c =
    says (rw c.copy_from_slice.ensures.after (four_here c.args.at c.args.out.now c.to_be_bytes.result (ap length c.to_be_bytes.ensures) c.requires)) (c.to_be_bytes.ensures ∙ be_octets _)
