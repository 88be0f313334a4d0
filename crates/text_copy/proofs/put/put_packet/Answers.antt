-- `put::put_packet` meets its contract: one word after the other.
use Rattle.ascii_lines.proofs.Page.{◌⨾◌}
use Rattle.text_copy.proofs.put.put_packet.Goals as goal

pub returns : goal.returns
returns c =
    c.put_each-a.ensures ⨾ c.put_word-b.ensures ⨾ c.put_word-c.ensures ⨾ c.put_word.ensures
