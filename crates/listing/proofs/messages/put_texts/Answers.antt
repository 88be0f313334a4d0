-- `messages::put_texts` meets its contract, by the laws of `Numbers` and `Puts` of lines.
use Rattle.ascii_lines.proofs.Puts.{◌⨾◌}
use Rattle.listing.proofs.messages.put_texts.Goals as goal

pub returns : goal.returns
returns c = c.put_fields.ensures ⨾ c.put_shown.ensures
