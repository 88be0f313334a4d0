-- `list` meets its contract, by the laws of `Room` and `Puts` of lines.
use Rattle.std.proofs.Common.{rules}
use Rattle.ascii_lines.proofs.Puts.{given_back}
use Rattle.listing.proofs.Room.{listed}
use Rattle.listing.proofs.list.Goals as goal

pub returns : goal.returns
returns c = listed _ _ _ _ (given_back c.new-writer.ensures c.put_listing.ensures c.end.ensures (search rules))
