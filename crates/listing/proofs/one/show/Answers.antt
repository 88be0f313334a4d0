-- `one::show` meets its contract, by the laws of `Formed` of standard.
use mathlib.Core.Path.{sym, ◌∙◌}
use native.Mathlib.Omega.{arith}
use Rattle.standard.proofs.Formed.{read_formed}
use Rattle.listing.proofs.one.show.Goals as goal

pub put_message-requires : goal.put_message-requires
put_message-requires c = let w = (read_formed _ _ (sym c.read.ensures ∙ c.in-Ok.is)).words in omega arith
