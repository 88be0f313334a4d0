-- `one_pass::like_first` meets its contract: a packet that is there, and a head that is alike.
use borrow.Author.Tests.{lt-leb}
use Rattle.laws.proofs.Pick.{past}
use Rattle.text.proofs.Heads.{head_in_lem}
use Rattle.reading.specs.OnePass.{like_first}
use Rattle.reading.proofs.one_pass.like_first.Goals as goal

pub returns-then-p-packets_of : goal.returns-then-p-packets_of
unfolding like_first
returns-then-p-packets_of c =
    let h = rw c.packets_of.ensures at c.if-p-packets_of.true in
    past _ (lt-leb _ _ h) (rw (c.head_bits.ensures, c.head_at.ensures, head_in_lem _ _ h, c.head_bits-then-p-packets_of.ensures))
