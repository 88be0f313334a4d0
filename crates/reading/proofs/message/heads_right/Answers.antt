-- `message::heads_right` meets its contract: as many packets as the kind may have, and as its heads say.
use mathlib.Core.Path.{◌≡◌, sym, ◌∙◌}
use borrow.Author.Rules.{rules}
use Rattle.reading.specs.OnePass.{number_in}
use Rattle.reading.proofs.TextRows.{offset_one}
use Rattle.reading.proofs.Passes.{too_many, not_many}
use Rattle.reading.proofs.message.heads_right.Goals as goal
use Rattle.reading.proofs.message.heads_right.Goals.{then-offset_of-eq0, else-offset_of-eq0}

pub returns-then-most_packets-n : goal.returns-then-most_packets-n
returns-then-most_packets-n c = too_many _ _ _ (rw c.most_packets.ensures at c.if-most_packets-n.true)

pub returns : goal.returns
returns c =
    let told : c.map_or.result ≡ number_in c.if-offset_of-eq0.headed = search rules in
    let few = rw c.most_packets.ensures at c.if-most_packets-n.false in
    elim c.if-offset_of-eq0.branch [
      | then-offset_of-eq0 w ↦ rw told (not_many c.args.kind _ _ few (sym w.if-offset_of-eq0.true ∙ c.offset_of.ensures) (w.headed-is ∙ w.headed_packets-headed.ensures))
      | else-offset_of-eq0 w ↦ rw told (not_many c.args.kind _ _ few (offset_one c.args.kind c.offset_of.ensures w.if-offset_of-eq0.false) (w.headed-is ∙ w.headed_packets-headed-else-offset_of-eq0.ensures))
    ]
