-- `words::read_words` meets its contract, by the laws of `Lists` of laws, turn by turn.
use native.Mathlib.Omega.{arith}
use lib.ListN.{length-set}
use Rattle.laws.proofs.Lists.{up_to_more}
use Rattle.listing.proofs.words.read_words.Goals as goal

pub loop-i-preserved : goal.loop-i-preserved
loop-i-preserved c = let l = c.loop-i.invariant in
    (l.0, simp length-set l.1, rw (l.2, c.word_at.ensures) (up_to_more _ _ _ (omega arith)))
