-- `words::read_words` meets its contract, by the laws of `Lists` of laws, turn by turn.
use Prim.Native.Nat.{◌/◌, min}
use mathlib.Core.Path.{◌≡◌}
use lib.ListN.{length}
use Rattle.laws.specs.Lists.{up_to}
use Rattle.listing.specs.Listing.{word_at}
use Rattle.listing.proofs.words.read_words.Given as goal

abbrev pub invariant-loop-i : goal.invariant-loop-i
invariant-loop-i l = (l.n ≡ min (length l.bytes / 4) (length l.initial.words)) × (length l.words ≡ length l.initial.words) × (l.words ≡ up_to l.i (word_at l.bytes) l.initial.words)
