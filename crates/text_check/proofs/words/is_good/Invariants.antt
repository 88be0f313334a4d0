-- `words::is_good` meets its contract. Invariant: the check has reached packet p, and its answer will be right.
use Rattle.std.proofs.Common.{◌/◌, length}
use Rattle.text_check.proofs.MaskedWords.{AtPacket}
use Rattle.text_check.proofs.words.is_good.Given as goal

abbrev pub invariant-loop-p : goal.invariant-loop-p
invariant-loop-p l = AtPacket l.words l.offset l.s l.p (length l.words / 4)
