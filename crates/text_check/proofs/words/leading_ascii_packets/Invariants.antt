-- `words::leading_ascii_packets` meets its contract. Invariant: the first p packets are ASCII.
use Rattle.text_check.specs.FastCheck.{AsciiStart}
use Rattle.text_check.proofs.words.leading_ascii_packets.Given as goal

abbrev pub invariant-loop-p : goal.invariant-loop-p
invariant-loop-p l = AsciiStart l.words l.offset l.p
