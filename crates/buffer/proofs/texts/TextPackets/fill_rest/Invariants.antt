-- `TextPackets::fill_rest` meets its contract, by the laws of `Turns`, turn by turn.
use Prim.Native.Nat.{◌≤◌, ◌-◌, ◌*◌}
use Rattle.text.specs.Written.{word_new}
use Rattle.buffer.specs.Acts.{formatted}
use Rattle.fields.proofs.Filled.{Filled}
use Rattle.buffer.proofs.texts.TextPackets.fill_rest.Given as goal

abbrev pub invariant-loop-p : goal.invariant-loop-p
invariant-loop-p l = (l.p ≤ l.p-end) × Filled (l.p * 4) (word_new l.text (formatted l.self.head) (14 - l.self.offset) l.self.count.0) l.initial.words l.words
