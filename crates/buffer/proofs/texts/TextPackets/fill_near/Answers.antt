-- `TextPackets::fill_near` meets its contract, by the laws of `Turns`, turn by turn.
use mathlib.Core.Path.{ap}
use native.Mathlib.Omega.{arith}
use Rattle.counts.specs.declared.PacketNumber.{PacketNumber}
use Rattle.buffer.specs.Acts.{formatted}
use Rattle.fields.proofs.Filled.{none_filled}
use Rattle.buffer.proofs.Turns.{packet_more}
use Rattle.buffer.proofs.texts.TextPackets.fill_near.Goals as goal

pub returns-then-self-gt2-clause-words_after : goal.returns-then-self-gt2-clause-words_after
returns-then-self-gt2-clause-words_after c = (none_filled _ _).is

pub loop-p-init : goal.loop-p-init
loop-p-init c = (omega arith, none_filled _ _)

pub returns-then-not-is_full-clause-words_after : goal.returns-then-not-is_full-clause-words_after
returns-then-not-is_full-clause-words_after c =
    let s = c.args.self in
    let k = c.packet-packet.ensures in
    (packet_more _ (formatted s.head) s.offset s.count.0 c.loop-p.p c.loop-p.invariant.1 (omega arith) (omega arith) (ap (λ (x : PacketNumber). x.0) k.number) k.offset k.head c.words_at_end.ensures c.put_words.ensures).is

pub loop-p-preserved : goal.loop-p-preserved
loop-p-preserved c =
    let s = c.args.self in
    let k = c.packet-packet.ensures in
    (omega arith, packet_more _ (formatted s.head) s.offset s.count.0 c.loop-p.p c.loop-p.invariant.1 (omega arith) (omega arith) (ap (λ (x : PacketNumber). x.0) k.number) k.offset k.head c.words_of_text.ensures c.put_words-in-loop-p.ensures)
