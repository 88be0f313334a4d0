-- `TextPackets::fill_rest` meets its contract, by the laws of `Turns`, turn by turn.
use mathlib.Core.Path.{ap}
use native.Mathlib.Omega.{arith}
use Rattle.counts.specs.declared.PacketNumber.{PacketNumber}
use Rattle.buffer.specs.Acts.{formatted}
use Rattle.buffer.proofs.Turns.{found_filled, packet_more}
use Rattle.buffer.proofs.texts.TextPackets.fill_rest.Goals as goal

pub loop-p-init : goal.loop-p-init
loop-p-init c = (c.requires.room.0, found_filled _ _ _ (omega (arith, c.requires.room.0, c.requires.room.2)) c.requires.done)

pub loop-p-preserved : goal.loop-p-preserved
loop-p-preserved c =
    let s = c.args.self in
    let k = c.packet-packet.ensures in
    (omega arith, packet_more _ (formatted s.head) s.offset s.count.0 c.loop-p.p c.loop-p.invariant.1 (omega (arith, c.requires.room.1)) (omega (arith, c.requires.room.2)) (ap (λ (x : PacketNumber). x.0) k.number) k.offset k.head c.words_by_octets.ensures c.put_words.ensures)
