-- `count::text_length` meets its contract. Invariant: the count, and the length of the text from packet p on, are the text's length.
use mathlib.Core.Path.{ap, ◌∙◌}
use native.Mathlib.Omega.{arith}
use lib.ListN.{length}
use Rattle.counts.specs.declared.PacketNumber.{PacketNumber}
use Rattle.records.specs.declared.packet.Packet.{Packet}
use Rattle.text_copy.specs.Words.{packet_text}
use Rattle.text_copy.proofs.Packets.{left_all, length_more, left_none}
use Rattle.text_copy.proofs.count.text_length.Goals as goal

pub loop-p-init : goal.loop-p-init
loop-p-init c =
    let a = c.args in
    (omega arith, omega (arith, ap length (left_all a.words.now a.offset)))

pub loop-p-preserved : goal.loop-p-preserved
loop-p-preserved c =
    let n = ap (λ (n : PacketNumber). n.0) c.packets_of-p-end.ensures in
    let r = c.packet_length-count.ensures in
    let e = r.value ∙ ap (λ (t : Packet). length (packet_text t)) c.text_words.ensures in
    let m = length_more c.args.words.now c.args.offset c.loop-p.p c.requires (omega arith) in
    (omega (arith, r.small, c.loop-p.invariant.0), omega (arith, e, m, c.loop-p.invariant.1))

pub returns : goal.returns
returns c =
    let n = ap (λ (n : PacketNumber). n.0) c.packets_of-p-end.ensures in
    omega (arith, c.loop-p.invariant.1, ap length (left_none c.args.words.now c.args.offset c.loop-p.p (omega arith)))
