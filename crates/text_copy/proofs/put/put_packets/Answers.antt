-- `put::put_packets` meets its contract. Invariant: writing the text of the packets from p on gives the whole text written.
use mathlib.Core.Path.{refl, ap, ◌∙◌}
use native.Mathlib.Omega.{arith}
use Rattle.counts.specs.declared.PacketNumber.{PacketNumber}
use Rattle.ascii_lines.proofs.Page.{says, to_write_all, to_write_turn, to_write_none}
use Rattle.text_copy.specs.Words.{packet_text}
use Rattle.text_copy.proofs.Packets.{left_all, left_more, left_none}
use Rattle.text_copy.proofs.put.put_packets.Goals as goal

pub loop-p-init : goal.loop-p-init
loop-p-init c =
    let a = c.args in
    (refl, rw (left_all a.words.now a.offset) (to_write_all _ _ _))

pub loop-p-preserved : goal.loop-p-preserved
loop-p-preserved c =
    let w = c.put_packet-at in
    let n = ap (λ (n : PacketNumber). n.0) c.packets_of-p-end.ensures in
    (w.auto.out ∙ c.loop-p.invariant.0, to_write_turn c.loop-p.invariant.1 (says w.ensures (ap packet_text c.text_words.ensures)) (left_more c.args.words.now c.args.offset c.loop-p.p c.requires (omega arith)))

pub returns : goal.returns
returns c =
    let l = c.loop-p in
    let a = c.args in
    let n = ap (λ (n : PacketNumber). n.0) c.packets_of-p-end.ensures in
    to_write_none l.invariant.1 (left_none a.words.now a.offset l.p (omega arith))
