-- `put::put_each` meets its contract. Invariant: writing the octets from this one on gives all of them written.
use Rattle.std.proofs.Common.{◌≡◌, ap, ◌∙◌, length, arith}
use lib.ListN.{length-set}
use Rattle.laws.specs.Lists.{nonzero}
use Rattle.ascii_lines.proofs.Page.{says, put_here, put_full, to_write_turn, to_write_none}
use Rattle.text_copy.proofs.Packets.{be_octets, octet_more, octet_none, octets_none}
use Rattle.text_copy.proofs.put.put_each.Goals as goal
use Rattle.text_copy.proofs.put.put_each.Goals.{then-octet-ne0+then-end-out, else-octet-ne0, else-octet-ne0-via-then-octet-ne0+else-end-out, else-octet-ne0-via-else-octet-ne0}

pub loop-octet-preserved : goal.loop-octet-preserved
loop-octet-preserved c =
    let l = c.loop-octet.invariant in
    let items = c.to_be_bytes-octet-items in
    let n : length items.result ≡ 4 = ap length items.ensures in
    elim c.if-octet-ne0.branch [
      | then-octet-ne0+then-end-out w ↦ rw (w.out-is, w.end-is) (length-set _ _ _ ∙ l.0, to_write_turn l.1 (put_here _ _ _ w.if-end-out.true) (octet_more items.result c.loop-octet.octet-index (omega arith) w.if-octet-ne0.true))
      | else-octet-ne0 w ↦ rw (w.out-is, w.end-is) (elim w.else-octet-ne0.branch [
        | else-octet-ne0-via-then-octet-ne0+else-end-out v ↦ (l.0, to_write_turn l.1 (put_full _ _ _ v.if-end-out.false) (octet_more items.result c.loop-octet.octet-index (omega arith) v.if-octet-ne0.true))
        | else-octet-ne0-via-else-octet-ne0 v ↦ rw (← octet_none items.result c.loop-octet.octet-index (omega arith) v.if-octet-ne0.false) l
      ])
    ]

pub returns : goal.returns
returns c =
    let items = c.to_be_bytes-octet-items in
    let n : length items.result ≡ 4 = ap length items.ensures in
    says (to_write_none c.loop-octet.invariant.1 (octets_none items.result c.loop-octet.octet-index (omega arith))) (ap nonzero (items.ensures ∙ be_octets _))
