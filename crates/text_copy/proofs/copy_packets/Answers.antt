-- `copy_packets` meets its contract: full packets fit, the text fits, or nothing is put.
use Prim.Native.Nat.{◌-◌, ◌/◌, ◌≤◌}
use mathlib.Core.Path.{ap}
use native.Mathlib.Omega.{arith}
use lib.ListN.{length}
use Rattle.counts.specs.declared.PacketNumber.{PacketNumber}
use Rattle.text.specs.Bytes.{text_of}
use Rattle.text_copy.proofs.Copies.{text_most, copied}
use Rattle.text_copy.proofs.copy_packets.Goals as goal
use Rattle.text_copy.proofs.copy_packets.Goals.{then-out-packets_of+else-out-length, else-out-packets_of}

pub returns : goal.returns
returns c =
    let a = c.args in
    let t = text_of a.words.now (14 - a.offset) (length a.words.now / 4) in
    let n = ap (λ (n : PacketNumber). n.0) c.packets_of.ensures in
    let fits : length t ≤ length a.out.now =
    elim c.if-out-packets_of.branch [
      | then-out-packets_of+else-out-length w ↦ omega arith
      | else-out-packets_of w ↦ omega (arith, text_most a.words.now a.offset (length a.words.now / 4))
    ] in
    let r = copied t a.out.now fits c.put_packets.ensures in
    record { answer = r.0; bytes = r.1 }
