-- `packets::clear_from` meets its contract, by the laws of `Turns`, turn by turn.
use Prim.Native.Nat.{◌*◌, ◌/◌}
use mathlib.Core.Path.{◌≡◌, ap}
use native.Mathlib.Omega.{arith}
use lib.ListN.{length}
use borrow.Author.Tests.{lt-ltb, le-ltb}
use Rattle.counts.specs.declared.WordNumber.{WordNumber}
use Rattle.fields.proofs.Filled.{more_filled}
use Rattle.buffer.proofs.Turns.{found_filled}
use Rattle.buffer.proofs.packets.clear_from.Goals as goal

pub loop-k-init : goal.loop-k-init
loop-k-init c =
    let e : c.end_of_packets-end.result.0 ≡ length c.args.words.now / 4 * 4 = ap (λ (w : WordNumber). w.0) c.end_of_packets-end.ensures in
    (e, omega arith, rw e c.requires, found_filled _ _ _ (omega (arith, c.requires)) (λ k h. rw (lt-ltb k _ h)))

pub loop-k-preserved : goal.loop-k-preserved
loop-k-preserved c =
    let l = c.loop-k in
    (l.invariant.0, omega (arith, l.invariant.1), omega arith, more_filled l.invariant.3 _ (omega (arith, l.invariant.0)) (rw (le-ltb l.k _ l.invariant.1)))
