-- `put_each` meets its contract, by the laws of `Filled`, turn by turn.
use mathlib.Core.Path.{sym, ◌∙◌}
use native.Mathlib.Omega.{arith}
use Rattle.std.proofs.lemmas.Map.Keys.{ge_from_not_lt}
use Rattle.text.proofs.Heads.{starts_at}
use Rattle.fields.specs.Puts.{put_if_fits}
use Rattle.fields.proofs.Filled.{none_filled, packet_filled}
use Rattle.fields.proofs.put_each.Goals as goal

pub loop-p-init : goal.loop-p-init
loop-p-init c = (rw c.packets_of.ensures at (ge_from_not_lt c.packets_of.result.0 c.args.packets.0 (sym c.lt.ensures ∙ c.if-lt.false)), omega arith, none_filled _ _)

pub loop-p-preserved : goal.loop-p-preserved
loop-p-preserved c =
    let a = c.args in
    let l = c.loop-p in
    let k = starts_at a.words.now _ c.first_word-k.ensures (omega arith) (omega arith) in
    (l.invariant.0, omega arith, rw k (packet_filled (λ w. put_if_fits w a.bits.low a.bits.width a.v) l.p _ l.invariant.2 (omega arith) (rw k at c.put.ensures)))
