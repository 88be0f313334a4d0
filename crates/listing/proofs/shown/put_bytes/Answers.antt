-- `shown::put_bytes` meets its contract, by the laws of `Ahead` and `Puts` of lines, turn by turn.
use Prim.Native.Nat.{◌-◌}
use native.Mathlib.Omega.{arith}
use Rattle.ascii_lines.proofs.Puts.{to_put_all, to_put_turn, to_put_none}
use Rattle.listing.proofs.Ahead.{ahead_all, ahead_start, hex_more, ahead_more, ahead_less, hex_none}
use Rattle.listing.proofs.shown.put_bytes.Goals as goal

pub loop-byte-init : goal.loop-byte-init
loop-byte-init c = let a = c.args in
    rw c.start-place.ensures
    (ahead_start a.words.now (14 - a.offset) (omega arith), rw (ahead_all a.words.now (14 - a.offset) (omega arith)) (to_put_all _ _))

pub loop-byte-smaller : goal.loop-byte-smaller
loop-byte-smaller c = ahead_less _ _ _ c.loop-byte.invariant.0 _ c.step-stepped.ensures _ c.in-Some.is

pub loop-byte-preserved : goal.loop-byte-preserved
loop-byte-preserved c = let l = c.loop-byte.invariant in
    let s = c.step-stepped.ensures in
    let t = c.in-Some.is in
    (ahead_more _ _ _ l.0 _ s _ t, to_put_turn l.1 c.put_hex.ensures (hex_more _ _ _ l.0 _ s _ t))

pub returns-in_default : goal.returns-in_default
returns-in_default c = let l = c.loop-byte.invariant in
    to_put_none l.1 (hex_none _ _ _ l.0 _ c.step-stepped.ensures c.in_default.is)
