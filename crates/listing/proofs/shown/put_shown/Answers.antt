-- `shown::put_shown` meets its contract, by the laws of `Ahead` and `Puts` of lines.
use Prim.Native.Nat.{◌-◌}
use native.Mathlib.Omega.{arith}
use Rattle.ascii_lines.proofs.Puts.{◌⨾◌, says}
use Rattle.listing.proofs.Ahead.{shown_none, shown_some}
use Rattle.listing.proofs.shown.put_shown.Goals as goal

pub returns-in-None : goal.returns-in-None
returns-in-None c = let a = c.args in
    c.put_byte.ensures ⨾ says c.put_byte-in-None.ensures (shown_none a.words.now (14 - a.offset) (omega arith) _ (rw c.start.ensures at c.step-first.ensures) c.in-None.is)

pub returns-in-Some : goal.returns-in-Some
returns-in-Some c = let a = c.args in
    c.put_byte.ensures ⨾ says c.put_bytes.ensures (shown_some a.words.now (14 - a.offset) (omega arith) _ _ (rw c.start.ensures at c.step-first.ensures) c.in-Some.is)
