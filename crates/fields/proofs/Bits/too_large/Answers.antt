-- `Bits::too_large` meets its contract: a u32 fits in 32 bits.
use Prim.Native.Nat.{◌^◌, ◌≤◌}
use mathlib.Core.Path.{sym}
use native.Mathlib.Omega.{arith}
use lib.Pow.{pow_mono}
use borrow.Author.Tests.{lt-leb, le-ltb}
use Rattle.fields.proofs.Bits.too_large.Goals as goal

pub returns-else-self-lt32 : goal.returns-else-self-lt32
returns-else-self-lt32 c = let m : 2 ^ 32 ≤ 2 ^ c.args.self.width = pow_mono c.if-self-lt32.false in rw (le-ltb _ _ c.if-self-lt32.false) (sym (lt-leb _ c.args.v (omega arith)))
