-- `bytes::skip_last` meets its contract: the remaining bytes are ASCII, or one simple three-byte character.
use Prim.Native.Nat.{◌-◌}
use native.Mathlib.Omega.{arith}
use lib.ListN.{length}
use Rattle.laws.proofs.Pick.{told}
use Rattle.text_check.proofs.Skips.{skip_left, skip_last_three}
use Rattle.text_check.proofs.bytes.skip_last.Goals as goal

pub returns-then-ascii_word : goal.returns-then-ascii_word
returns-then-ascii_word c = let n = length c.args.text.now in skip_left _ (λ k. (c.type_inv.text k).fits) (n - 4) (omega arith) _ n (omega arith) (omega arith) (omega arith) (rw c.big_endian-w.ensures at (told c.ascii_word.ensures c.if-ascii_word.true))

pub returns-then-simple_character : goal.returns-then-simple_character
returns-then-simple_character c = let n = length c.args.text.now in skip_last_three _ (λ k. (c.type_inv.text k).fits) (n - 4) (omega arith) _ n (omega arith) (omega arith) (rw (c.octets.ensures, c.big_endian-w.ensures) at (told c.simple_character.ensures c.if-simple_character.true))
