-- `store_decimal` meets its contract. Invariant: storing the remaining digits now gives the buffer with all digits stored.
use mathlib.Core.Path.{◌≡◌}
use lib.ListN.{length}
use lib.Seq.{sets}
use Rattle.ascii_lines.specs.Numbers.{decimal}
use Rattle.ascii_lines.proofs.FromLast.{last_digits}
use Rattle.ascii_lines.proofs.store_decimal.Given as goal

abbrev pub invariant-loop-i : goal.invariant-loop-i
invariant-loop-i l = record {
  length : length l.out ≡ length l.initial.out;
  stores : sets l.out l.at (last_digits l.i l.rest) ≡ sets l.initial.out l.at (decimal l.n);
}
