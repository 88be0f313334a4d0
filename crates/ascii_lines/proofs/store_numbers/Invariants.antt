-- `store_numbers` meets its contract. Invariant: writing the remaining numbers from here gives all numbers written from the start.
use mathlib.Core.Path.{◌≡◌}
use lib.ListN.{length, drop}
use Rattle.ascii_lines.specs.Numbers.{numbers}
use Rattle.ascii_lines.proofs.Page.{ToWrite}
use Rattle.ascii_lines.proofs.store_numbers.Given as goal

abbrev pub invariant-loop-n : goal.invariant-loop-n
invariant-loop-n l = record {
  length : length l.out ≡ length l.initial.out;
  written : ToWrite l.at l.initial.out (numbers l.ns) l.end l.out (numbers (drop l.n-index l.ns));
}
