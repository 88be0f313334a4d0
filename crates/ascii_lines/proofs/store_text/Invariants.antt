-- `store_text` meets its contract. Invariant: writing the remaining text from here gives the whole text written from the start.
use mathlib.Core.Path.{◌≡◌}
use lib.ListN.{length, drop}
use Rattle.ascii_lines.proofs.Page.{ToWrite}
use Rattle.ascii_lines.proofs.store_text.Given as goal

abbrev pub invariant-loop-byte : goal.invariant-loop-byte
invariant-loop-byte l = record {
  length : length l.out ≡ length l.initial.out;
  written : ToWrite l.at l.initial.out l.text l.end l.out (drop l.byte-index l.text);
}
