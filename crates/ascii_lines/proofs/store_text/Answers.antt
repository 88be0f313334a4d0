-- `store_text` meets its contract. Invariant: writing the remaining text from here gives the whole text written from the start.
use mathlib.Core.Path.{refl, sym, ◌∙◌}
use mathlib.Core.List.{append-nil}
use lib.ListN.{drop_of_length-le}
use Rattle.laws.proofs.Lists.{drop_more}
use Rattle.ascii_lines.proofs.Page.{to_write_all, to_write_turn, to_write_none}
use Rattle.ascii_lines.proofs.FromLast.{stayed}
use Rattle.ascii_lines.proofs.store_text.Goals as goal

pub loop-byte-init : goal.loop-byte-init
loop-byte-init c = record { length = refl; written = to_write_all _ _ _ }

pub loop-byte-preserved : goal.loop-byte-preserved
loop-byte-preserved c =
    let v = c.loop-byte.invariant in
    let w = c.store_byte-end in
    record { length = w.auto.out ∙ v.length; written = to_write_turn v.written w.ensures (drop_more _ _ c.loop-byte-test.true) }

-- a full page takes nothing more
pub returns-then-out-end : goal.returns-then-out-end
returns-then-out-end c = to_write_none (to_write_turn c.loop-byte.invariant.written (stayed _ _ _ c.if-out-end.true) (sym (append-nil _))) refl

pub returns : goal.returns
returns c = to_write_none c.loop-byte.invariant.written (drop_of_length-le _ c.loop-byte-test.false)
