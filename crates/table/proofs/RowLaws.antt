-- What the code gives for a kind is its row of THE TABLE, and the bounds of a row's numbers. Closed by a test of every row.
use Prim.Native.Nat.{◌≤◌, ◌<◌}
use mathlib.Core.Path.{◌≡◌, refl}
use mathlib.Core.Bool.{Bool, true}
use lib.Dec.{ltb, leb}
use borrow.Author.Tests.{ltb-true, leb-true}
use Rattle.laws.specs.Pick.{both}
use Rattle.laws.proofs.Pick.{both_left, both_right}
use Rattle.slots.specs.Slots.{put, put_all}
use Rattle.kinds.specs.declared.kind.Kind.{Kind}
use Rattle.kinds.specs.Fields.{start, part_of}
use Rattle.kinds.specs.Layout.{layout}
use Rattle.kinds.proofs.Rows.{every_kind, at_kind}
use Rattle.table.specs.declared.rows.Row.{Row}
use Rattle.table.specs.Rows.{RowIs, slots_before, table_row}

-- to unfold this is to unfold what computes a row at a kind
unfoldable pub computed : Unit {0}
unfolding layout start part_of put put_all slots_before
computed = tt

pub row_told : (k : Kind) {m : Kind} {r : Row} → m ≡ k → RowIs (table_row k) r → RowIs (table_row m) r
row_told k e s = rw e s

-- ---- the bounds of a row's numbers
pub record RowSmall (r : Row) : Type 0 where
  pub status : r.status < 0x400
  pub start : r.start < 0x1_0000
  pub first : r.first_slot < 0x1_0000
  pub slots : r.slots ≤ 11

abbrev small_row : Row → Bool
small_row r =
    both (both (ltb r.status 0x400) (ltb r.start 0x1_0000)) (both (ltb r.first_slot 0x1_0000) (leb r.slots 11))

rows_small : (k : Kind) → small_row (table_row k) ≡ true
unfolding every_kind computed both
rows_small k = at_kind (λ j. small_row (table_row j)) refl k

pub row_small : (k : Kind) → RowSmall (table_row k)
row_small k =
    let a = both_left _ _ (rows_small k) in
    let b = both_right _ _ (rows_small k) in
    record { status = ltb-true _ _ (both_left _ _ a); start = ltb-true _ _ (both_right _ _ a); first = ltb-true _ _ (both_left _ _ b); slots = leb-true _ _ (both_right _ _ b) }
