-- Rows that are judged fine: each fits its type row, and they are the parts of the payload, row by row.
-- Assumes nothing.
use mathlib.Core.Path.{◌≡◌, refl}
use mathlib.Core.Bool.{Bool, true, false, not}
use mathlib.Core.List.{List, [], ◌∷◌}
use Prim.Native.Nat.{ℕ, zero, suc, ◌≤◌, ◌<◌}
use native.Mathlib.Omega.{arith}
use lib.ListN.{length, get_or}
use lib.Seq.{drop-cons}
use lib.Dec.{leb}
use Rattle.wire.specs.Choose.{pick, and}
use Rattle.payload.specs.declared.table.TypeRow.{TypeRow}
use Rattle.payload.specs.declared.row.Row.{Row}
use Rattle.payload.specs.declared.row.Value.{Value}
use Rattle.payload.specs.declared.fine.FineRows.{FineRows}
use Rattle.payload.specs.Table.{no_row}
use Rattle.payload.specs.Cells.{row_in, table_in, FineRow}
use Rattle.payload.specs.Row.{absent_row, is_absent}
use Rattle.payload.specs.Judging.{outside, value_fits, row_fine, up_after, Judged, Fine, Outside, Unfit, judged_from, judged_of, is_fine}
use Rattle.payload.specs.Writing.{part_of, parts_of}
use Rattle.payload.specs.Fine.{cell_at, value_at, parts_at}
use Rattle.payload.proofs.Joined.{clash, and_right}
use Rattle.payload.proofs.Rules.CellLaws.{table_length, rows_end, rows_here, row_at_lem}
use Rattle.payload.proofs.Writing.Nesting.{passed, absent_value_lem}

-- a value that fits its row, and a run of it that lies in the content buffer
pub record Fitting (buf : List ℕ) (r : TypeRow) (u : Value) (bits : ℕ) : Type 0 where
  pub inside : outside (length buf) u ≡ false
  pub fits : value_fits buf r u bits ≡ true

-- a row that is fine has a value that fits
fine_fits : (buf : List ℕ) (r : TypeRow) (upto : ℕ) (v : Row) → row_fine buf upto r v ≡ true → value_fits buf r v.value v.bits ≡ true
unfolding row_fine
fine_fits buf r upto v e = go (is_absent v) refl e
  where
    go : (a : Bool) → is_absent v ≡ a → pick a (not (and r.required (leb r.level upto)))
        (and (leb r.level upto) (value_fits buf r v.value v.bits)) ≡ true
        → value_fits buf r v.value v.bits ≡ true
    go true ea e = rw (absent_value_lem v ea)
    go false ea e = and_right (leb r.level upto) (value_fits buf r v.value v.bits) e

each_fits : (buf : List ℕ) (upto : ℕ) (rs : List TypeRow) (vs : List Row) → judged_from buf upto rs vs ≡ Fine → (i : ℕ) → i < length rs
    → i < length vs → Fitting buf (get_or rs i no_row) (get_or vs i absent_row).value (get_or vs i absent_row).bits
each_fits buf upto [] vs e i h k = absurd (omega arith)
each_fits buf upto (r ∷ rs) [] e i h k = absurd (omega arith)
each_fits buf upto (r ∷ rs) (v ∷ vs) e zero h k =
    let p = passed buf upto r rs v vs e in
    record { inside = p.inside; fits = fine_fits buf r upto v p.fine }
each_fits buf upto (r ∷ rs) (v ∷ vs) e (suc i) h k =
    each_fits buf (up_after upto r v) rs vs (passed buf upto r rs v vs e).later i (omega arith) (omega arith)

fine_is : (j : Judged) → is_fine j ≡ true → j ≡ Fine
fine_is Fine e = refl
fine_is Outside e = clash e
fine_is Unfit e = clash e

module _ (f : FineRows) where
  pub judged_fine : judged_of f.content.now (table_in f.table.now.count f.table.now.cells) f.rows.now ≡ Fine
  judged_fine = fine_is _ f.fine

  pub parts_end : (i : ℕ) → f.table.now.count ≤ i → parts_at f i ≡ []
  unfolding parts_of
  parts_end i h = rw (rows_end f.table.now.cells f.table.now.count i h)

  module _ (i : ℕ) (h : i < f.table.now.count) where
    pub row_at : FineRow (row_in (cell_at f i))
    row_at = f.table.now.sound.fine.each i h

    pub fits_at : Fitting f.content.now (row_in (cell_at f i)) (value_at f i).value (value_at f i).bits
    unfolding judged_of
    fits_at =
        rw (row_at_lem f.table.now.cells f.table.now.count i no_row h) at
        (each_fits f.content.now 1 (table_in f.table.now.count f.table.now.cells) f.rows.now judged_fine i
        (rw (table_length f.table.now.count f.table.now.cells) h) (omega (arith, f.lent)))

    pub parts_more : parts_at f i ≡ part_of f.wire f.content.now (row_in (cell_at f i)) (value_at f i) ∷ parts_at f (suc i)
    unfolding parts_of
    parts_more = rw (rows_here f.table.now.cells f.table.now.count i h, drop-cons f.rows.now i absent_row (omega (arith, f.lent)))
