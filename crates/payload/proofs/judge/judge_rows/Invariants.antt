-- `payload::judge::judge_rows` meets its contract. The loop's invariant: the rows and cells that are left decide, and those cells are fine.
use Rattle.std.proofs.Common.{◌≡◌, ℕ, ◌<◌, map, length, get_or}
use Rattle.payload.specs.Cells.{row_in, table_in, FineRow}
use Rattle.payload.specs.Judging.{judged_from, judged_of}
use Rattle.payload.proofs.judge.judge_rows.Given as goal

abbrev pub invariant-loop-row : goal.invariant-loop-row
invariant-loop-row l = record {
  decides : judged_from l.content l.upto (map row_in l.row-iterator.b.rest.now) l.row-iterator.a.rest.now
      ≡ judged_of l.content (table_in l.table.count l.table.cells) l.rows;
  fine : (k : ℕ) → k < length l.row-iterator.b.rest.now → FineRow (row_in (get_or l.row-iterator.b.rest.now k 0));
}
