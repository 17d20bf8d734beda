-- `all_differ` meets its contract. The loop's invariant: the Data IDs differ if those from row i on do.
use mathlib.Core.Path.{◌≡◌}
use lib.ListN.{length}
use Rattle.payload.specs.Table.{idents_differ}
use Rattle.payload.specs.Cells.{table_in}
use Rattle.payload.proofs.Rules.CellLaws.{rows_after}
use Rattle.payload.proofs.table.all_differ.Given as goal

abbrev pub invariant-loop-i : goal.invariant-loop-i
invariant-loop-i l = idents_differ (table_in (length l.cells) l.cells) ≡ idents_differ (rows_after l.cells l.i)
