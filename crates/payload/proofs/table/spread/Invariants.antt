-- `spread` meets its contract. The loop's invariant: the Data IDs are apart if those from row i on are.
use mathlib.Core.Path.{◌≡◌}
use lib.ListN.{length}
use Rattle.payload.specs.Cells.{table_in}
use Rattle.payload.proofs.Rules.CellLaws.{rows_after}
use Rattle.payload.proofs.Rules.Spread.{apart}
use Rattle.payload.proofs.table.spread.Given as goal

abbrev pub invariant-loop-i : goal.invariant-loop-i
invariant-loop-i l =
    (length l.marks ≡ 320) × (length l.owners ≡ 6)
    × (apart l.initial.marks l.initial.owners 0 (table_in (length l.cells) l.cells) ≡ apart l.marks l.owners l.i (rows_after l.cells l.i))
