-- `comes_again` meets its contract. The loop's invariant: the search from the first row behind is the search from this one.
use mathlib.Core.Path.{◌≡◌}
use lib.ListN.{length}
use Rattle.payload.specs.Cells.{level_in, ident_in, search_at}
use Rattle.payload.proofs.table.comes_again.Given as goal

abbrev pub invariant-loop-other : goal.invariant-loop-other
invariant-loop-other l =
    search_at (length l.behind) l.behind (level_in l.cell) (ident_in l.cell) 0 ≡ search_at (length l.behind) l.behind (level_in l.cell) (ident_in l.cell) l.other-index
