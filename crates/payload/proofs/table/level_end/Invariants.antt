-- `level_end` meets its contract. The loop's invariant: no row passed is above the level.
use Prim.Native.Nat.{ℕ, ◌≤◌, ◌<◌}
use lib.ListN.{get_or}
use Rattle.payload.specs.Cells.{level_in}
use Rattle.payload.proofs.table.level_end.Given as goal

abbrev pub invariant-loop-i : goal.invariant-loop-i
invariant-loop-i l = (j : ℕ) → l.first ≤ j → j < l.i → l.level ≤ level_in (get_or l.cells j 0)
