-- `find_in` meets its contract. The loop's invariant: the search from the level's first row is the search from this one.
use mathlib.Core.Path.{◌≡◌}
use Prim.Native.Nat.{◌-◌, ◌≤◌}
use Rattle.payload.specs.Cells.{search_at}
use Rattle.payload.proofs.table.find_in.Given as goal

abbrev pub invariant-loop-at : goal.invariant-loop-at
invariant-loop-at l =
    (l.first ≤ l.at) × (l.at ≤ l.stop) × (search_at l.stop l.cells l.level l.ident l.first ≡ search_at l.stop l.cells l.level l.ident l.at)

abbrev pub decreases-loop-at : goal.decreases-loop-at
decreases-loop-at l = l.stop - l.at
