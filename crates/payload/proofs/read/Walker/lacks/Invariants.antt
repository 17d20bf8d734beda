-- `Walker::lacks` meets its contract. The loop's invariant: the walker is as it was, and what is asked from the level's first row on is what is
-- asked from row i on.
use mathlib.Core.Path.{◌≡◌}
use lib.ListN.{drop}
use Rattle.payload.specs.Walking.{types_in, met_in}
use Rattle.payload.specs.Reading.{lacks}
use Rattle.payload.proofs.read.Walker.lacks.Given as goal

abbrev pub invariant-loop-i : goal.invariant-loop-i
invariant-loop-i l =
    (l.self ≡ l.fn.self)
    × (lacks l.level.number (drop l.level.first (types_in l.fn.self)) (drop l.level.first (met_in l.fn.self))
    ≡ lacks l.level.number (drop l.i (types_in l.fn.self)) (drop l.i (met_in l.fn.self)))
