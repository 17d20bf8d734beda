-- `chudopolk::table::rows_of` meets its contract. The loop's invariant: the first i rows are those of the numbers.
use mathlib.Core.Path.{◌≡◌}
use Rattle.chudopolk.specs.Table.{type_rows_of}
use Rattle.chudopolk.proofs.table.rows_of.Given as goal

abbrev pub invariant-loop-i : goal.invariant-loop-i
invariant-loop-i l = l.rows ≡ type_rows_of l.i l.numbers
