-- `bench::input::table` meets its contract. The loop's invariant: the first i rows are there.
use mathlib.Core.Path.{◌≡◌}
use Rattle.bench.specs.Form.{type_rows_in}
use Rattle.bench.proofs.input.table.Given as goal

abbrev pub invariant-loop-i : goal.invariant-loop-i
invariant-loop-i l = l.rows ≡ type_rows_in l.i l.b
