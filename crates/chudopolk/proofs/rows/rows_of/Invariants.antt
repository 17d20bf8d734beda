-- `chudopolk::rows::rows_of` meets its contract. The loop's invariant: the first i rows are those of the numbers, and there are numbers for n.
use mathlib.Core.Path.{◌≡◌}
use Prim.Native.Nat.{◌≤◌, ◌*◌}
use lib.ListN.{length}
use Rattle.chudopolk.specs.Rows.{rows_up_to}
use Rattle.chudopolk.proofs.rows.rows_of.Given as goal

abbrev pub invariant-loop-i : goal.invariant-loop-i
invariant-loop-i l = record { few : l.n ≤ 64; held : 4 * l.n ≤ length l.values; made : l.rows ≡ rows_up_to l.i l.values }
