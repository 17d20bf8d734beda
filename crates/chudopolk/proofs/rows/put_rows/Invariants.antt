-- `chudopolk::rows::put_rows` meets its contract. The loop's invariant: the numbers of the first i rows are stored, and old ones stand behind them.
use mathlib.Core.Path.{◌≡◌}
use Prim.Native.Nat.{◌*◌}
use mathlib.Core.List.{◌++◌}
use lib.ListN.{take, drop}
use Rattle.chudopolk.specs.Rows.{flat}
use Rattle.chudopolk.proofs.rows.put_rows.Given as goal

abbrev pub invariant-loop-i : goal.invariant-loop-i
invariant-loop-i l = l.out ≡ flat (take l.i l.rows) ++ drop (4 * l.i) l.initial.out
