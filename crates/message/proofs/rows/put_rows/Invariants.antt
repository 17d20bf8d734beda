-- `message::rows::put_rows` meets its contract. The loop's invariant: the first `i` rows are stored.
use Rattle.std.proofs.Common.{◌≡◌}
use Rattle.message.specs.Rows.{copied}
use Rattle.message.proofs.rows.put_rows.Given as goal

abbrev pub invariant-loop-i : goal.invariant-loop-i
invariant-loop-i l = l.out ≡ copied l.i l.rows l.initial.out
