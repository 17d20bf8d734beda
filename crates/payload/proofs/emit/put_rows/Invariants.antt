-- `payload::emit::put_rows` meets its contract. The loop's invariant: to write what the rows from `i` on have, from `at` on, leaves what
-- writing all rows from the start leaves, and the bytes up to `at` and those to come make all.
use Rattle.std.proofs.Common.{◌≡◌, ◌+◌, length}
use Rattle.std.proofs.lemmas.List.Edits.{sets}
use Rattle.payload.specs.Fine.{bytes_at}
use Rattle.payload.proofs.emit.put_rows.Given as goal

abbrev pub invariant-loop-i : goal.invariant-loop-i
invariant-loop-i l = record {
  long : length l.out ≡ length l.initial.out;
  place : l.at + length (bytes_at l.fine l.i) ≡ length (bytes_at l.fine 0);
  stored : sets l.out l.at (bytes_at l.fine l.i) ≡ sets l.initial.out 0 (bytes_at l.fine 0);
}
