-- `payload::size::measure` meets its contract. The loop's invariant: the sums, and what each struct holds, are right for the rows from `i` on,
-- and no content of them is too wide.
use Rattle.payload.proofs.Writing.MeasureLaws.{Sizing}
use Rattle.payload.proofs.size.measure.Given as goal

abbrev pub invariant-loop-i : goal.invariant-loop-i
invariant-loop-i l = Sizing l.fine l.held l.sums l.i
