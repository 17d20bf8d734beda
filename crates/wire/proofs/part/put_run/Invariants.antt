-- `wire::part::put_run` meets its contract. The loop's invariant: the first `i` bytes of the run are stored, and the output is as long as
-- it was.
use mathlib.Core.Path.{◌≡◌}
use lib.ListN.{length}
use lib.Seq.{sets}
use Rattle.wire.specs.Part.{run_of}
use Rattle.wire.proofs.part.put_run.Given as goal

abbrev pub invariant-loop-i : goal.invariant-loop-i
invariant-loop-i l = (l.out ≡ sets l.initial.out l.at (run_of l.from l.place l.i)) × (length l.out ≡ length l.initial.out)
