-- `archive::records::walk` meets its contract. The loop's invariant: the records up to `at` are `count`, and what is cut from there on decides.
-- The measure is what is left.
use mathlib.Core.Path.{◌≡◌}
use Prim.Native.Nat.{◌-◌, ◌≤◌}
use lib.ListN.{length}
use lib.Seq.{slice}
use Rattle.archive.specs.Records.{cut_all, messages_to}
use Rattle.archive.specs.Walking.{walked_from}
use Rattle.archive.proofs.records.walk.Given as goal

abbrev pub invariant-loop-at : goal.invariant-loop-at
invariant-loop-at l =
    (l.count ≤ l.at)
    × (l.at ≤ l.size)
    × (l.size ≤ length l.file)
    × (walked_from 0 (messages_to l.file l.size) ≡ walked_from l.count (cut_all (l.size - l.count) (slice l.at l.size l.file)))

abbrev pub decreases-loop-at : goal.decreases-loop-at
decreases-loop-at l = l.size - l.at
