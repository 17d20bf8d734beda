-- `archive::add::put_index` meets its contract. The loop's invariant: storing what is left of the index at `to` gives the whole of it, and
-- the records are as they were. The measure is what is left of the records.
use Prim.Native.Nat.{◌-◌}
use Rattle.archive.proofs.IndexLaws.{Indexing}
use Rattle.archive.proofs.add.put_index.Given as goal

abbrev pub invariant-loop-at : goal.invariant-loop-at
invariant-loop-at l = Indexing l.initial.file l.f l.size l.file l.at l.to

abbrev pub decreases-loop-at : goal.decreases-loop-at
decreases-loop-at l = l.size - l.at
