-- `archive::open::index_agrees` meets its contract. The loop's invariant: the entries passed are those of the records passed.
-- The measure is the bytes of the records left.
use Prim.Native.Nat.{◌-◌}
use Rattle.archive.proofs.AgreeLaws.{Going}
use Rattle.archive.proofs.open.index_agrees.Given as goal

abbrev pub invariant-loop-at : goal.invariant-loop-at
invariant-loop-at l = Going l.file l.f l.size l.end l.at l.to

abbrev pub decreases-loop-at : goal.decreases-loop-at
decreases-loop-at l = l.size - l.at
