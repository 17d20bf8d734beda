-- `wire::number::read_number` meets its contract. The loop's invariant: v is the number of the bytes passed.
use mathlib.Core.Path.{◌≡◌}
use Prim.Native.Nat.{◌+◌}
use lib.Seq.{slice}
use Rattle.wire.specs.Number.{big, number_of}
use Rattle.wire.proofs.number.read_number.Given as goal

abbrev pub invariant-loop-i : goal.invariant-loop-i
invariant-loop-i l = l.v ≡ number_of big (slice l.at (l.at + l.i) l.p)
