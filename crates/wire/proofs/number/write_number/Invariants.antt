-- `wire::number::write_number` meets its contract. The loop goes from the last byte to the first. Its invariant: the bytes from `i`
-- on are stored, and `u` is what is left of the number.
use mathlib.Core.Path.{◌≡◌}
use Prim.Native.Nat.{◌+◌, ◌-◌, ◌/◌, ◌^◌}
use lib.Seq.{sets}
use Rattle.wire.specs.Number.{big, number_bytes}
use Rattle.wire.proofs.number.write_number.Given as goal

abbrev pub invariant-loop-i : goal.invariant-loop-i
invariant-loop-i l = (l.u ≡ l.v / 256 ^ (l.w - l.i)) × (l.out ≡ sets l.initial.out (l.at + l.i) (number_bytes big (l.w - l.i) l.v))
