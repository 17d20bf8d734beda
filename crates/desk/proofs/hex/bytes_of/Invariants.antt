-- `desk::hex::bytes_of`: the bytes so far stand before the digit that is read.
use Rattle.std.proofs.Common.{◌≡◌, ◌≤◌, length}
use Rattle.desk.proofs.hex.bytes_of.Given as goal

abbrev pub invariant-loop-i : goal.invariant-loop-i
invariant-loop-i l = (l.len ≤ l.i) × (length l.digits ≡ length l.initial.digits)
