-- `text::number::of_digits`: the digits before the one that is looked at write the number so far.
use Rattle.std.proofs.Common.{◌≤◌, drop}
use Rattle.std.proofs.str.Numerals.{SoFar}
use Rattle.text.proofs.number.of_digits.Given as goal

abbrev pub invariant-loop-digit : goal.invariant-loop-digit
invariant-loop-digit l = (l.number ≤ 18446744073709551615) × SoFar l.radix l.digits (drop l.digit-index l.digits) l.number
