-- `text::number::of_digits`: the number is that of all digits.
use native.Mathlib.Omega.{arith}
use Rattle.std.proofs.str.Numerals.{all_read}
use Rattle.text.proofs.number.of_digits.Goals as goal

pub returns-clause-value : goal.returns-clause-value
returns-clause-value c =
    let l = c.loop-digit in
    all_read c.args.radix c.args.digits.now c.args.digits.now l.digit-index l.number l.invariant.1 18446744073709551615 c.loop-digit-test.false (grind arith) l.invariant.0
