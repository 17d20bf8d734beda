-- `wire::number::float64_of` meets its contract.
use mathlib.Core.Path.{◌∙◌}
use lib.Ieee.{binary64, of_bits, div}
use lib.Ieee.Bits.{nan_bits_above}
use borrow.Author.Tests.{le-ltb, lt-ltb}
use Rattle.wire.proofs.FloatLaws.{bits_nan, bits_read}
use Rattle.wire.proofs.number.float64_of.Goals as goal

pub float_from_bits-result : goal.float_from_bits-result
float_from_bits-result c = bits_read binary64 c.args.bits (nan_bits_above _ _ ∙ le-ltb _ _ c.if-bits-gt9218868437227405312.false)

pub returns-then-bits-gt9218868437227405312 : goal.returns-then-bits-gt9218868437227405312
unfolding div of_bits
returns-then-bits-gt9218868437227405312 c = bits_nan binary64 c.args.bits (nan_bits_above _ _ ∙ lt-ltb _ _ c.if-bits-gt9218868437227405312.true)
