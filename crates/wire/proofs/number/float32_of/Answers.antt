-- `wire::number::float32_of` meets its contract.
use mathlib.Core.Path.{◌∙◌}
use lib.Ieee.{binary32, of_bits, div}
use lib.Ieee.Bits.{nan_bits_above}
use borrow.Author.Tests.{le-ltb, lt-ltb}
use Rattle.wire.proofs.FloatLaws.{bits_nan, bits_read}
use Rattle.wire.proofs.number.float32_of.Goals as goal

pub float_from_bits-result : goal.float_from_bits-result
float_from_bits-result c = bits_read binary32 c.args.bits (nan_bits_above _ _ ∙ le-ltb _ _ c.if-bits-gt2139095040.false)

pub returns-then-bits-gt2139095040 : goal.returns-then-bits-gt2139095040
unfolding div of_bits
returns-then-bits-gt2139095040 c = bits_nan binary32 c.args.bits (nan_bits_above _ _ ∙ lt-ltb _ _ c.if-bits-gt2139095040.true)
