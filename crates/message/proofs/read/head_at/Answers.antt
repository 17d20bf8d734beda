-- `message::read::head_at` meets its contract: each field at its place.
use native.Mathlib.Omega.{arith}
use Rattle.wire.proofs.FieldLaws.{byte_field}
use Rattle.message.specs.Reading.{head_at}
use Rattle.message.proofs.read.head_at.Goals as goal

pub returns : goal.returns
unfolding head_at
returns c = rw (c.two_at.ensures, c.two_at-2.ensures, c.payload_shown.ensures, byte_field 15 c.args.d.now (omega arith))
