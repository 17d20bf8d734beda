-- `message::read::message_end` meets its contract.
use native.Mathlib.Omega.{arith}
use mathlib.Core.Path.{sym, ◌∙◌}
use Rattle.wire.specs.Header.{field_at}
use Rattle.message.proofs.HeaderLaws.{length_fine}
use Rattle.message.proofs.ReadLaws.{end_length, end_fits}
use Rattle.message.proofs.read.message_end.Goals as goal

pub returns-then-length_fails-clause-is : goal.returns-then-length_fails-clause-is
unfolding field_at
returns-then-length_fails-clause-is c = end_length _ c.if-d-lt-LEN.false _ c.read_number-length.ensures.0 _ c.length_fails.ensures c.if-length_fails.true

pub returns-clause-is : goal.returns-clause-is
unfolding field_at
returns-clause-is c = end_fits _ c.if-d-lt-LEN.false _ c.read_number-length.ensures.0 _ c.length_fails.ensures c.if-length_fails.false

pub returns-clause-inside : goal.returns-clause-inside
returns-clause-inside c =
    let l = length_fine _ _ (sym c.length_fails.ensures ∙ c.if-length_fails.false) in
    (omega (arith, l.0), omega (arith, l.1))
