-- `payload::read::read_checked` meets its contract: 17, then the walk.
use mathlib.Core.Path.{refl, ◌∙◌}
use Rattle.payload.proofs.Walking.ReadLaws.{read_large, read_refused, read_accepted}
use Rattle.payload.proofs.read.read_checked.Goals as goal

pub returns-then-p-gt-PAYLOAD_MOST : goal.returns-then-p-gt-PAYLOAD_MOST
returns-then-p-gt-PAYLOAD_MOST c = c.refused.ensures ∙ read_large _ _ _ _ c.if-p-gt-PAYLOAD_MOST.true

pub returns-in-Err : goal.returns-in-Err
returns-in-Err c = c.refused-in-Err.ensures ∙ read_refused _ refl refl _ _ c.read_level.ensures c.if-p-gt-PAYLOAD_MOST.false _ c.in-Err.is

pub returns : goal.returns
returns c = read_accepted _ refl refl _ _ c.read_level.ensures c.if-p-gt-PAYLOAD_MOST.false c.in_default.not-Err
