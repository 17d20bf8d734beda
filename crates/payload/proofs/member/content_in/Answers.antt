-- `payload::member::content_in` meets its contract.
use mathlib.Core.Path.{◌∙◌}
use Rattle.payload.proofs.Walking.ContentLaws.{fixed_body, field_cut, lengthed_body}
use Rattle.payload.proofs.member.content_in.Goals as goal

pub returns-then-wire-lt4-clause-is : goal.returns-then-wire-lt4-clause-is
returns-then-wire-lt4-clause-is c = c.taken.ensures.is _ c.requires.1 ∙ fixed_body _ _ _ c.requires.1 _ _ c.if-wire-lt4.true _ c.fixed_size.ensures.0

pub returns-then-rest-field-clause-is : goal.returns-then-rest-field-clause-is
returns-then-rest-field-clause-is c = field_cut _ _ _ c.requires.1 _ _ c.if-wire-lt4.false _ c.field_width-field.ensures c.if-rest-field.true

pub returns-clause-is : goal.returns-clause-is
returns-clause-is c =
    c.taken-2.ensures.is _ c.requires.1
    ∙ lengthed_body _ _ _ c.requires.1 _ _ c.if-wire-lt4.false _ c.field_width-field.ensures _ c.read_number-n.ensures.0 c.requires.0 c.if-rest-field.false
