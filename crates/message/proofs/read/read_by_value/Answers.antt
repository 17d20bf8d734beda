-- `message::read::read_by_value` meets its contract: the tests in their order, then the header and the payload.
use mathlib.Core.Path.{sym, ◌∙◌}
use Rattle.message.proofs.ReadLaws.{no_kind, no_table, no_room, no_end, an_end}
use Rattle.message.proofs.read.read_by_value.Goals as goal

pub returns-then-not-is_one : goal.returns-then-not-is_one
returns-then-not-is_one c = c.unheaded.ensures ∙ no_kind _ _ _ _ (sym c.is_one.ensures ∙ c.if-not-is_one.true)

pub returns-in_default : goal.returns-in_default
returns-in_default c =
    c.unheaded-in_default.ensures ∙ no_table _ _ _ _ (sym c.is_one.ensures ∙ c.if-not-is_one.false) (rw c.in_default.is at c.of-checked.ensures)

pub returns-then-room-table : goal.returns-then-room-table
returns-then-room-table c =
    c.unheaded-then-room-table.ensures
    ∙ no_room _ _ _ _ (sym c.is_one.ensures ∙ c.if-not-is_one.false) c.in-Some.table (rw c.in-Some.is at c.of-checked.ensures) c.if-room-table.true

pub returns-in-Err : goal.returns-in-Err
returns-in-Err c =
    c.unheaded-in-Err.ensures
    ∙ no_end _ _ _ _ (sym c.is_one.ensures ∙ c.if-not-is_one.false) c.in-Some.table (rw c.in-Some.is at c.of-checked.ensures) c.if-room-table.false
    _ (sym c.message_end.ensures.is ∙ c.in-Err.is)

pub returns-in-Ok : goal.returns-in-Ok
returns-in-Ok c =
    c.headed.ensures
    ∙ an_end _ _ _ _ (sym c.is_one.ensures ∙ c.if-not-is_one.false) c.in-Some.table (rw c.in-Some.is at c.of-checked.ensures) c.if-room-table.false
    _ (sym c.message_end.ensures.is ∙ c.in-Ok.is)
