-- `payload::read::read_payload` meets its contract: 1 and 2, then what the payload answers.
use mathlib.Core.Path.{refl, sym, ◌∙◌}
use native.Mathlib.Omega.{arith}
use Rattle.payload.proofs.Walking.ReadLaws.{read_no_table, read_no_room, checked_reading}
use Rattle.payload.proofs.read.read_payload.Goals as goal

pub returns-in_default : goal.returns-in_default
returns-in_default c = c.refused.ensures ∙ read_no_table _ _ _ (rw c.in_default.is at c.of-checked.ensures)

pub returns-then-room-table : goal.returns-then-room-table
returns-then-room-table c =
    let h = rw c.in-Some.is at c.of-checked.ensures in
    c.refused-then-room-table.ensures ∙ read_no_room _ _ _ (sym h.2.answer) (omega (arith, h.0, c.if-room-table.true))

pub returns : goal.returns
returns c =
    let h = rw c.in-Some.is at c.of-checked.ensures in
    c.read_checked.ensures ∙ rw (h.0, h.1) (checked_reading _ _ _ _ _ h.2 refl (omega (arith, h.0, c.if-room-table.false)))
