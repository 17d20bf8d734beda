-- `message::rows::read_message` meets its contract: the rows that the reading sets are stored over the first of the lent ones.
use Rattle.std.proofs.Common.{◌≡◌, ◌≤◌, ℕ, List, length, ap, ◌∙◌, arith}
use Rattle.payload.specs.declared.row.Row.{Row}
use Rattle.payload.specs.declared.table.Table.{Table}
use Rattle.message.specs.declared.read.Expected.{Expected}
use Rattle.message.specs.declared.read.MessageReading.{MessageReading}
use Rattle.message.specs.Reading.{message_of}
use Rattle.message.specs.Rows.{copied, answered_of, rows_after}
use Rattle.message.proofs.MessageLaws.{rows_law}
use Rattle.message.proofs.RowLaws.{copied_is}
use Rattle.message.proofs.rows.read_message.Goals as goal

in_room : (d : List ℕ) (e : Expected) (t : Table) (room : ℕ) (m : MessageReading) → m ≡ message_of d e t room
    → (m.reading.filled ≤ room) × (m.reading.filled ≤ 64)
in_room d e t room m h = let l = rows_law d e t room in rw h (l.within_room, l.within_rows)

stored : (d : List ℕ) (e : Expected) (t : Table) (old new : List Row) (m : MessageReading) → m ≡ message_of d e t (length old)
    → new ≡ copied m.reading.filled m.reading.rows old → new ≡ rows_after (message_of d e t (length old)) old
stored d e t old new m h s =
    let l = rows_law d e t (length old) in
    s ∙ rw h (copied_is (message_of d e t (length old)).reading.filled (message_of d e t (length old)).reading.rows old (omega (arith, l.all_rows, l.within_rows)) l.within_room)

pub put_rows-requires : goal.put_rows-requires
put_rows-requires c = in_room c.args.d.now c.args.e c.args.t (length c.args.rows.now) _ c.read_by_value-m.ensures

pub returns : goal.returns
returns c =
    (ap answered_of c.read_by_value-m.ensures, stored c.args.d.now c.args.e c.args.t c.args.rows.now _ _ c.read_by_value-m.ensures c.put_rows.ensures)
