-- `chudopolk::chudopolk_read_message` meets its contract: the library's own reading, under what the numbers stand for. By what `message`
-- promises there is room for its rows.
use Rattle.chudopolk.proofs.HeadLaws.{rows_in_lem, read_as}
use Rattle.chudopolk.proofs.chudopolk_read_message.Goals as goal

pub put_rows-requires : goal.put_rows-requires
put_rows-requires c = rows_in_lem _ _ _ c.args.values.now _ c.read_by_value-m.ensures

pub returns : goal.returns
returns c =
    let a = c.args in
    let p =
    read_as a.datagram.now a.types.now a.values.now a.expected a.form _ _ c.read_by_value-m.result _ _
    c.from-e.ensures
    c.table_of-t.ensures
    c.read_by_value-m.ensures
    c.put_rows.ensures
    c.from.ensures in
    record { answer = p.0; rows = p.1 }
