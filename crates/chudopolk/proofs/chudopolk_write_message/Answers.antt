-- `chudopolk::chudopolk_write_message` meets its contract: the library's own writing of what the numbers stand for.
use Rattle.chudopolk.proofs.HeadLaws.{write_as}
use Rattle.chudopolk.proofs.chudopolk_write_message.Goals as goal

pub returns : goal.returns
returns c =
    let a = c.args in
    let p =
    write_as a.types.now a.values.now a.content.now a.out.now a.header a.form _ _ _ c.write_by_value-w.result _ _
    c.from-h.ensures
    c.rows_of-all.ensures
    c.table_of-t.ensures
    c.write_by_value-w.ensures
    c.from.ensures in
    record { answer = p.0; output = p.1 }
