-- `payload::emit::put_field` meets its contract: its stores, in the order of the code, are those of tag and length field.
use Rattle.wire.specs.Number.{big, number_bytes}
use Rattle.wire.specs.Tag.{tag_of}
use Rattle.wire.proofs.NumberLaws.{length_number_bytes}
use Rattle.wire.proofs.StoreLaws.{two_stores}
use Rattle.payload.specs.Cells.{ident_in}
use Rattle.payload.proofs.emit.put_field.Goals as goal

pub returns-clause-output : goal.returns-clause-output
returns-clause-output c =
    let a = c.args in
    let tag = tag_of 0 a.fine.now.wire (ident_in a.cell.bits) in
    rw (c.write_number-2.ensures, c.write_number.ensures, c.tag_of.ensures.0, c.ident.ensures)
    (two_stores a.out.now (number_bytes big 2 tag) (number_bytes big a.fine.now.table.now.width a.len) a.at 2 (length_number_bytes 2 tag))
