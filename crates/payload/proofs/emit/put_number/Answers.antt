-- `payload::emit::put_number` meets its contract: its stores, in the order of the code, are those of tag and number.
use Rattle.wire.specs.Number.{big, number_bytes}
use Rattle.wire.specs.Tag.{tag_of}
use Rattle.wire.specs.Kind.{kind_at, size_of}
use Rattle.wire.proofs.NumberLaws.{length_number_bytes}
use Rattle.wire.proofs.StoreLaws.{two_stores}
use Rattle.payload.specs.Cells.{kind_in, ident_in}
use Rattle.payload.proofs.emit.put_number.Goals as goal

pub returns-clause-output : goal.returns-clause-output
returns-clause-output c =
    let a = c.args in
    let tag = tag_of 0 (kind_at (kind_in a.cell.bits)).wire (ident_in a.cell.bits) in
    rw (c.write_number-2.ensures, c.write_number.ensures, c.tag_of.ensures.0, c.ident.ensures, c.from-wire.ensures, c.kind_at.ensures, c.size_of-size.ensures.0, c.kind-kind.ensures)
    (two_stores a.out.now (number_bytes big 2 tag) (number_bytes big (size_of (kind_in a.cell.bits)) a.num) a.at 2 (length_number_bytes 2 tag))
