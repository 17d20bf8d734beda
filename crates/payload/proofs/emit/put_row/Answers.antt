-- `payload::emit::put_row` meets its contract, value by value.
use Rattle.std.proofs.Common.{◌+◌, length, refl, sym, ap}
use lib.Seq.{sets}
use mir.Facts.{to_z-of_z}
use borrow.Author.Tests.{ltb-false}
use Rattle.wire.specs.Number.{twos_of}
use Rattle.payload.specs.declared.row.Value.TheVariants.{Unsigned, Signed, Bytes}
use Rattle.payload.specs.Cells.{kind_in, row_in}
use Rattle.payload.specs.Writing.{leaf, put_of}
use Rattle.payload.specs.Parts.{piece}
use Rattle.payload.specs.Fine.{cell_at}
use Rattle.payload.proofs.Writing.ValueLaws.{signed_small}
use Rattle.payload.proofs.Writing.SizeLaws.{unsigned_kind, signed_kind, signed_bytes}
use Rattle.payload.proofs.Writing.StoreLaws.{fits_now, number_stored, float_stored, bytes_stored, members_stored}
use Rattle.payload.proofs.emit.put_row.Goals as goal

pub returns-in-Absent-clause-output : goal.returns-in-Absent-clause-output
unfolding put_of piece
returns-in-Absent-clause-output c = rw c.in-Absent.is

pub put_number-requires : goal.put_number-requires
put_number-requires c =
    let f = c.args.fine.now in
    let i = c.args.i in
    let e = c.in-Unsigned.is in
    let k = fits_now f i c.requires.0 (Unsigned c.in-Unsigned.n) e in (
      rw c.cell-cell.ensures (unsigned_kind f.content.now (row_in (cell_at f i)) c.in-Unsigned.n k.fits),
      rw c.cell-cell.ensures (rw e at c.requires.1),
    )

pub returns-in-Unsigned-clause-output : goal.returns-in-Unsigned-clause-output
unfolding put_of
returns-in-Unsigned-clause-output c =
    let f = c.args.fine.now in
    let i = c.args.i in
    let n = c.in-Unsigned.n in
    let k = fits_now f i c.requires.0 (Unsigned n) c.in-Unsigned.is in
    rw (c.put_number.ensures.output, c.cell-cell.ensures)
    (ap (sets c.args.out.now c.args.at) (number_stored f i c.requires.0 (Unsigned n) c.in-Unsigned.is
    (unsigned_kind f.content.now (row_in (cell_at f i)) n k.fits) n refl c.args.held))

pub put_number-requires-in-Signed : goal.put_number-requires-in-Signed
put_number-requires-in-Signed c =
    let f = c.args.fine.now in
    let i = c.args.i in
    let e = c.in-Signed.is in
    let k = fits_now f i c.requires.0 (Signed c.in-Signed.z) e in (
      rw c.cell-cell.ensures (signed_kind f.content.now (row_in (cell_at f i)) c.in-Signed.z k.fits),
      rw c.cell-cell.ensures (rw e at c.requires.1),
    )

pub returns-in-Signed-clause-output : goal.returns-in-Signed-clause-output
unfolding put_of
returns-in-Signed-clause-output c =
    let f = c.args.fine.now in
    let i = c.args.i in
    let z = c.in-Signed.z in
    let k = fits_now f i c.requires.0 (Signed z) c.in-Signed.is in
    let w = to_z-of_z (signed_small (kind_in (cell_at f i)) z k.fits) in
    rw (c.put_number-in-Signed.ensures.output, c.cell-cell.ensures, c.twos_of.ensures, w)
    (ap (sets c.args.out.now c.args.at) (number_stored f i c.requires.0 (Signed z) c.in-Signed.is
    (signed_kind f.content.now (row_in (cell_at f i)) z k.fits) (twos_of 8 z)
    (ap leaf (sym (signed_bytes f.content.now (row_in (cell_at f i)) z k.fits))) c.args.held))

pub put_number-requires-in-Float32 : goal.put_number-requires-in-Float32
put_number-requires-in-Float32 c =
    let k = float_stored c.args.fine.now c.args.i c.requires.0 c.in-Float32.is in (
      rw c.cell-cell.ensures k.kind,
      rw c.cell-cell.ensures (rw k.long at c.requires.1),
    )

pub returns-in-Float32-clause-output : goal.returns-in-Float32-clause-output
returns-in-Float32-clause-output c =
    rw (c.put_number-in-Float32.ensures.output, c.cell-cell.ensures)
    (ap (sets c.args.out.now c.args.at) ((float_stored c.args.fine.now c.args.i c.requires.0 c.in-Float32.is).stored c.args.held))

pub put_bytes-requires : goal.put_bytes-requires
put_bytes-requires c =
    let f = c.args.fine.now in
    let i = c.args.i in
    let e = c.in-Bytes.is in
    let k = fits_now f i c.requires.0 (Bytes c.in-Bytes.place c.in-Bytes.len) e in (
      ltb-false (length f.content.now) (c.in-Bytes.place + c.in-Bytes.len) k.inside,
      rw c.cell-cell.ensures (rw e at c.requires.1),
    )

pub returns-in-Bytes-clause-output : goal.returns-in-Bytes-clause-output
returns-in-Bytes-clause-output c =
    rw (c.put_bytes.ensures.output, c.cell-cell.ensures)
    (ap (sets c.args.out.now c.args.at)
    (bytes_stored c.args.fine.now c.args.i c.requires.0 c.in-Bytes.place c.in-Bytes.len c.in-Bytes.is c.args.held))

pub returns-in-Members-clause-output : goal.returns-in-Members-clause-output
returns-in-Members-clause-output c =
    rw (c.put_field.ensures.output, c.cell-cell.ensures)
    (ap (sets c.args.out.now c.args.at) (members_stored c.args.fine.now c.args.i c.requires.0 c.in-Members.is c.args.held))
