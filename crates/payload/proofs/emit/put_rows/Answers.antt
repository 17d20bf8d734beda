-- `payload::emit::put_rows` meets its contract, row by row.
use Rattle.std.proofs.Common.{◌<◌, length, ap, ◌∙◌, arith}
use native.Mathlib.Numerals.{add-one}
use lib.Seq.{length-sets}
use Rattle.payload.proofs.Writing.StoreLaws.{row_length, row_store, bytes_end}
use Rattle.payload.proofs.emit.put_rows.Goals as goal

pub put_row-at-requires : goal.put_row-at-requires
put_row-at-requires c =
    let f = c.args.fine.now in
    let t = c.loop-i in
    let h : t.i < f.table.now.count = omega arith in
    (h, omega (arith, t.invariant.long, t.invariant.place, c.requires.1, row_length f t.i h))

pub loop-i-preserved : goal.loop-i-preserved
loop-i-preserved c =
    let f = c.args.fine.now in
    let t = c.loop-i in
    let h : t.i < f.table.now.count = omega arith in
    let e = c.put_row-at.ensures in
    record {
      long = ap length e.output ∙ simp length-sets t.invariant.long;
      place = rw add-one (omega (arith, e.next, t.invariant.place, row_length f t.i h));
      stored = rw (add-one, e.output, e.next) (row_store f t.i h _ (c.requires.0 t.i h) t.out t.at ∙ t.invariant.stored);
    }

pub returns : goal.returns
returns c =
    rw (bytes_end c.args.fine.now c.loop-i.i c.loop-i-test.false) at c.loop-i.invariant.stored
