-- `payload::size::measure` meets its contract, from the last row to the first.
use Rattle.std.proofs.Common.{◌≡◌, suc, ◌-◌, ◌<◌, length, get_or, ◌∙◌, arith}
use Rattle.payload.specs.Fine.{value_at}
use Rattle.payload.proofs.Writing.FineLaws.{fits_at}
use Rattle.payload.proofs.Writing.SizeLaws.{inside_short}
use Rattle.payload.proofs.Writing.MeasureLaws.{sizing_none, sizing_wide, sizing_next}
use Rattle.payload.proofs.size.measure.Goals as goal

pub loop-i-init : goal.loop-i-init
loop-i-init c = sizing_none c.args.fine.now c.args.held.now c.requires

pub content_len-requires : goal.content_len-requires
content_len-requires c =
    let f = c.args.fine.now in
    let i = c.loop-i.i - 1 in
    let h : i < f.table.now.count = omega arith in
    let short : length f.content.now < 9223372036854775808 = omega arith in (
      rw c.kind-kind.ensures c.cell-cell.result.fine.kind_in_lem,
      inside_short (length f.content.now) (value_at f i).value (fits_at f i h).inside short,
    )

pub returns-then-top-content_len-clause-answer : goal.returns-then-top-content_len-clause-answer
returns-then-top-content_len-clause-answer c =
    let f = c.args.fine.now in
    let t = c.loop-i in
    let i = t.i - 1 in
    let h : i < f.table.now.count = omega arith in
    let e : suc i ≡ t.i = omega arith in
    sizing_wide f t.held t.sums i (rw e t.invariant) h (get_or t.sums c.level-level.result 0)
    (rw (c.level-level.ensures, c.cell-cell.ensures))
    (rw (c.field_top-top.ensures, c.content_len.ensures, c.kind-kind.ensures, c.cell-cell.ensures) at c.if-top-content_len.true)

pub loop-i-preserved : goal.loop-i-preserved
loop-i-preserved c =
    let f = c.args.fine.now in
    let t = c.loop-i in
    let i = t.i - 1 in
    let h : i < f.table.now.count = omega arith in
    let e : suc i ≡ t.i = omega arith in
    sizing_next f t.held t.sums i (rw e t.invariant) h (get_or t.sums c.level-level.result 0)
    (rw (c.level-level.ensures, c.cell-cell.ensures))
    (rw (c.field_top-top.ensures, c.content_len.ensures, c.kind-kind.ensures, c.cell-cell.ensures) at c.if-top-content_len.false)
    c.count_in.new.sums c.count_in.ensures.long
    (λ d q. c.count_in.ensures.each d q ∙ rw
    (c.level-level.ensures, c.head_len.ensures, c.content_len-in-loop-i.ensures, c.kind-kind.ensures, c.cell-cell.ensures))
