-- `payload::write::write_total` meets its contract, answer by answer.
use Rattle.std.proofs.Common.{length}
use Rattle.std.proofs.lemmas.Result.{err_from_is_err_and}
use Rattle.payload.specs.Writing.{output_is}
use Rattle.payload.proofs.Writing.WriteLaws.{ends_wide, total_is, ends_heavy, ends_room, ends_done}
use Rattle.payload.proofs.write.write_total.Goals as goal

pub returns-in_err-total-clause-answer : goal.returns-in_err-total-clause-answer
returns-in_err-total-clause-answer c =
    let p = err_from_is_err_and c.from_residual.result c.from_residual.ensures.1 in
    let e = ends_wide c.args.fine.now (length c.args.out.now) _ c.in_err-total.ensures.answer in
    rw (p.1, p.2, e)

pub returns-in_err-total-clause-output : goal.returns-in_err-total-clause-output
unfolding output_is
returns-in_err-total-clause-output c =
    let e = ends_wide c.args.fine.now (length c.args.out.now) _ c.in_err-total.ensures.answer in
    rw e

pub returns-then-total-gt-PAYLOAD_MOST-clause-answer : goal.returns-then-total-gt-PAYLOAD_MOST-clause-answer
returns-then-total-gt-PAYLOAD_MOST-clause-answer c =
    let e = ends_heavy c.args.fine.now (length c.args.out.now) _ c.in_ok-total.ensures.answer c.if-total-gt-PAYLOAD_MOST.true in
    rw e

pub returns-then-total-gt-PAYLOAD_MOST-clause-output : goal.returns-then-total-gt-PAYLOAD_MOST-clause-output
unfolding output_is
returns-then-total-gt-PAYLOAD_MOST-clause-output c =
    let e = ends_heavy c.args.fine.now (length c.args.out.now) _ c.in_ok-total.ensures.answer c.if-total-gt-PAYLOAD_MOST.true in
    rw e

pub returns-then-out-total-clause-answer : goal.returns-then-out-total-clause-answer
returns-then-out-total-clause-answer c =
    let e = ends_room c.args.fine.now (length c.args.out.now) _ c.in_ok-total.ensures.answer c.if-total-gt-PAYLOAD_MOST.false
    c.if-out-total.true in
    rw e

pub returns-then-out-total-clause-output : goal.returns-then-out-total-clause-output
unfolding output_is
returns-then-out-total-clause-output c =
    let e = ends_room c.args.fine.now (length c.args.out.now) _ c.in_ok-total.ensures.answer c.if-total-gt-PAYLOAD_MOST.false
    c.if-out-total.true in
    rw e

pub put_rows-requires : goal.put_rows-requires
put_rows-requires c = (
  c.in_ok-total.ensures.holds,
  rw (← total_is c.args.fine.now (length c.args.out.now) _ c.in_ok-total.ensures.answer) c.if-out-total.false,
)

pub returns-clause-answer : goal.returns-clause-answer
returns-clause-answer c =
    let f = c.args.fine.now in
    let e = ends_done f (length c.args.out.now) _ c.in_ok-total.ensures.answer c.if-total-gt-PAYLOAD_MOST.false c.if-out-total.false in
    rw (e, total_is f (length c.args.out.now) _ c.in_ok-total.ensures.answer)

pub returns-clause-output : goal.returns-clause-output
unfolding output_is
returns-clause-output c =
    let e = ends_done c.args.fine.now (length c.args.out.now) _ c.in_ok-total.ensures.answer c.if-total-gt-PAYLOAD_MOST.false
    c.if-out-total.false in
    rw e c.put_rows.ensures
