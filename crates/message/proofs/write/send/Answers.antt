-- `message::write::send` meets its contract, answer by answer.
use Rattle.std.proofs.Common.{sym, ◌∙◌, arith}
use Rattle.std.proofs.lemmas.Result.{err_from_is_err_and}
use Rattle.payload.specs.Writing.{output_is}
use Rattle.message.proofs.SendLaws.{err_outcome, ok_outcome, front_room, sent_kind, sent_refused, left_refused, sent_few, sent_short, left_short, done_result, left_done}
use Rattle.message.proofs.write.send.Goals as goal

pub returns-then-not-is_one-clause-answer : goal.returns-then-not-is_one-clause-answer
returns-then-not-is_one-clause-answer c =
    let a = c.args in
    let e = sent_kind a.h a.rows.now a.room a.t.now a.content.now a.out.now (sym c.is_one.ensures ∙ c.if-not-is_one.true) in
    rw e

pub returns-then-not-is_one-clause-output : goal.returns-then-not-is_one-clause-output
unfolding output_is
returns-then-not-is_one-clause-output c =
    let a = c.args in
    let e = sent_kind a.h a.rows.now a.room a.t.now a.content.now a.out.now (sym c.is_one.ensures ∙ c.if-not-is_one.true) in
    rw e

pub returns-in_err-n-clause-answer : goal.returns-in_err-n-clause-answer
returns-in_err-n-clause-answer c =
    let a = c.args in
    let p = err_from_is_err_and c.from_residual.result c.from_residual.ensures.1 in
    let o = err_outcome _ _ c.in_err-n.ensures.answer in
    let e = sent_refused a.h a.rows.now a.room a.t.now a.content.now a.out.now (sym c.is_one.ensures ∙ c.if-not-is_one.false)
    c.min-from.result c.min-from.ensures _ o in
    rw (p.1, p.2, e)

pub returns-in_err-n-clause-output : goal.returns-in_err-n-clause-output
returns-in_err-n-clause-output c =
    let a = c.args in
    let o = err_outcome _ _ c.in_err-n.ensures.answer in
    left_refused a.h a.rows.now a.room a.t.now a.content.now a.out.now (sym c.is_one.ensures ∙ c.if-not-is_one.false)
    c.min-from.result c.min-from.ensures c.write_rows.new.out _ o c.write_rows.ensures.output

pub returns-then-len-lt-LEN-clause-answer : goal.returns-then-len-lt-LEN-clause-answer
returns-then-len-lt-LEN-clause-answer c =
    let a = c.args in
    let o = ok_outcome _ _ c.in_ok-n.ensures.answer in
    let e = sent_short a.h a.rows.now a.room a.t.now a.content.now a.out.now (sym c.is_one.ensures ∙ c.if-not-is_one.false)
    c.min-from.result c.min-from.ensures o.bytes o.is c.if-len-lt-LEN.true in
    rw e

pub returns-then-len-lt-LEN-clause-output : goal.returns-then-len-lt-LEN-clause-output
returns-then-len-lt-LEN-clause-output c =
    let a = c.args in
    let o = ok_outcome _ _ c.in_ok-n.ensures.answer in
    left_short a.h a.rows.now a.room a.t.now a.content.now a.out.now (sym c.is_one.ensures ∙ c.if-not-is_one.false)
    c.min-from.result c.min-from.ensures o.bytes o.is c.if-len-lt-LEN.true c.write_rows.new.out c.write_rows.ensures.output

pub put_header-requires : goal.put_header-requires
put_header-requires c =
    let a = c.args in
    let o = ok_outcome _ _ c.in_ok-n.ensures.answer in
    let s = c.if-len-lt-LEN.false in (
      front_room c.min-from.result a.out.now _ (omega (arith, c.min-from.ensures)) s,
      rw o.size (sent_few a.h a.rows.now a.room a.t.now a.content.now a.out.now (sym c.is_one.ensures ∙ c.if-not-is_one.false)
          c.min-from.result c.min-from.ensures o.bytes o.is),
    )

pub overflow_add-result : goal.overflow_add-result
overflow_add-result c =
    let a = c.args in
    let o = ok_outcome _ _ c.in_ok-n.ensures.answer in
    omega (
      arith,
      o.size,
      sent_few a.h a.rows.now a.room a.t.now a.content.now a.out.now (sym c.is_one.ensures ∙ c.if-not-is_one.false)
          c.min-from.result c.min-from.ensures o.bytes o.is,
    )

pub returns-clause-answer : goal.returns-clause-answer
returns-clause-answer c =
    let a = c.args in
    let o = ok_outcome _ _ c.in_ok-n.ensures.answer in
    done_result a.h a.rows.now a.room a.t.now a.content.now a.out.now (sym c.is_one.ensures ∙ c.if-not-is_one.false)
    c.min-from.result c.min-from.ensures o.bytes o.is c.if-len-lt-LEN.false c.in_ok-n.n o.size

pub returns-clause-output : goal.returns-clause-output
returns-clause-output c =
    let a = c.args in
    let o = ok_outcome _ _ c.in_ok-n.ensures.answer in
    left_done a.h a.rows.now a.room a.t.now a.content.now a.out.now (sym c.is_one.ensures ∙ c.if-not-is_one.false)
    c.min-from.result c.min-from.ensures o.bytes o.is c.if-len-lt-LEN.false c.write_rows.new.out c.write_rows.ensures.output
    c.in_ok-n.n o.size _ c.put_header.ensures
