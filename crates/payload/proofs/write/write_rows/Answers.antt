-- `payload::write::write_rows` meets its contract, answer by answer.
use Rattle.std.proofs.Common.{length, refl, sym, ap, ◌∙◌, arith}
use Rattle.std.proofs.lemmas.Result.{err_from_is_err_and}
use Rattle.payload.specs.Writing.{result_is, output_is}
use Rattle.payload.proofs.Writing.OutcomeLaws.{judging_err, judging_ok, fine_passes, table_refused, table_checked, checked_begins, outcome_table, checked_rows, outcome_checked, width_wires}
use Rattle.payload.proofs.write.write_rows.Goals as goal

pub returns-in_err-table-clause-answer : goal.returns-in_err-table-clause-answer
returns-in_err-table-clause-answer c =
    let a = c.args in
    let e = outcome_table a.rows.now a.room a.t.now a.content.now (length a.out.now)
    (table_refused a.t.now c.of.result c.in_err-table.ensures.ok_part c.of.ensures) in
    let p = err_from_is_err_and c.from_residual.result c.from_residual.ensures.1 in
    let v = rw c.in_err-table.ensures.ok_part at c.in_err-table.ensures.value in
    rw (p.1, p.2, e) (cc)

pub returns-in_err-table-clause-output : goal.returns-in_err-table-clause-output
unfolding output_is
returns-in_err-table-clause-output c =
    let a = c.args in
    let e = outcome_table a.rows.now a.room a.t.now a.content.now (length a.out.now)
    (table_refused a.t.now c.of.result c.in_err-table.ensures.ok_part c.of.ensures) in
    rw e

pub returns-then-room-table-clause-answer : goal.returns-then-room-table-clause-answer
returns-then-room-table-clause-answer c =
    let a = c.args in
    let g = c.in_ok-table.table in
    let e = checked_rows a.rows.now a.room a.t.now a.content.now (length a.out.now) g
    (table_checked a.t.now c.of.result g c.in_ok-table.ensures.ok_part c.of.ensures) c.if-room-table.true in
    rw e

pub returns-then-room-table-clause-output : goal.returns-then-room-table-clause-output
unfolding output_is
returns-then-room-table-clause-output c =
    let a = c.args in
    let g = c.in_ok-table.table in
    let e = checked_rows a.rows.now a.room a.t.now a.content.now (length a.out.now) g
    (table_checked a.t.now c.of.result g c.in_ok-table.ensures.ok_part c.of.ensures) c.if-room-table.true in
    rw e

pub returns-in_err-judge_rows-clause-answer : goal.returns-in_err-judge_rows-clause-answer
returns-in_err-judge_rows-clause-answer c =
    let a = c.args in
    let g = c.in_ok-table.table in
    let e = outcome_checked a.rows.now a.room a.t.now a.content.now (length a.out.now) g
    (table_checked a.t.now c.of.result g c.in_ok-table.ensures.ok_part c.of.ensures) c.if-room-table.false _ refl in
    let j = judging_err _ _ _ c.in_err-judge_rows.ensures in
    let p = err_from_is_err_and c.from_residual-in_err-judge_rows.result c.from_residual-in_err-judge_rows.ensures.1 in
    rw (p.1, p.2) (sym (ap result_is (e ∙ j)))

pub returns-in_err-judge_rows-clause-output : goal.returns-in_err-judge_rows-clause-output
unfolding output_is
returns-in_err-judge_rows-clause-output c =
    let a = c.args in
    let g = c.in_ok-table.table in
    let e = outcome_checked a.rows.now a.room a.t.now a.content.now (length a.out.now) g
    (table_checked a.t.now c.of.result g c.in_ok-table.ensures.ok_part c.of.ensures) c.if-room-table.false _ refl in
    let j = judging_err _ _ _ c.in_err-judge_rows.ensures in
    sym (ap (output_is a.out.now) (e ∙ j))

pub invariant_of-fine : goal.invariant_of-fine
invariant_of-fine c =
    let t = c.args.t.now in
    let g = c.in_ok-table.table in
    let b = checked_begins t g (table_checked t c.of.result g c.in_ok-table.ensures.ok_part c.of.ensures) in
    record {
      some = b.some;
      first = b.first;
      wires = rw c.run_wire-wire.ensures (width_wires g.width t.fixed b.width_is);
      lent = omega arith;
      fine = judging_ok _ _ c.in_ok-judge_rows.ensures;
    }

pub returns-clause-answer : goal.returns-clause-answer
returns-clause-answer c =
    let a = c.args in
    let g = c.in_ok-table.table in
    let e = outcome_checked a.rows.now a.room a.t.now a.content.now (length a.out.now) g
    (table_checked a.t.now c.of.result g c.in_ok-table.ensures.ok_part c.of.ensures) c.if-room-table.false _ c.run_wire-wire.ensures in
    let j = fine_passes _ _ (judging_ok _ _ c.in_ok-judge_rows.ensures) in
    c.write_total.ensures.answer ∙ sym (ap result_is (e ∙ j))

pub returns-clause-output : goal.returns-clause-output
returns-clause-output c =
    let a = c.args in
    let g = c.in_ok-table.table in
    let e = outcome_checked a.rows.now a.room a.t.now a.content.now (length a.out.now) g
    (table_checked a.t.now c.of.result g c.in_ok-table.ensures.ok_part c.of.ensures) c.if-room-table.false _ c.run_wire-wire.ensures in
    let j = fine_passes _ _ (judging_ok _ _ c.in_ok-judge_rows.ensures) in
    c.write_total.ensures.output ∙ sym (ap (output_is a.out.now) (e ∙ j))
