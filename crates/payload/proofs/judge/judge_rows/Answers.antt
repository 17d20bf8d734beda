-- `payload::judge::judge_rows` meets its contract, row by row.
use Rattle.std.proofs.Common.{◌≡◌, suc, ◌≤◌, length, ◌⊎◌, inl, inr, sym, ◌∙◌, arith}
use Rattle.payload.proofs.Writing.JudgeLaws.{judged_start, fine_start, judged_outside, judged_unfit, judged_next, judged_end}
use Rattle.payload.proofs.judge.judge_rows.Goals as goal

pub loop-row-init : goal.loop-row-init
loop-row-init c =
    let t = c.args.table.now in
    let long : t.count ≤ length t.cells = omega arith in
    let z = c.zip-row-items.ensures in
    let a = c.into_iter-row-iterator.ensures.into_iter_gives in
    record {
      decides = rw (a, z.first, c.iter.ensures.rest, z.second.0) (judged_start c.args.content.now t.count t.cells c.args.rows.now long);
      fine = rw (a, z.second.0) (fine_start t.count t.cells t.sound.fine);
    }

pub returns-then-is_outside : goal.returns-then-is_outside
returns-then-is_outside c =
    let s = c.in-Some.ensures.steps in
    let d = rw (s.0, s.1) at c.loop-row.invariant.decides in
    rw (sym d ∙ judged_outside _ _ _ _ _ _ (sym c.is_outside.ensures ∙ c.if-is_outside.true))

pub invariant_of-cell : goal.invariant_of-cell
invariant_of-cell c =
    let s = c.in-Some.ensures.steps in
    let f = rw s.1 at c.loop-row.invariant.fine in
    record { fine = f 0 (omega arith) }

pub row_fine-requires : goal.row_fine-requires
row_fine-requires c = sym c.is_outside.ensures ∙ c.if-is_outside.false

pub returns-then-not-row_fine : goal.returns-then-not-row_fine
returns-then-not-row_fine c =
    let s = c.in-Some.ensures.steps in
    let d = rw (s.0, s.1) at c.loop-row.invariant.decides in
    rw (sym d ∙ judged_unfit _ _ _ _ _ _ (sym c.is_outside.ensures ∙ c.if-is_outside.false) (sym c.row_fine.ensures ∙ c.if-not-row_fine.true))

pub loop-row-preserved : goal.loop-row-preserved
loop-row-preserved c =
    let s = c.in-Some.ensures.steps in
    let d = rw (s.0, s.1) at c.loop-row.invariant.decides in
    let f = rw s.1 at c.loop-row.invariant.fine in
    record {
      decides = rw c.up_after-upto.ensures
          (sym (judged_next _ _ _ _ _ _ (sym c.is_outside.ensures ∙ c.if-is_outside.false) (sym c.row_fine.ensures ∙ c.if-not-row_fine.false)) ∙ d);
      fine = λ k h. f (suc k) (omega arith);
    }

pub returns : goal.returns
returns c =
    let some : (length c.loop-row.row-iterator.a.rest.now ≡ 0) ⊎ (length c.loop-row.row-iterator.b.rest.now ≡ 0)
    = elim c.in-None.ensures.steps [ inl x ↦ inl x.1.0 | inr x ↦ inr x.1.0 ] in
    rw (sym c.loop-row.invariant.decides ∙ judged_end c.args.content.now c.loop-row.upto _ _ some)
