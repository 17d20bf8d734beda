-- `archive::add::added` meets its contract: return by return, what the tests found is what the definition settles.
use native.Mathlib.Omega.{arith}
use borrow.Author.Tests.{not-true, not-false}
use mathlib.Core.Path.{refl, sym, ap, ◌∙◌}
use Rattle.std.specs.Prelude.{Err}
use Rattle.std.proofs.lemmas.Result.{err_from_is_err_and}
use Rattle.archive.specs.declared.verdict.Verdict.TheVariants.{Records}
use Rattle.archive.proofs.ExitLaws.{given}
use Rattle.archive.proofs.AddLaws.{not_full, when_refused, when_stores, add_records, count_few, add_no_message, add_full_lem, add_over, add_stores, added_size}
use Rattle.archive.proofs.add.added.Goals as goal

pub returns-in_err-count : goal.returns-in_err-count
returns-in_err-count c =
    let p = err_from_is_err_and c.from_residual.result c.from_residual.ensures.1 in
    let e = c.in_err-count.ensures in
    when_refused _ _ (add_records _ _ (sym e.ok_part ∙ c.walk.ensures) _) (p.1 ∙ ap Err (p.2 ∙ given c.walk.result _ Records e.value e.ok_part))

pub returns-then-not-is_message : goal.returns-then-not-is_message
returns-then-not-is_message c =
    when_refused _ _
    (add_no_message _ _ _ (sym c.in_ok-count.ensures.ok_part ∙ c.walk.ensures) _
    (sym c.is_message.ensures ∙ not-true _ c.if-not-is_message.true-raw))
    refl

pub returns-then-limit-told : goal.returns-then-limit-told
returns-then-limit-told c =
    when_refused _ _
    (add_over _ _ _ (sym c.in_ok-count.ensures.ok_part ∙ c.walk.ensures) _
    (sym c.is_message.ensures ∙ not-false _ c.if-not-is_message.false-raw)
    (rw c.limit.ensures at c.if-limit-told.true))
    refl

pub overflow_add-count : goal.overflow_add-count
overflow_add-count c =
    let few = count_few _ _ _ (sym c.in_ok-count.ensures.ok_part ∙ c.walk.ensures) in
    omega (arith, c.limit.ensures, c.if-limit-told.false)

pub returns-then-is_full : goal.returns-then-is_full
returns-then-is_full c =
    when_refused _ _
    (add_full_lem _ _ _ (sym c.in_ok-count.ensures.ok_part ∙ c.walk.ensures) _
    (sym c.is_message.ensures ∙ not-false _ c.if-not-is_message.false-raw)
    (sym c.is_full.ensures ∙ c.if-is_full.true))
    refl

pub put_record-requires : goal.put_record-requires
put_record-requires c =
    omega (arith, not_full _ _ _ _ (sym c.is_full.ensures ∙ c.if-is_full.false))

pub returns : goal.returns
returns c =
    when_stores _ _
    (add_stores _ _ _ (sym c.in_ok-count.ensures.ok_part ∙ c.walk.ensures) _
    (sym c.is_message.ensures ∙ not-false _ c.if-not-is_message.false-raw)
    (sym c.is_full.ensures ∙ c.if-is_full.false))
    (added_size _ _)
    c.put_record.ensures
