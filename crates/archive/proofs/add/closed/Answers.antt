-- `archive::add::closed` meets its contract: return by return, what the tests found is what the definition settles.
use mathlib.Core.Path.{refl, sym, ap, ◌∙◌}
use Rattle.std.specs.Prelude.{Err}
use Rattle.std.proofs.lemmas.Result.{err_from_is_err_and}
use Rattle.archive.specs.declared.verdict.Verdict.TheVariants.{Records}
use Rattle.archive.proofs.ExitLaws.{given}
use native.Mathlib.Omega.{arith}
use Rattle.archive.proofs.AddLaws.{when_refused, when_stores, close_records, close_full_lem, close_stores, index_room, closing_stores, closed_size, closing_few, trailer_room}
use Rattle.archive.proofs.add.closed.Goals as goal

pub returns-in_err-count : goal.returns-in_err-count
returns-in_err-count c =
    let p = err_from_is_err_and c.from_residual.result c.from_residual.ensures.1 in
    let e = c.in_err-count.ensures in
    when_refused _ _ (close_records _ _ (sym e.ok_part ∙ c.walk.ensures)) (p.1 ∙ ap Err (p.2 ∙ given c.walk.result _ Records e.value e.ok_part))

pub returns-then-is_full : goal.returns-then-is_full
returns-then-is_full c =
    when_refused _ _
    (close_full_lem _ _ _ (sym c.in_ok-count.ensures.ok_part ∙ c.walk.ensures)
    (sym c.is_full.ensures ∙ c.if-is_full.true))
    refl

pub put_index-requires : goal.put_index-requires
put_index-requires c =
    index_room _ _ _ (sym c.in_ok-count.ensures.ok_part ∙ c.walk.ensures) (sym c.is_full.ensures ∙ c.if-is_full.false)

pub overflow_mul-to : goal.overflow_mul-to
overflow_mul-to c =
    omega (
      arith,
      closing_few _ _ _ (sym c.in_ok-count.ensures.ok_part ∙ c.walk.ensures) c.entry_size.ensures
          (sym c.is_full.ensures ∙ c.if-is_full.false),
    )

pub overflow_add-to : goal.overflow_add-to
overflow_add-to c =
    omega (
      arith,
      closing_few _ _ _ (sym c.in_ok-count.ensures.ok_part ∙ c.walk.ensures) c.entry_size.ensures
          (sym c.is_full.ensures ∙ c.if-is_full.false),
    )

pub put_trailer-requires : goal.put_trailer-requires
put_trailer-requires c =
    trailer_room _ _ _ (sym c.in_ok-count.ensures.ok_part ∙ c.walk.ensures) c.entry_size.ensures
    (sym c.is_full.ensures ∙ c.if-is_full.false)
    c.put_index.ensures

pub overflow_add-result : goal.overflow_add-result
overflow_add-result c =
    omega (
      arith,
      closing_few _ _ _ (sym c.in_ok-count.ensures.ok_part ∙ c.walk.ensures) c.entry_size.ensures
          (sym c.is_full.ensures ∙ c.if-is_full.false),
    )

pub returns : goal.returns
returns c =
    when_stores _ _
    (close_stores _ _ _ (sym c.in_ok-count.ensures.ok_part ∙ c.walk.ensures)
    (sym c.is_full.ensures ∙ c.if-is_full.false))
    (closed_size _ _ _ (sym c.in_ok-count.ensures.ok_part ∙ c.walk.ensures) c.entry_size.ensures)
    (closing_stores _ _ _ (sym c.in_ok-count.ensures.ok_part ∙ c.walk.ensures) c.entry_size.ensures
    (λ k. (c.slice_known-1.given k).fits)
    c.put_index.ensures
    c.put_trailer.ensures)
