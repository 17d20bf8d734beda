-- `chudopolk::table::type_row` meets its contract: a number that is too large makes it no row.
use native.Mathlib.Omega.{arith}
use Rattle.chudopolk.proofs.TableLaws.{too_wide, narrowed, too_wild, marked, row_wild, row_held}
use Rattle.chudopolk.proofs.table.type_row.Goals as goal

pub returns-in_err-ok : goal.returns-in_err-ok
returns-in_err-ok c =
    let wide = too_wide _ _ _ 256 c.try_from.ensures c.ok.ensures.value c.in_err-ok.was in
    rw c.from_residual.ensures (row_wild _ _ _ _ _ (λ h. wide (omega (arith, h.level_in_lem))))

pub returns-in_err-ok-2 : goal.returns-in_err-ok-2
returns-in_err-ok-2 c =
    let wide = too_wide _ _ _ 65536 c.try_from-2.ensures c.ok-2.ensures.value c.in_err-ok-2.was in
    rw c.from_residual-in_err-ok-2.ensures (row_wild _ _ _ _ _ (λ h. wide (omega (arith, h.ident_in_lem))))

pub returns-in_err-ok-3 : goal.returns-in_err-ok-3
returns-in_err-ok-3 c =
    let wide = too_wide _ _ _ 256 c.try_from-3.ensures c.ok-3.ensures.value c.in_err-ok-3.was in
    rw c.from_residual-in_err-ok-3.ensures (row_wild _ _ _ _ _ (λ h. wide (omega (arith, h.kind_in_lem))))

pub returns-in_err-ok-4 : goal.returns-in_err-ok-4
returns-in_err-ok-4 c =
    let wide = too_wide _ _ _ 256 c.try_from-4.ensures c.ok-4.ensures.value c.in_err-ok-4.was in
    rw c.from_residual-in_err-ok-4.ensures (row_wild _ _ _ _ _ (λ h. wide (omega (arith, h.elem_in_lem))))

pub returns-in_err-mark_of : goal.returns-in_err-mark_of
returns-in_err-mark_of c =
    rw c.from_residual-in_err-mark_of.ensures (row_wild _ _ _ _ _ (λ h. too_wild _ _ c.mark_of.ensures c.in_err-mark_of.was h.mark_in))

pub returns : goal.returns
returns c =
    let level = narrowed _ _ _ 256 _ c.try_from.ensures c.ok.ensures.value c.in_ok-ok.was in
    let ident = narrowed _ _ _ 65536 _ c.try_from-2.ensures c.ok-2.ensures.value c.in_ok-ok-2.was in
    let kind = narrowed _ _ _ 256 _ c.try_from-3.ensures c.ok-3.ensures.value c.in_ok-ok-3.was in
    let elem = narrowed _ _ _ 256 _ c.try_from-4.ensures c.ok-4.ensures.value c.in_ok-ok-4.was in
    let mark = marked _ _ _ c.mark_of.ensures c.in_ok-mark_of.was in
    rw (level.same, ident.same, kind.same, elem.same, mark.1)
    (row_held _ _ _ _ _ (omega (arith, level.below)) (omega (arith, ident.below)) (omega (arith, kind.below)) (omega (arith, elem.below)) mark.0)
