use mathlib.Core.Path.{sym, ◌∙◌}
use native.Mathlib.Omega.{arith}
use borrow.Author.Tests.{not-true, not-false}
use Rattle.archive.proofs.AgreeLaws.{going_start, going_end, record_sized, entry_room, going_no, going_on}
use Rattle.archive.proofs.open.index_agrees.Goals as goal

pub loop-at-init : goal.loop-at-init
loop-at-init c = going_start _ _ _ _ c.requires

pub entry_agrees-requires : goal.entry_agrees-requires
entry_agrees-requires c =
    let t = c.loop-at in
    let room = entry_room _ _ _ _ c.requires _ _ t.invariant c.loop-at-test.true in
    let sized = record_sized _ _ _ _ c.requires _ _ t.invariant c.loop-at-test.true in
    (omega arith, omega arith)

pub returns-then-not-entry_agrees : goal.returns-then-not-entry_agrees
returns-then-not-entry_agrees c =
    going_no _ _ _ _ c.requires _ _ c.loop-at.invariant c.loop-at-test.true (λ i. (c.type_inv.file i).fits)
    (sym c.entry_agrees.ensures ∙ not-true _ c.if-not-entry_agrees.true-raw)

pub overflow_add-to : goal.overflow_add-to
overflow_add-to c =
    omega (arith, c.entry_size-to.ensures, entry_room _ _ _ _ c.requires _ _ c.loop-at.invariant c.loop-at-test.true)

pub size_at-at-requires : goal.size_at-at-requires
size_at-at-requires c =
    omega (arith, record_sized _ _ _ _ c.requires _ _ c.loop-at.invariant c.loop-at-test.true)

pub overflow_add-at : goal.overflow_add-at
overflow_add-at c =
    omega (arith, c.size_at-at.ensures, record_sized _ _ _ _ c.requires _ _ c.loop-at.invariant c.loop-at-test.true)

pub loop-at-smaller : goal.loop-at-smaller
loop-at-smaller c =
    omega (arith, c.size_at-at.ensures, record_sized _ _ _ _ c.requires _ _ c.loop-at.invariant c.loop-at-test.true)

pub loop-at-preserved : goal.loop-at-preserved
loop-at-preserved c =
    going_on _ _ _ _ c.requires _ _ c.loop-at.invariant c.loop-at-test.true (λ k. (c.type_inv.file k).fits)
    (sym c.entry_agrees.ensures ∙ not-false _ c.if-not-entry_agrees.false-raw) _ _ c.size_at-at.ensures c.entry_size-to.ensures

pub returns : goal.returns
returns c = going_end _ _ _ _ c.requires _ _ c.loop-at.invariant c.loop-at-test.false
