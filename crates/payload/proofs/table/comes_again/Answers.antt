use mathlib.Core.Path.{sym, ap, ◌∙◌}
use native.Mathlib.Omega.{arith}
use native.Mathlib.Numerals.{add-one}
use Rattle.std.specs.Prelude.{is_some}
use Rattle.payload.proofs.Rules.CellLaws.{find_this, find_above, find_next, find_end}
use Rattle.payload.proofs.table.comes_again.Goals as goal

pub returns-then-other-cell : goal.returns-then-other-cell
returns-then-other-cell c =
    let s = c.args.behind.now in
    sym (ap is_some (c.loop-other.invariant ∙ find_this s _ _ _ _ c.loop-other-test.true (omega arith) (omega (arith, c.if-other-cell.true))))

pub returns-then-level_in : goal.returns-then-level_in
returns-then-level_in c =
    let s = c.args.behind.now in
    sym (ap is_some (c.loop-other.invariant ∙ find_above s _ _ _ _ c.loop-other-test.true (omega arith) (omega (arith, c.level_in.ensures, c.level_in-in-loop-other.ensures, c.if-level_in.true))))

pub loop-other-preserved : goal.loop-other-preserved
loop-other-preserved c =
    let s = c.args.behind.now in
    rw (add-one c.loop-other.other-index) (c.loop-other.invariant
    ∙ find_next s _ _ _ _ c.loop-other-test.true (omega arith) (λ z. c.if-other-cell.false (omega (arith, z)))
    (omega (arith, c.level_in.ensures, c.level_in-in-loop-other.ensures, c.if-level_in.false)))

pub returns : goal.returns
returns c =
    let s = c.args.behind.now in
    sym (ap is_some (c.loop-other.invariant ∙ find_end s _ _ _ _ c.loop-other-test.false))
