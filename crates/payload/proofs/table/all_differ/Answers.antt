use mathlib.Core.Path.{sym, ◌∙◌}
use native.Mathlib.Numerals.{add-one}
use Rattle.payload.proofs.Rules.CellLaws.{differ_stop, differ_next, differ_end}
use Rattle.payload.proofs.table.all_differ.Goals as goal

pub returns-then-comes_again : goal.returns-then-comes_again
returns-then-comes_again c = sym (c.loop-i.invariant ∙ differ_stop _ _ c.loop-i-test.true _ c.comes_again.ensures c.if-comes_again.true)

pub loop-i-preserved : goal.loop-i-preserved
loop-i-preserved c = rw (add-one c.loop-i.i) (c.loop-i.invariant ∙ differ_next _ _ c.loop-i-test.true _ c.comes_again.ensures c.if-comes_again.false)

pub returns : goal.returns
returns c = sym (c.loop-i.invariant ∙ differ_end _ _ c.loop-i-test.false)
