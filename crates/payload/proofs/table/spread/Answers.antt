use mathlib.Core.Path.{refl, ◌∙◌}
use native.Mathlib.Omega.{arith}
use lib.ListN.{length-set}
use Rattle.payload.proofs.Rules.Spread.{apart_differ, apart_next, apart_end}
use Rattle.payload.proofs.table.spread.Goals as goal

pub loop-i-preserved : goal.loop-i-preserved
loop-i-preserved c = (
  simp length-set c.loop-i.invariant.0,
  simp length-set c.loop-i.invariant.1,
  c.loop-i.invariant.2
      ∙ apart_next _ _ _ _ _ c.loop-i-test.true (c.requires.each c.loop-i.i c.loop-i-test.true).level_in_lem _ _ _ c.level_in-l.ensures (omega (arith, c.ident_in.ensures)) refl c.if-marks-place.false,
)

pub returns : goal.returns
returns c = λ e. apart_differ _ _ _ _ refl (c.loop-i.invariant.2 ∙ apart_end _ _ _ _ _ c.loop-i-test.false)
