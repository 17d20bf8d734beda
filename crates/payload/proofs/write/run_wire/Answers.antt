-- `payload::write::run_wire` meets its contract: each answer is picked by its tests.
use borrow.Author.Tests.{ne_eqb}
use native.Mathlib.Omega.{arith}
use Rattle.payload.specs.Writing.{run_wire}
use Rattle.payload.proofs.write.run_wire.Goals as goal

pub returns-then-fixed : goal.returns-then-fixed
unfolding run_wire
returns-then-fixed c = rw c.if-fixed.true

pub returns-in-1 : goal.returns-in-1
unfolding run_wire
returns-in-1 c = rw (c.if-fixed.false, c.in-1.is)

pub returns-in-2 : goal.returns-in-2
unfolding run_wire
returns-in-2 c = rw (c.if-fixed.false, c.in-2.is)

pub returns-in_default : goal.returns-in_default
unfolding run_wire
returns-in_default c = rw (c.if-fixed.false, ne_eqb c.args.width 1 (λ e. omega arith), ne_eqb c.args.width 2 (λ e. omega arith))
