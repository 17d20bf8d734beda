-- `chudopolk::rows::put_row` meets its contract: four stores, one behind the other.
use native.Mathlib.Omega.{arith}
use lib.ListN.{length-set}
use Rattle.chudopolk.proofs.RowLaws.{stored_four}
use Rattle.chudopolk.proofs.rows.put_row.Goals as goal

pub bounds-out-at-2 : goal.bounds-out-at-2
bounds-out-at-2 c = simp length-set (omega arith)

pub bounds-out-at-3 : goal.bounds-out-at-3
bounds-out-at-3 c = simp length-set (omega arith)

pub bounds-out-at-4 : goal.bounds-out-at-4
bounds-out-at-4 c = simp length-set (omega arith)

pub returns : goal.returns
returns c = stored_four c.args.out.now c.args.at c.args.n.what c.args.n.number c.args.n.place c.args.n.len
