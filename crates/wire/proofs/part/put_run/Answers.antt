use native.Mathlib.Omega.{arith}
use lib.ListN.{length-set}
use Rattle.wire.proofs.StoreLaws.{run_store}
use Rattle.wire.proofs.part.put_run.Goals as goal

pub loop-i-preserved : goal.loop-i-preserved
loop-i-preserved c =
    let a = c.args in
    let t = c.loop-i in (
      rw t.invariant.0 (run_store a.out.now a.from.now a.at a.place t.i (omega arith)),
      rw length-set t.invariant.1,
    )
