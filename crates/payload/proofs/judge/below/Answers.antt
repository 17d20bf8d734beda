-- `payload::judge::below` meets its contract: shifting the other bytes away leaves the first.
use Prim.Native.Nat.{◌-◌}
use Rattle.payload.proofs.Writing.ValueLaws.{first_below}
use Rattle.payload.proofs.judge.below.Goals as goal

pub returns : goal.returns
returns c = first_below c.args.num (c.args.size - 1) c.args.top
