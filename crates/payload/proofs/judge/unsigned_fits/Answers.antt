-- `payload::judge::unsigned_fits` meets its contract, answer by answer.
use native.Mathlib.Omega.{arith}
use Rattle.payload.proofs.Writing.ValueLaws.{unsigned_bool, unsigned_past, unsigned_in}
use Rattle.payload.proofs.judge.unsigned_fits.Goals as goal

pub returns-in-1 : goal.returns-in-1
returns-in-1 c = unsigned_bool _ _ c.in-1.is

pub returns-in-2-to-5 : goal.returns-in-2-to-5
returns-in-2-to-5 c =
    unsigned_in _ _ c.requires.0 (λ e. omega arith) (omega arith) _ c.size_of.ensures.0 _ c.below.ensures

pub returns-in_default-2 : goal.returns-in_default-2
returns-in_default-2 c = unsigned_past _ _ (λ e. omega arith) (omega arith)
