-- `chudopolk::table::taken` meets its contract.
use native.Mathlib.Omega.{arith}
use Rattle.chudopolk.proofs.TableLaws.{taken_many, taken_short, taken_mark, taken_all}
use Rattle.chudopolk.proofs.table.taken.Goals as goal
use Rattle.chudopolk.proofs.table.taken.Goals.{else-form-le64-via-then-form-le64+then-form-len+else-form-le1}
use Rattle.chudopolk.proofs.table.taken.Goals.{else-form-le64-via-then-form-le64+else-form-len, else-form-le64-via-else-form-le64}

pub returns-then-form-le1 : goal.returns-then-form-le1
returns-then-form-le1 c = taken_all _ _ c.if-form-le64.true c.if-form-len.true c.if-form-le1.true

pub returns-else-form-le64 : goal.returns-else-form-le64
returns-else-form-le64 c = elim c.else-form-le64.branch [
  | else-form-le64-via-then-form-le64+then-form-len+else-form-le1 w ↦ taken_mark _ _ (omega arith) (omega arith) (omega arith)
  | else-form-le64-via-then-form-le64+else-form-len w ↦ taken_short _ _ (omega arith) (omega arith)
  | else-form-le64-via-else-form-le64 w ↦ taken_many _ _ (omega arith)
]
