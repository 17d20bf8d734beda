use mathlib.Core.Path.{refl, ap, ◌∙◌}
use Prim.Native.Nat.{ℕ}
use native.Mathlib.Omega.{arith}
use Rattle.chudopolk.specs.Table.{type_rows_of}
use Rattle.chudopolk.proofs.TableLaws.{type_rows_of_none, type_rows_of_more}
use Rattle.chudopolk.proofs.table.rows_of.Goals as goal

pub loop-i-init : goal.loop-i-init
loop-i-init c = type_rows_of_none _ _ refl

pub loop-i-preserved : goal.loop-i-preserved
loop-i-preserved c = type_rows_of_more _ _ _ _ c.loop-i.invariant (c.unwrap_or.ensures ∙ c.type_row.ensures)

pub returns : goal.returns
returns c = c.loop-i.invariant ∙ ap (λ (m : ℕ). type_rows_of m c.args.numbers.now) (omega arith)
