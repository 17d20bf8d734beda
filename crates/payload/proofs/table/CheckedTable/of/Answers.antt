-- `CheckedTable::of` meets its contract: a table that keeps its rules has fine rows, the first of level 1.
use Rattle.payload.proofs.Rules.CheckLaws.{sound}
use Rattle.payload.proofs.table.CheckedTable.of.Goals as goal

pub invariant_of-result : goal.invariant_of-result
invariant_of-result c = record { sound = sound _ _ c.if-not-checked.ensures }
