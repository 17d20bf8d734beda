-- `chudopolk::table::table_of` meets its contract.
use Rattle.chudopolk.proofs.TableLaws.{taken_within, table_is}
use Rattle.chudopolk.proofs.table.table_of.Goals as goal

pub rows_of-requires : goal.rows_of-requires
rows_of-requires c = rw c.taken-n.ensures (taken_within _ _)

pub returns : goal.returns
returns c = table_is _ _ _ _ c.taken-n.ensures c.rows_of.ensures
