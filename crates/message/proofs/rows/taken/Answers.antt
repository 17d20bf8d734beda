-- `message::rows::taken` meets its contract: the lent rows are stored before the absent ones.
use Rattle.message.proofs.RowLaws.{lent_is}
use Rattle.message.proofs.rows.taken.Goals as goal

pub returns : goal.returns
returns c = lent_is c.args.lent.now c.min-n.result c.min-n.ensures c.copy_from_slice.new.self c.copy_from_slice.ensures.after
