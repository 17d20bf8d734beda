-- `message::read::headed` meets its contract: the header's verdict, or what the payload answers.
use Rattle.message.proofs.ReadLaws.{headed_read, headed_refused}
use Rattle.message.proofs.read.headed.Goals as goal

pub returns-in-Err : goal.returns-in-Err
returns-in-Err c = headed_refused _ _ c.args.table.now _ _ _ _ c.head_at.ensures c.in-Err.ensures c.refused.ensures

pub returns : goal.returns
returns c = headed_read _ _ c.args.table.now _ _ _ c.head_at-2.ensures c.requires.0 _ c.in_default.ensures c.read_checked-reading.ensures
