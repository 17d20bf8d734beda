-- `Written::from` meets its contract. The check would find this alone; it stands here so that a refusal names the function.
use Rattle.payload.proofs.write.WrittenFromResultUsizeVerdict.from.Goals as goal

pub returns-in-Err : goal.returns-in-Err
returns-in-Err c = rw c.in-Err.is
