-- `payload::emit::put_text` meets its contract: its stores, in the order of the code, are those of the content.
use Rattle.payload.proofs.Writing.StoreLaws.{text_store}
use Rattle.payload.proofs.emit.put_text.Goals as goal

pub returns : goal.returns
returns c =
    rw c.put_run.ensures (text_store c.args.out.now c.args.content.now c.args.at c.args.place c.args.len
    c.requires.1)
