-- `message::read::length_fails` meets its contract.
use borrow.Author.Tests.{lt-ltb}
use Rattle.message.proofs.HeaderLaws.{length_small, length_past}
use Rattle.message.proofs.read.length_fails.Goals as goal

pub returns-then-length-lt8 : goal.returns-then-length-lt8
returns-then-length-lt8 c = rw (lt-ltb c.args.length 8 c.if-length-lt8.true) (length_small _ _ c.if-length-lt8.true)

pub returns-else-length-lt8 : goal.returns-else-length-lt8
returns-else-length-lt8 c = length_past _ _ c.requires c.if-length-lt8.false
