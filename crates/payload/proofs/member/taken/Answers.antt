-- `payload::member::taken` meets its contract.
use Rattle.payload.proofs.Walking.ContentLaws.{taken_cut, taken_in}
use Rattle.payload.proofs.member.taken.Goals as goal

pub returns-then-end-from-clause-is : goal.returns-then-end-from-clause-is
returns-then-end-from-clause-is c = λ p l. taken_cut p _ _ l _ c.if-end-from.true

pub returns-clause-is : goal.returns-clause-is
returns-clause-is c = λ p l. taken_in p _ _ l _ c.requires c.if-end-from.false
