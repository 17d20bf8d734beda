-- `chudopolk::head::AnswerFromMessageReading::from` meets its contract.
use Rattle.chudopolk.specs.Head.{answer_is}
use Rattle.chudopolk.proofs.head.AnswerFromMessageReading.from.Goals as goal

pub returns : goal.returns
unfolding answer_is
returns c = simp (c.number.ensures, c.code_number.ensures, c.return_code.ensures, c.from.ensures)
