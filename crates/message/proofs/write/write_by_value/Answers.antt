-- `message::write::write_by_value` meets its contract: the answer is that of what the writing gives.
use Rattle.std.proofs.Common.{ap, ◌∙◌}
use Rattle.payload.specs.Writing.{written_is, answer_is}
use Rattle.message.specs.Writing.{message_writing, message_output}
use Rattle.message.proofs.write.write_by_value.Goals as goal

pub returns : goal.returns
unfolding message_writing message_output answer_is
returns c = (c.from.ensures ∙ ap written_is c.send.ensures.answer, c.send.ensures.output)
