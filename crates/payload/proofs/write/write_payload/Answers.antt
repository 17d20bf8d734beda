-- `payload::write::write_payload` meets its contract: the answer is that of what the writing gives.
use Rattle.std.proofs.Common.{ap, ◌∙◌}
use Rattle.payload.specs.Writing.{written_is, answer_is, writing_of, output_of}
use Rattle.payload.proofs.write.write_payload.Goals as goal

pub returns-clause-answer : goal.returns-clause-answer
unfolding writing_of answer_is
returns-clause-answer c = c.from.ensures ∙ ap written_is c.write_rows.ensures.answer

pub returns-clause-output : goal.returns-clause-output
unfolding output_of
returns-clause-output c = c.write_rows.ensures.output
