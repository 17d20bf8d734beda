-- Writing a message (document 01, Header and Verdicts): a header before the payload of the value rows.
use Rattle.std.specs.Prelude.{ℕ, ◌+◌, List, ◌++◌, length, ltb}
use Rattle.wire.specs.Choose.{pick}
use Rattle.wire.specs.Header.{header_len}
use Rattle.wire.specs.declared.verdict.Verdict.TheVariants.{Table as NoTable, Room}
use Rattle.payload.specs.declared.table.Table.{Table}
use Rattle.payload.specs.declared.row.Row.{Row}
use Rattle.payload.specs.declared.write.Written.{Written}
use Rattle.payload.specs.Reading.{payload_most}
use Rattle.payload.specs.Writing.{Outcome, refused, done, outcome_of, answer_is, output_is}
use Rattle.message.specs.declared.header.Header.{Header}
use Rattle.message.specs.MessageType.{is_one}
use Rattle.message.specs.Header.{header_bytes}

-- A message is its header, which counts the payload's bytes, and the payload.
unfoldable pub message_bytes : Header → List ℕ → List ℕ
message_bytes h p = header_bytes h (length p) ++ p

-- 2 for the output, which has `space` bytes: it is shorter than the message
unfoldable pub framed : Header → ℕ → Outcome → Outcome
framed h space (refused v) = refused v
framed h space (done p) = pick (ltb space (header_len + length p)) (refused Room) (done (message_bytes h p))

-- 1, for a Message Type handed in that is none of the five or for the table; 2 for value rows, of which `room` are lent; row by row 31 before
-- 30; 32; 33; then 2 for the output. The payload's own outcome, with room for every payload, gives all but the first and the last.
unfoldable pub sending_of : Header → List Row → ℕ → Table → List ℕ → ℕ → Outcome
sending_of h rows room t buf space = pick (is_one h.kind.0) (framed h space (outcome_of rows room t buf payload_most)) (refused NoTable)

-- A write answers its verdict and the message's length, 0 on refusal.
unfoldable pub message_writing : Header → List Row → ℕ → Table → List ℕ → ℕ → Written
message_writing h rows room t buf space = answer_is (sending_of h rows room t buf space)

-- A refused write changes no output byte; an accepted one changes the message's bytes only, from the output's start.
unfoldable pub message_output : Header → List Row → ℕ → Table → List ℕ → List ℕ → List ℕ
message_output h rows room t buf old = output_is old (sending_of h rows room t buf (length old))
