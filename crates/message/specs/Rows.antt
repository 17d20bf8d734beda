-- Lent rows (document 01, Value rows and Verdicts): what a reading leaves in them, and the answer without its rows.
use Rattle.std.specs.Prelude.{ℕ, zero, suc, List, ◌++◌, length, take, drop, set, get_or, replicate, ltb}
use Rattle.wire.specs.Choose.{pick}
use Rattle.payload.specs.declared.row.Row.{Row}
use Rattle.payload.specs.Row.{absent_row}
use Rattle.message.specs.declared.read.MessageReading.{MessageReading}
use Rattle.message.specs.declared.rows.Answered.{Answered}

abbrev pub answered_of : MessageReading → Answered
answered_of m = record { head = m.head; verdict = m.reading.verdict; place = m.reading.place; skipped = m.reading.skipped }

-- The first rows, as many as the reading sets, are the reading's; rows beyond stay as they were.
abbrev pub rows_after : MessageReading → List Row → List Row
rows_after m old = take m.reading.filled m.reading.rows ++ drop m.reading.filled old

-- `old` with the first n rows stored over its own, one by one
abbrev pub copied : ℕ → List Row → List Row → List Row
copied zero rows old = old
copied (suc n) rows old = set (copied n rows old) n (get_or rows n absent_row)

-- ---- rows that are lent to a writing

-- how many lent ones are taken: as many as there are, and 64 at most
abbrev pub taken_of : ℕ → ℕ
taken_of len = pick (ltb len 64) len 64

-- the first 64 lent rows; where fewer are lent, absent rows follow
abbrev pub lent_rows : List Row → List Row
lent_rows lent = copied (taken_of (length lent)) lent (replicate 64 absent_row)
