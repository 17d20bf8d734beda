-- What the reader answers on its way: where a message ends, and what a message answers whose end is known.
use Rattle.std.specs.Prelude.{ℕ, List, length, eqb, ltb, Result, Ok, Err}
use Rattle.std.proofs.Math.Seq.{slice}
use Rattle.wire.specs.Choose.{pick}
use Rattle.wire.specs.Verdict.{verdict_number}
use Rattle.wire.specs.Header.{header_len, length_of, end_of}
use Rattle.wire.specs.declared.verdict.Verdict.{Verdict}
use Rattle.wire.specs.declared.verdict.Verdict.TheVariants.{Short, Length}
use Rattle.payload.specs.declared.table.CheckedTable.{CheckedTable}
use Rattle.payload.specs.declared.read.Reading.{Reading}
use Rattle.payload.specs.Cells.{table_in}
use Rattle.payload.specs.Reading.{cleared, checked_of}
use Rattle.message.specs.declared.read.Expected.{Expected}
use Rattle.message.specs.declared.read.MessageReading.{MessageReading}
use Rattle.message.specs.Reading.{head_at, length_fails, header_verdict}

-- 10 and 11, or where the message ends
abbrev pub end_in : List ℕ → Result ℕ Verdict
end_in d =
    pick (ltb (length d) header_len) (Err Short)
    (pick (length_fails (length_of d) (length d)) (Err Length)
    (Ok (end_of d)))

-- the header's verdict: it is as expected, or why not
abbrev pub header_is : Verdict → Result (Unit {0}) Verdict
header_is v = pick (eqb (verdict_number v) 0) (Ok tt) (Err v)

-- 12 to 16, or what the payload of a message answers that ends at a place
abbrev pub payload_read : List ℕ → Expected → CheckedTable → ℕ → Reading
payload_read d e c end =
    pick (eqb (verdict_number (header_verdict d e)) 0)
    (checked_of (slice header_len end d) (table_in c.count c.cells) c.count c.width)
    (cleared c.count (header_verdict d e) 0)

-- the same with what the header hands on
abbrev pub headed_in : List ℕ → Expected → CheckedTable → ℕ → MessageReading
headed_in d e c end = record { head = head_at d end (payload_read d e c end).verdict; reading = payload_read d e c end }
