-- What each exported function asks of the library's own operations, for every input.
use Rattle.std.specs.Prelude.{ℕ, List}
use Rattle.payload.specs.declared.write.Written.{Written}
use Rattle.payload.specs.Table.{table_fits}
use Rattle.message.specs.declared.read.MessageReading.{MessageReading}
use Rattle.message.specs.Reading.{message_of}
use Rattle.message.specs.Writing.{message_writing, message_output}
use Rattle.chudopolk.specs.declared.table.Form.{Form}
use Rattle.chudopolk.specs.declared.head.Expectation.{Expectation}
use Rattle.chudopolk.specs.declared.head.Fields.{Fields}
use Rattle.chudopolk.specs.Table.{table_of, table_verdict}
use Rattle.chudopolk.specs.Rows.{rows_of}
use Rattle.chudopolk.specs.Head.{expected_of, room_of, header_of}

-- the verdict on the table
abbrev pub check_of : Form → List ℕ → ℕ
check_of form types = table_verdict (table_fits (table_of form types))

-- the reading of the datagram d, into as many rows as the values hold
abbrev pub read_of : List ℕ → Expectation → Form → List ℕ → List ℕ → MessageReading
read_of d x form types values = message_of d (expected_of x) (table_of form types) (room_of values)

-- the writing of the values into an output of so many bytes
abbrev pub write_of : Fields → Form → List ℕ → List ℕ → List ℕ → ℕ → Written
write_of f form types values buf space = message_writing (header_of f) (rows_of values) (room_of values) (table_of form types) buf space

-- the output that it leaves, of what stood there
abbrev pub out_of : Fields → Form → List ℕ → List ℕ → List ℕ → List ℕ → List ℕ
out_of f form types values buf old = message_output (header_of f) (rows_of values) (room_of values) (table_of form types) buf old
