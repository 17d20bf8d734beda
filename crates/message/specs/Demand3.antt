-- Demand 3 of a message (document 01): two tables, any order. Take any message that the writer makes from one table, and put the members of
-- each level in any order. The reader, holding the other table, rows enough and that header's expectation, shows each of its members as
-- written, byte runs compared by their bytes, and absent where none was written; or it gives Missing, exactly when a member that its table
-- requires is absent at a level that is present. That is the payload's Arrives; here stand the header, and whatever follows the message.
use Rattle.std.specs.Prelude.{◌≡◌, ℕ, ◌≤◌, Bool, List, [], ◌++◌, length, get_or}
use Rattle.wire.specs.Header.{header_len}
use Rattle.wire.specs.Part.{part, part_of}
use Rattle.payload.specs.declared.table.Table.{Table}
use Rattle.payload.specs.declared.row.Row.{Row}
use Rattle.payload.specs.declared.row.Value.TheVariants.{Absent}
use Rattle.payload.specs.Table.{type_rows}
use Rattle.payload.specs.Row.{absent_row}
use Rattle.payload.specs.Tree.{Members, bytes_of}
use Rattle.payload.specs.Writing.{tree_of, done}
use Rattle.payload.specs.Reading.{reading_of}
use Rattle.payload.specs.Demand2.{Handed}
use Rattle.payload.specs.Paths.{path_row}
use Rattle.payload.specs.Demand3.{TwoTables, Reordered, written_at, Arrives}
use Rattle.payload.specs.Demand3Cases.{writer_table, reader_table, written_rows, other_order, other_bytes}
use Rattle.message.specs.declared.header.Header.{Header}
use Rattle.message.specs.declared.read.MessageReading.{MessageReading}
use Rattle.message.specs.Header.{Fitting}
use Rattle.message.specs.Reading.{message_of}
use Rattle.message.specs.Writing.{message_bytes, sending_of}
use Rattle.message.specs.Demand2.{expected_of, header_w}
use Rattle.std.proofs.Math.Option.{some}

-- The writer makes a message from its rows under t, with any room and output, and its members are put in the order m, for a reader under u.
pub record MessageSent (h : Header) (t u : Table) (rows : List Row) (buf : List ℕ) (m : Members) : Type 0 where
  pub room : ℕ
  pub space : ℕ
  pub message : List ℕ
  pub fitting : Fitting h
  pub handed : Handed rows t buf
  pub makes : sending_of h rows room t buf space ≡ done message
  pub two_tables : TwoTables t u
  pub reordered : Reordered (tree_of t buf rows) m

-- the message with its members in the order m
abbrev pub message_of_members : Header → ℕ → Members → List ℕ
message_of_members h width m = message_bytes h (bytes_of width m)

-- The reading `got` of that message with x behind it: the header's fields are as handed in, the parts are the payload and x, and the payload
-- arrives.
pub record MessageArrives (h : Header) (t u : Table) (rows : List Row) (buf : List ℕ) (m : Members) (x : List ℕ) (got : MessageReading) : Type 0 where
  pub client_back : got.head.client.0 ≡ h.client.0
  pub session_back : got.head.session.0 ≡ h.session.0
  pub code_back : got.head.found_code ≡ h.code
  pub payload_at : got.head.payload ≡ part header_len (length (bytes_of t.width m))
  pub rest_is : part_of (message_of_members h t.width m ++ x) got.head.rest ≡ x
  pub arrives : Arrives t u rows buf (bytes_of t.width m) m got.reading

abbrev pub MessageDemand3Holds : Type 0
MessageDemand3Holds =
    (h : Header) (t u : Table) (rows : List Row) (buf : List ℕ) (m : Members) (x : List ℕ) (room : ℕ)
    → MessageSent h t u rows buf m → u.count ≤ room
    → MessageArrives h t u rows buf m x (message_of (message_of_members h t.width m ++ x) (expected_of h) u room)

-- Absent arrives as absent: an optional member that the writer left out is absent in the reader's row, whatever else the message holds.
abbrev pub AbsentArrives : Type 0
AbsentArrives =
    (h : Header) (t u : Table) (rows : List Row) (buf : List ℕ) (m : Members) (x : List ℕ) (room : ℕ)
    → MessageSent h t u rows buf m → u.count ≤ room
    → (path : List ℕ) (j : ℕ) → path_row (type_rows u) 1 0 path ≡ some j → (written_at t rows path).value ≡ Absent
    → get_or (message_of (message_of_members h t.width m ++ x) (expected_of h) u room).reading.rows j absent_row ≡ absent_row

-- ---- not empty

-- The payload's two tables and rows (its Demand3Cases): the writer makes a message of them, and in the other order, whatever follows it, the
-- message is read as that payload: accepted, or refused as Missing where the reader's table requires the string.
pub record MessageDemand3Shown : Type 0 where
  pub sent : (required : Bool) → MessageSent header_w writer_table (reader_table required) written_rows [] other_order
  pub reads : (required : Bool) (x : List ℕ)
      → (message_of (message_of_members header_w writer_table.width other_order ++ x) (expected_of header_w) (reader_table required) 6).reading
      ≡ reading_of other_bytes (reader_table required) 6
