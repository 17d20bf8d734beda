-- What this crate promises, a statement under each sentence. The proofs cite them in proofs/Promises.antt, in the same order.
use Rattle.std.specs.Prelude.{◌≡◌, ℕ, ◌+◌, ◌*◌, ◌-◌, ◌^◌, ◌≤◌, ◌<◌, Bool, true, false, ◌⊎◌, List, ◌++◌, length, take, drop, get_or, replicate}
use Rattle.wire.specs.Choose.{pick}
use Rattle.wire.specs.Verdict.{verdict_number}
use Rattle.wire.specs.Header.{
  header_len,
  protocol_version,
  service_of,
  method_of,
  length_of,
  client_of,
  session_of,
  version_of,
  interface_of,
  type_of,
  code_of,
  end_of,
}
use Rattle.wire.specs.Part.{part, no_part, part_of}
use Rattle.wire.specs.declared.verdict.Verdict.{Verdict}
use Rattle.wire.specs.declared.verdict.Verdict.TheVariants.{
  Accepted,
  Table as NoTable,
  Room,
  Short,
  Length,
  Protocol,
  Service,
  Interface,
  Method,
  MessageType,
  Large,
  TagCut,
  Wire,
  Twice,
  FieldCut,
  Overrun,
  Array,
  Text,
  Missing,
  Value,
  Outside,
  Wide,
  Heavy,
}
use Rattle.wire.specs.declared.part.Part.{Part}
use Rattle.payload.specs.declared.row.Row.{Row}
use Rattle.payload.specs.declared.table.Table.{Table}
use Rattle.payload.specs.Table.{in_range, table_fits}
use Rattle.payload.specs.Row.{absent_row}
use Rattle.payload.specs.Reading.{payload_most, reading_of}
use Rattle.payload.specs.Outcome.{changes_none}
use Rattle.payload.specs.declared.write.Written.{Written}
use Rattle.message.specs.declared.header.Header.{Header}
use Rattle.message.specs.declared.read.Expected.{Expected}
use Rattle.message.specs.declared.read.MessageReading.{MessageReading}
use Rattle.message.specs.declared.rows.Answered.{Answered}
use Rattle.message.specs.MessageType.{request, request_no_return, notification, response, error, is_one}
use Rattle.message.specs.Header.{header_bytes, Fitting}
use Rattle.message.specs.Reading.{payload_of, message_of}
use Rattle.message.specs.Rows.{answered_of, rows_after, lent_rows}
use Rattle.message.specs.Writing.{message_writing, message_output}

abbrev pub Exactly : Type 0 → Type 0 → Type 0
Exactly a b = (a → b) × (b → a)

-- ---- Message Types

-- M1. A number passes the membership test of Message Types exactly when it is one of the five.
abbrev pub OneOfFive : Type 0
OneOfFive = (x : ℕ) → Exactly (is_one x ≡ true) ((x ≡ request) ⊎ (x ≡ request_no_return) ⊎ (x ≡ notification) ⊎ (x ≡ response) ⊎ (x ≡ error))

-- ---- the header, by byte number

abbrev byte : List ℕ → ℕ → ℕ
byte d i = get_or d i 0

pub record FieldLaw (d : List ℕ) : Type 0 where
  pub service_is : service_of d ≡ byte d 0 * 256 + byte d 1
  pub method_is : method_of d ≡ byte d 2 * 256 + byte d 3
  pub length_is : length_of d ≡ ((byte d 4 * 256 + byte d 5) * 256 + byte d 6) * 256 + byte d 7
  pub client_is : client_of d ≡ byte d 8 * 256 + byte d 9
  pub session_is : session_of d ≡ byte d 10 * 256 + byte d 11
  pub version_is : version_of d ≡ byte d 12
  pub interface_is : interface_of d ≡ byte d 13
  pub type_is : type_of d ≡ byte d 14
  pub code_is : code_of d ≡ byte d 15

-- M2. Each field of a header is the number of its bytes.
abbrev pub FieldsByByte : Type 0
FieldsByByte = (d : List ℕ) → header_len ≤ length d → FieldLaw d

pub record HeaderLaw (h : Header) (n : ℕ) : Type 0 where
  pub size : length (header_bytes h n) ≡ header_len
  pub service_back : (x : List ℕ) → service_of (header_bytes h n ++ x) ≡ h.service.0
  pub method_back : (x : List ℕ) → method_of (header_bytes h n ++ x) ≡ h.method.0
  pub length_back : (x : List ℕ) → length_of (header_bytes h n ++ x) ≡ 8 + n
  pub client_back : (x : List ℕ) → client_of (header_bytes h n ++ x) ≡ h.client.0
  pub session_back : (x : List ℕ) → session_of (header_bytes h n ++ x) ≡ h.session.0
  pub version_back : (x : List ℕ) → version_of (header_bytes h n ++ x) ≡ protocol_version
  pub interface_back : (x : List ℕ) → interface_of (header_bytes h n ++ x) ≡ h.interface
  pub type_back : (x : List ℕ) → type_of (header_bytes h n ++ x) ≡ h.kind.0
  pub code_back : (x : List ℕ) → code_of (header_bytes h n ++ x) ≡ h.code

-- M3. A header's bytes are 16, and each field is found at its place, whatever follows.
abbrev pub HeaderReadBack : Type 0
HeaderReadBack = (h : Header) (n : ℕ) → Fitting h → 8 + n < 256 ^ 4 → HeaderLaw h n

-- ---- the verdicts

-- neither 1 nor 2
pub record Asked (e : Expected) (t : Table) (room : ℕ) : Type 0 where
  pub kind_one : is_one e.kind.0 ≡ true
  pub table_fits_lem : table_fits t ≡ true
  pub room_fits : t.count ≤ room

-- neither 10 nor 11: a header stands there, its Length counts at least itself, and the message ends in the datagram
pub record Whole (d : List ℕ) : Type 0 where
  pub header_in_lem : header_len ≤ length d
  pub length_least : 8 ≤ length_of d
  pub end_in : end_of d ≤ length d

-- none of 12 to 16
pub record Matches (d : List ℕ) (e : Expected) : Type 0 where
  pub version_is : version_of d ≡ protocol_version
  pub service_is : service_of d ≡ e.service.0
  pub interface_is : interface_of d ≡ e.interface
  pub method_is : method_of d ≡ e.method.0
  pub type_is : type_of d ≡ e.kind.0

-- when each verdict is given: the paper's table, in the reading order
module _ (d : List ℕ) (e : Expected) (t : Table) (room : ℕ) where
  -- nothing stands against the message, and the payload's reading has a verdict
  abbrev ByPayload : Verdict → Type 0
  ByPayload v = Asked e t room × Whole d × Matches d e × ((reading_of (payload_of d) t room).verdict ≡ v)

  abbrev pub GivenWhen : Verdict → Type 0
  GivenWhen NoTable = (is_one e.kind.0 ≡ false) ⊎ (table_fits t ≡ false)
  GivenWhen Room = (is_one e.kind.0 ≡ true) × (table_fits t ≡ true) × (room < t.count)
  GivenWhen Short = Asked e t room × (length d < header_len)
  GivenWhen Length = Asked e t room × (header_len ≤ length d) × ((length_of d < 8) ⊎ (length d < 8 + length_of d))
  GivenWhen Protocol = Asked e t room × Whole d × (version_of d ≡ protocol_version → ⊥)
  GivenWhen Service = Asked e t room × Whole d × (version_of d ≡ protocol_version) × (service_of d ≡ e.service.0 → ⊥)
  GivenWhen Interface =
      Asked e t room × Whole d × (version_of d ≡ protocol_version) × (service_of d ≡ e.service.0) × (interface_of d ≡ e.interface → ⊥)
  GivenWhen Method =
      Asked e t room × Whole d × (version_of d ≡ protocol_version) × (service_of d ≡ e.service.0) × (interface_of d ≡ e.interface)
      × (method_of d ≡ e.method.0 → ⊥)
  GivenWhen MessageType =
      Asked e t room × Whole d × (version_of d ≡ protocol_version) × (service_of d ≡ e.service.0) × (interface_of d ≡ e.interface)
      × (method_of d ≡ e.method.0) × (type_of d ≡ e.kind.0 → ⊥)
  GivenWhen Large = Asked e t room × Whole d × Matches d e × (payload_most < length_of d - 8)
  GivenWhen Accepted = ByPayload Accepted
  GivenWhen TagCut = ByPayload TagCut
  GivenWhen Wire = ByPayload Wire
  GivenWhen Twice = ByPayload Twice
  GivenWhen FieldCut = ByPayload FieldCut
  GivenWhen Overrun = ByPayload Overrun
  GivenWhen Array = ByPayload Array
  GivenWhen Text = ByPayload Text
  GivenWhen Missing = ByPayload Missing
  GivenWhen Value = ⊥
  GivenWhen Outside = ⊥
  GivenWhen Wide = ⊥
  GivenWhen Heavy = ⊥

-- M4. Each verdict is given exactly when the table says so.
abbrev pub VerdictsExactly : Type 0
VerdictsExactly = (d : List ℕ) (e : Expected) (t : Table) (room : ℕ) (v : Verdict)
    → Exactly ((message_of d e t room).reading.verdict ≡ v) (GivenWhen d e t room v)

-- ---- what is handed on, and the parts

-- the verdicts 1, 2, 10 and 11
abbrev pub early : Verdict → Bool
early v = in_range 1 11 (verdict_number v)

module _ (d : List ℕ) (r : MessageReading) where
  pub record HandedOn : Type 0 where
    pub client_on : r.head.client.0 ≡ pick (early r.reading.verdict) 0 (client_of d)
    pub session_on : r.head.session.0 ≡ pick (early r.reading.verdict) 0 (session_of d)
    pub code_on : r.head.found_code ≡ pick (early r.reading.verdict) 0 (code_of d)

  pub record PartsLaw : Type 0 where
    pub none_given : early r.reading.verdict ≡ true → (r.head.payload ≡ no_part) × (r.head.rest ≡ no_part)
    pub rest_given : early r.reading.verdict ≡ false → part_of d r.head.rest ≡ drop (end_of d) d
    pub payload_none : in_range 12 17 (verdict_number r.reading.verdict) ≡ true → r.head.payload ≡ no_part
    pub both_given : in_range 1 17 (verdict_number r.reading.verdict) ≡ false
        → (r.head.payload ≡ part header_len (length_of d - 8)) × (part_of d r.head.payload ≡ payload_of d)
    pub whole_datagram : in_range 1 17 (verdict_number r.reading.verdict) ≡ false
        → d ≡ take header_len d ++ (part_of d r.head.payload ++ part_of d r.head.rest)

-- M5. Client ID, Session ID and Return Code are handed on as found, all 0 after 1, 2, 10 and 11.
abbrev pub HandsOn : Type 0
HandsOn = (d : List ℕ) (e : Expected) (t : Table) (room : ℕ) → HandedOn d (message_of d e t room)

-- M6. After 1, 2, 10 and 11 both parts are empty; after 12 to 17 the payload part is, and the part after the message is given; after 0 and 20
-- to 27 both are given, and the datagram is header, payload and the part after the message.
abbrev pub GivesParts : Type 0
GivesParts = (d : List ℕ) (e : Expected) (t : Table) (room : ℕ) → PartsLaw d (message_of d e t room)

-- ---- the rows and the place

pub record RowsLaw (t : Table) (room : ℕ) (r : MessageReading) : Type 0 where
  pub set_rows : r.reading.filled ≡ pick (changes_none r.reading.verdict) 0 t.count
  pub refused_rows : (r.reading.verdict ≡ Accepted → ⊥) → (r.reading.skipped ≡ 0) × (r.reading.rows ≡ replicate 64 absent_row)
  pub placed : in_range 20 27 (verdict_number r.reading.verdict) ≡ false → r.reading.place ≡ 0
  pub all_rows : length r.reading.rows ≡ 64
  pub within_room : r.reading.filled ≤ room
  pub within_rows : r.reading.filled ≤ 64

-- M7. As many rows are set as the table has, and none after 1 and 2; a refusal counts nothing and its rows are absent; only 20 to 27 have a
-- place other than 0; there are 64 rows, and no more are set than are lent.
abbrev pub SetsRows : Type 0
SetsRows = (d : List ℕ) (e : Expected) (t : Table) (room : ℕ) → RowsLaw t room (message_of d e t room)

-- ---- what does not matter

-- an answer but for the bytes after the message
abbrev pub but_rest : MessageReading → MessageReading
but_rest r =
    record {
      head =
          record {
            client = r.head.client;
            session = r.head.session;
            found_code = r.head.found_code;
            payload = r.head.payload;
            rest = part r.head.rest.at 0;
          };
      reading = r.reading;
    }

-- M8. Bytes behind a message change nothing but the length of the part after it.
abbrev pub TailIgnored : Type 0
TailIgnored =
    (m : List ℕ) → header_len ≤ length m → length m ≡ end_of m
    → (x y : List ℕ) (e : Expected) (t : Table) (room : ℕ) → but_rest (message_of (m ++ x) e t room) ≡ but_rest (message_of (m ++ y) e t room)

-- M9. Any two answers that meet the reader's contract are equal.
abbrev pub OneAnswer : Type 0
OneAnswer =
    (d : List ℕ) (e : Expected) (t : Table) (room : ℕ) (r s : MessageReading) → r ≡ message_of d e t room → s ≡ message_of d e t room → r ≡ s

-- ---- lent rows

-- the reading into lent rows, where `old` is what stood in them
abbrev into : List ℕ → Expected → Table → List Row → MessageReading
into d e t old = message_of d e t (length old)

pub record LentLaw (d : List ℕ) (e : Expected) (t : Table) (old : List Row) : Type 0 where
  pub as_many : length (rows_after (into d e t old) old) ≡ length old
  pub none_changed : changes_none (into d e t old).reading.verdict ≡ true → rows_after (into d e t old) old ≡ old
  pub first_read : changes_none (into d e t old).reading.verdict ≡ false → (i : ℕ) → i < t.count
      → get_or (rows_after (into d e t old) old) i absent_row ≡ get_or (into d e t old).reading.rows i absent_row
  pub first_absent : changes_none (into d e t old).reading.verdict ≡ false → ((into d e t old).reading.verdict ≡ Accepted → ⊥) → (i : ℕ) → i < t.count
      → get_or (rows_after (into d e t old) old) i absent_row ≡ absent_row
  pub beyond_stay : (i : ℕ) → t.count ≤ i → get_or (rows_after (into d e t old) old) i absent_row ≡ get_or old i absent_row

-- M10. 1 and 2 change no lent row. After every other verdict the first rows, as many as the table has, are the reading's, absent on refusal;
-- rows beyond stay as they were, and there are as many as before.
abbrev pub ChangesRows : Type 0
ChangesRows = (d : List ℕ) (e : Expected) (t : Table) (old : List Row) → LentLaw d e t old

-- M11. What stood in the lent rows before never matters, neither for the answer nor for the rows that are set.
abbrev pub OldRowsIgnored : Type 0
OldRowsIgnored =
    (d : List ℕ) (e : Expected) (t : Table) (old other : List Row) → length old ≡ length other
    → (answered_of (into d e t old) ≡ answered_of (into d e t other))
    × (changes_none (into d e t old).reading.verdict ≡ false → (i : ℕ) → i < t.count
    → get_or (rows_after (into d e t old) old) i absent_row ≡ get_or (rows_after (into d e t other) other) i absent_row)

-- M12. Any two answers, with the rows after, that meet the contract of the reader into lent rows are equal.
abbrev pub OneLent : Type 0
OneLent =
    (d : List ℕ) (e : Expected) (t : Table) (old : List Row) (r s : Answered) (rows others : List Row)
    → (r ≡ answered_of (into d e t old)) × (rows ≡ rows_after (into d e t old) old)
    → (s ≡ answered_of (into d e t old)) × (others ≡ rows_after (into d e t old) old)
    → (r ≡ s) × (rows ≡ others)

-- ---- writing

-- M13. A message is written exactly when every test is met; the output is then header and payload, each field at its place by byte number, and
-- behind them the old bytes; a refused writing changes nothing; any two answers are equal: SentSettled and OneSending, in specs/Sent.antt.

-- M14. When a writing has each verdict, in the paper's order: SentVerdicts, in specs/SentWhen.antt.

-- M15. A message that was written is read back by whoever expects its header, whatever follows it, with the header's fields as handed in and
-- every value the same; written again from what was read it gives the same bytes: MessageDemand2Holds and, by the writer's answer,
-- MessageDemand2Answered, in specs/Demand2.antt.

-- M16. Demand 3: two tables, any order, at every level; absent arrives as absent: MessageDemand3Holds and AbsentArrives, in specs/Demand3.antt.
-- Neither is empty: CaseASent in specs/Demand2.antt, MessageDemand3Shown in specs/Demand3.antt.

-- M17. Lent rows are written as they are: of the 64 rows that the writing by value is handed, each is the lent one, and absent where none is lent.
pub record LentIs (lent : List Row) : Type 0 where
  pub all_rows : length (lent_rows lent) ≡ 64
  pub each_row : (i : ℕ) → i < 64 → get_or (lent_rows lent) i absent_row ≡ get_or lent i absent_row

abbrev pub LentWritten : Type 0
LentWritten = (lent : List Row) → LentIs lent

-- M18. Any two answers, with the outputs after, that meet the contract of the writer from lent rows are equal.
abbrev pub OneLentSending : Type 0
OneLentSending =
    (h : Header) (lent : List Row) (t : Table) (buf old : List ℕ) (r s : Written) (o p : List ℕ)
    → (r ≡ message_writing h (lent_rows lent) (length lent) t buf (length old)) × (o ≡ message_output h (lent_rows lent) (length lent) t buf old)
    → (s ≡ message_writing h (lent_rows lent) (length lent) t buf (length old)) × (p ≡ message_output h (lent_rows lent) (length lent) t buf old)
    → (r ≡ s) × (o ≡ p)

-- ---- parts

-- M19. Any two sub-slices that are handed back as a part of a datagram have the same bytes.
abbrev pub OnePart : Type 0
OnePart = (d : List ℕ) (p : Part) (r s : List ℕ) → r ≡ part_of d p → s ≡ part_of d p → r ≡ s
