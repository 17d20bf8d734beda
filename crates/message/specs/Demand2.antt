-- Demand 2 of a message (document 01): what is written is read back the same, whatever stands behind it, and what was read back is written as
-- the same bytes. The only premise is that the writer accepts.
use Rattle.std.specs.Prelude.{◌≡◌, ℕ, ◌-◌, ◌≤◌, List, [], ◌∷◌, ◌++◌, length, take, drop}
use Rattle.wire.specs.Header.{header_len}
use Rattle.wire.specs.Part.{part, part_of}
use Rattle.wire.specs.declared.verdict.Verdict.TheVariants.{Accepted}
use Rattle.payload.specs.declared.table.Table.{Table}
use Rattle.payload.specs.declared.row.Row.{Row}
use Rattle.payload.specs.Reading.{full}
use Rattle.payload.specs.Writing.{done}
use Rattle.payload.specs.Demand2.{IsTree, ReadBack, Handed}
use Rattle.payload.specs.Cases.{table_w, values_a}
use Rattle.message.specs.declared.header.Header.{Header}
use Rattle.message.specs.declared.read.Expected.{Expected}
use Rattle.message.specs.declared.read.MessageReading.{MessageReading}
use Rattle.message.specs.MessageType.{notification}
use Rattle.message.specs.Header.{Fitting}
use Rattle.message.specs.Reading.{message_of}
use Rattle.message.specs.Writing.{message_bytes, sending_of, message_writing, message_output}

-- what is expected by a reader of this header
abbrev pub expected_of : Header → Expected
expected_of h = record { service = h.service; method = h.method; interface = h.interface; kind = h.kind }

-- the bytes of a message behind its header
abbrev pub body_of : List ℕ → List ℕ
body_of m = drop header_len m

-- ---- what holds of a message m that the writer gives

-- Its reading with x behind it: accepted at place 0 with nothing skipped; Client ID, Session ID and Return Code are as handed in; the parts are
-- the payload and x; and every row has the same value.
pub record MessageBack (h : Header) (rows : List Row) (t : Table) (buf m x : List ℕ) (got : MessageReading) : Type 0 where
  pub client_back : got.head.client.0 ≡ h.client.0
  pub session_back : got.head.session.0 ≡ h.session.0
  pub code_back : got.head.found_code ≡ h.code
  pub payload_at : got.head.payload ≡ part header_len (length m - header_len)
  pub payload_is : part_of (m ++ x) got.head.payload ≡ body_of m
  pub rest_at : got.head.rest ≡ part (length m) (length x)
  pub rest_is : part_of (m ++ x) got.head.rest ≡ x
  pub read_back : ReadBack rows t buf (body_of m) got.reading

pub record MessageDemand2 (h : Header) (rows : List Row) (t : Table) (buf m : List ℕ) : Type 0 where
  -- It is the header and the bytes of the tree of present rows.
  pub message_is : m ≡ message_bytes h (body_of m)
  pub is_tree : IsTree rows t buf (body_of m)
  pub reads_back : (x : List ℕ) (room : ℕ) → t.count ≤ room → MessageBack h rows t buf m x (message_of (m ++ x) (expected_of h) t room)
  -- The rows that are read, written with the same header and the payload as the content buffer, give the same bytes.
  pub again : (x : List ℕ) (room space : ℕ) → t.count ≤ room → length m ≤ space
      → sending_of h (message_of (m ++ x) (expected_of h) t room).reading.rows room t (body_of m) space ≡ done m

-- ---- and of every writing that is accepted

-- Whatever is handed in, of which `room` value rows and `space` output bytes are lent: if the writer accepts and gives m, m is such a message.
abbrev pub MessageDemand2Holds : Type 0
MessageDemand2Holds =
    (h : Header) (rows : List Row) (room : ℕ) (t : Table) (buf : List ℕ) (space : ℕ) (m : List ℕ) → Fitting h → Handed rows t buf
    → sending_of h rows room t buf space ≡ done m → MessageDemand2 h rows t buf m

-- The same by the writer's answer: if its verdict is 0, the output's first bytes, as many as the answer says, are such a message.
abbrev pub MessageDemand2Answered : Type 0
MessageDemand2Answered =
    (h : Header) (rows : List Row) (room : ℕ) (t : Table) (buf old : List ℕ) → Fitting h → Handed rows t buf
    → (message_writing h rows room t buf (length old)).verdict ≡ Accepted
    → MessageDemand2 h rows t buf (take (message_writing h rows room t buf (length old)).len (message_output h rows room t buf old))

-- ---- not empty

-- Service 0x4A01, Method 0x8001, Client 0, Session 1, interface 1, NOTIFICATION, Return Code 0
unfoldable pub header_w : Header
header_w =
    record {
      service = record { 0 = 0x4A01 };
      method = record { 0 = 0x8001 };
      client = record { 0 = 0 };
      session = record { 0 = 1 };
      interface = 1;
      kind = record { 0 = notification };
      code = 0;
    }

unfoldable pub message_a : List ℕ
message_a =
    0x4A ∷ 0x01 ∷ 0x80 ∷ 0x01 ∷ 0x00 ∷ 0x00 ∷ 0x00 ∷ 0x13 ∷ 0x00 ∷ 0x00 ∷ 0x00 ∷ 0x01 ∷ 0x01 ∷ 0x01 ∷ 0x02 ∷ 0x00  -- header
    ∷ 0x10 ∷ 0x02 ∷ 0xFF ∷ 0x83 ∷ 0x50 ∷ 0x05 ∷ 0x04 ∷ 0x10 ∷ 0x01 ∷ 0x0B ∷ 0x54 ∷ []  -- payload

-- The rows of case a, written under table W into an output of just the message's length; and so they are read back.
pub record CaseASent : Type 0 where
  pub sends : sending_of header_w (full values_a) 5 table_w [] 27 ≡ done message_a
  pub back : MessageDemand2 header_w (full values_a) table_w [] message_a
