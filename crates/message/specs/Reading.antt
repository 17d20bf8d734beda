-- Reading a message (document 01, Header and Verdicts): the table and the room, the header, then the payload.
use Rattle.std.specs.Prelude.{ℕ, ◌+◌, ◌-◌, Bool, List, length, ltb, eqb}
use Rattle.std.proofs.Math.Seq.{slice}
use Rattle.wire.specs.Choose.{pick, and, or}
use Rattle.wire.specs.Verdict.{verdict_number}
use Rattle.wire.specs.Header.{
  header_len,
  protocol_version,
  service_of,
  method_of,
  length_of,
  client_of,
  session_of,
  version_of,
  interface_of,
  type_of,
  code_of,
  end_of,
}
use Rattle.wire.specs.Part.{part, no_part}
use Rattle.wire.specs.declared.verdict.Verdict.{Verdict}
use Rattle.wire.specs.declared.verdict.Verdict.TheVariants.{
  Accepted,
  Table as NoTable,
  Room,
  Short,
  Length,
  Protocol,
  Service,
  Interface,
  Method,
  MessageType,
}
use Rattle.wire.specs.declared.part.Part.{Part}
use Rattle.payload.specs.declared.table.Table.{Table}
use Rattle.payload.specs.declared.read.Reading.{Reading}
use Rattle.payload.specs.Table.{in_range, table_fits}
use Rattle.payload.specs.Reading.{untouched, cleared, reading_of}
use Rattle.message.specs.declared.read.Expected.{Expected}
use Rattle.message.specs.declared.read.Head.{Head}
use Rattle.message.specs.declared.read.MessageReading.{MessageReading}
use Rattle.message.specs.MessageType.{is_one}

-- ---- the parts, and what is handed on

-- a message's bytes behind its header
unfoldable pub payload_of : List ℕ → List ℕ
payload_of d = slice header_len (end_of d) d

-- After 12 to 17 the payload part is empty; after 0 and 20 to 27 it is given.
unfoldable pub payload_shown : Verdict → ℕ → Part
payload_shown v end = pick (in_range 12 17 (verdict_number v)) no_part (part header_len (end - header_len))

-- Client ID, Session ID and Return Code are handed on as found. The part after the message is all that is left of the datagram.
unfoldable pub head_at : List ℕ → ℕ → Verdict → Head
head_at d end v =
    record {
      client = record { 0 = client_of d };
      session = record { 0 = session_of d };
      found_code = code_of d;
      payload = payload_shown v end;
      rest = part end (length d - end);
    }

-- They are all 0 after 1, 2, 10 and 11, and both parts are empty.
abbrev pub no_head : Head
no_head = record { client = record { 0 = 0 }; session = record { 0 = 0 }; found_code = 0; payload = no_part; rest = no_part }

abbrev pub unheaded : Reading → MessageReading
unheaded r = record { head = no_head; reading = r }

abbrev pub headed : List ℕ → Reading → MessageReading
headed d r = record { head = head_at d (end_of d) r.verdict; reading = r }

-- ---- the verdicts, in their order

-- 11: Length below 8, or message past the datagram's end
unfoldable pub length_fails : ℕ → ℕ → Bool
length_fails len size = or (ltb len 8) (ltb size (8 + len))

-- 12 to 16: the first field that is not as it should be; Accepted where there is none
unfoldable pub header_verdict : List ℕ → Expected → Verdict
header_verdict d e =
    pick (eqb (version_of d) protocol_version)
    (pick (eqb (service_of d) e.service.0)
    (pick (eqb (interface_of d) e.interface)
    (pick (eqb (method_of d) e.method.0)
    (pick (eqb (type_of d) e.kind.0)
    Accepted
    MessageType)
    Method)
    Interface)
    Service)
    Protocol

-- 12 to 16, then the payload's own: 17, and 20 to 27 or 0
unfoldable pub headed_of : List ℕ → Expected → Table → ℕ → MessageReading
headed_of d e t room =
    headed d
    (pick (eqb (verdict_number (header_verdict d e)) 0)
    (reading_of (payload_of d) t room)
    (cleared t.count (header_verdict d e) 0))

-- 1, 2, 10, 11, then the header's. `room` is the number of lent rows.
unfoldable pub message_of : List ℕ → Expected → Table → ℕ → MessageReading
message_of d e t room =
    pick (and (is_one e.kind.0) (table_fits t))
    (pick (ltb room t.count) (unheaded (untouched Room))
    (pick (ltb (length d) header_len) (unheaded (cleared t.count Short 0))
    (pick (length_fails (length_of d) (length d)) (unheaded (cleared t.count Length 0))
    (headed_of d e t room))))
    (unheaded (untouched NoTable))
