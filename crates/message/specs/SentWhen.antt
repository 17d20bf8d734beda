-- When the writing of a message has each verdict (document 01, Verdicts): the paper's table, in the writing order.
use Rattle.std.specs.Prelude.{◌≡◌, true, false, ◌⊎◌, List, ℕ, ◌+◌, ◌<◌, length}
use Rattle.wire.specs.Header.{header_len}
use Rattle.wire.specs.declared.verdict.Verdict.{Verdict}
use Rattle.wire.specs.declared.verdict.Verdict.TheVariants.{
  Accepted,
  Table as NoTable,
  Room,
  Short,
  Length,
  Protocol,
  Service,
  Interface,
  Method,
  MessageType,
  Large,
  TagCut,
  Wire,
  Twice,
  FieldCut,
  Overrun,
  Array,
  Text,
  Missing,
  Value as NoValue,
  Outside as Past,
  Wide,
  Heavy,
}
use Rattle.payload.specs.declared.table.Table.{Table}
use Rattle.payload.specs.declared.row.Row.{Row}
use Rattle.payload.specs.Table.{table_fits}
use Rattle.payload.specs.Reading.{payload_most}
use Rattle.payload.specs.Settled.{payload_of, Accepts}
use Rattle.payload.specs.WriteWhen.{WrittenWhen}
use Rattle.message.specs.declared.header.Header.{Header}
use Rattle.message.specs.MessageType.{is_one}
use Rattle.message.specs.Writing.{message_writing}
use Rattle.message.specs.Sent.{Sends}

-- `space` is the number of output bytes.
module _ (h : Header) (rows : List Row) (room : ℕ) (t : Table) (buf : List ℕ) (space : ℕ) where
  -- the Message Type is one of the five, and the payload's writing, with room enough, has the verdict
  abbrev ByRows : Verdict → Type 0
  ByRows v = (is_one h.kind.0 ≡ true) × WrittenWhen rows room t buf payload_most v

  abbrev pub SentWhen : Verdict → Type 0
  SentWhen Accepted = Sends h rows room t buf space
  SentWhen NoTable = (is_one h.kind.0 ≡ false) ⊎ (table_fits t ≡ false)
  SentWhen Room =
      (is_one h.kind.0 ≡ true)
      × (((table_fits t ≡ true) × (room < t.count)) ⊎ (Accepts rows room t buf payload_most × (space < header_len + length (payload_of t buf rows))))
  SentWhen Past = ByRows Past
  SentWhen NoValue = ByRows NoValue
  SentWhen Wide = ByRows Wide
  SentWhen Heavy = ByRows Heavy
  SentWhen Short = ⊥
  SentWhen Length = ⊥
  SentWhen Protocol = ⊥
  SentWhen Service = ⊥
  SentWhen Interface = ⊥
  SentWhen Method = ⊥
  SentWhen MessageType = ⊥
  SentWhen Large = ⊥
  SentWhen TagCut = ⊥
  SentWhen Wire = ⊥
  SentWhen Twice = ⊥
  SentWhen FieldCut = ⊥
  SentWhen Overrun = ⊥
  SentWhen Array = ⊥
  SentWhen Text = ⊥
  SentWhen Missing = ⊥

-- A writing has a verdict exactly when the table says so.
abbrev pub SentVerdicts : Type 0
SentVerdicts =
    (h : Header) (rows : List Row) (room : ℕ) (t : Table) (buf : List ℕ) (space : ℕ) (v : Verdict)
    → ((message_writing h rows room t buf space).verdict ≡ v → SentWhen h rows room t buf space v)
    × (SentWhen h rows room t buf space v → (message_writing h rows room t buf space).verdict ≡ v)
