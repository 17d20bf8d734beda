-- What a writing of a message answers and leaves, for every input (document 01, Header and Verdicts).
use Rattle.std.specs.Prelude.{◌≡◌, ℕ, ◌+◌, ◌/◌, ◌%◌, ◌≤◌, ◌<◌, true, List, ◌++◌, length, drop, get_or}
use Rattle.wire.specs.Header.{header_len, protocol_version}
use Rattle.wire.specs.declared.verdict.Verdict.TheVariants.{Accepted}
use Rattle.payload.specs.declared.table.Table.{Table}
use Rattle.payload.specs.declared.row.Row.{Row}
use Rattle.payload.specs.declared.write.Written.{Written}
use Rattle.payload.specs.Reading.{payload_most}
use Rattle.payload.specs.Settled.{payload_of, Accepts}
use Rattle.message.specs.declared.header.Header.{Header}
use Rattle.message.specs.MessageType.{is_one}
use Rattle.message.specs.Header.{Fitting}
use Rattle.message.specs.Writing.{message_bytes, message_writing, message_output}

-- ---- by byte number

abbrev byte : List ℕ → ℕ → ℕ
byte o i = get_or o i 0

-- The bytes of an output whose first 16 are the header before a payload of n bytes: big-endian, each field at its place.
pub record HeaderPlaces (h : Header) (n : ℕ) (o : List ℕ) : Type 0 where
  pub byte_0 : byte o 0 ≡ h.service.0 / 256
  pub byte_1 : byte o 1 ≡ h.service.0 % 256
  pub byte_2 : byte o 2 ≡ h.method.0 / 256
  pub byte_3 : byte o 3 ≡ h.method.0 % 256
  pub byte_4 : byte o 4 ≡ (8 + n) / 16777216
  pub byte_5 : byte o 5 ≡ (8 + n) / 65536 % 256
  pub byte_6 : byte o 6 ≡ (8 + n) / 256 % 256
  pub byte_7 : byte o 7 ≡ (8 + n) % 256
  pub byte_8 : byte o 8 ≡ h.client.0 / 256
  pub byte_9 : byte o 9 ≡ h.client.0 % 256
  pub byte_10 : byte o 10 ≡ h.session.0 / 256
  pub byte_11 : byte o 11 ≡ h.session.0 % 256
  pub byte_12 : byte o 12 ≡ protocol_version
  pub byte_13 : byte o 13 ≡ h.interface
  pub byte_14 : byte o 14 ≡ h.kind.0
  pub byte_15 : byte o 15 ≡ h.code

-- ---- answer and output

-- every test of the writer is met, where `room` rows are lent and the output has `space` bytes
pub record Sends (h : Header) (rows : List Row) (room : ℕ) (t : Table) (buf : List ℕ) (space : ℕ) : Type 0 where
  pub kind_one : is_one h.kind.0 ≡ true
  pub accepts : Accepts rows room t buf payload_most
  pub fits : header_len + length (payload_of t buf rows) ≤ space

module _ (h : Header) (rows : List Row) (room : ℕ) (t : Table) (buf old : List ℕ) where
  abbrev answer : Written
  answer = message_writing h rows room t buf (length old)

  abbrev after : List ℕ
  after = message_output h rows room t buf old

  abbrev size : ℕ
  size = length (payload_of t buf rows)

  pub record SentLaw : Type 0 where
    -- accepted exactly when every test is met
    pub meets : answer.verdict ≡ Accepted → Sends h rows room t buf (length old)
    pub answered : Sends h rows room t buf (length old) → answer ≡ record { verdict = Accepted; len = header_len + size }
    -- then the output is the message, and behind it the old bytes
    pub output : Sends h rows room t buf (length old) → after ≡ message_bytes h (payload_of t buf rows) ++ drop (header_len + size) old
    -- each header field is at its place, and the payload behind it
    pub places : Fitting h → Sends h rows room t buf (length old) → HeaderPlaces h size after
    pub payload_bytes : Sends h rows room t buf (length old) → (i : ℕ) → i < size → byte after (header_len + i) ≡ byte (payload_of t buf rows) i
    -- else it is as it was, and the length is 0
    pub kept : (answer.verdict ≡ Accepted → ⊥) → (after ≡ old) × (answer.len ≡ 0)
    pub most : answer.len ≤ header_len + payload_most
    pub fitting : answer.len ≤ length old
    pub same_length : length after ≡ length old
    pub beyond : drop answer.len after ≡ drop answer.len old

-- A writing is accepted exactly when every test is met; the output is then the message and the old bytes behind it, and else the old bytes.
abbrev pub SentSettled : Type 0
SentSettled = (h : Header) (rows : List Row) (room : ℕ) (t : Table) (buf old : List ℕ) → SentLaw h rows room t buf old

-- Any two answers, with the outputs after, that meet the writer's contract are equal.
abbrev pub OneSending : Type 0
OneSending =
    (h : Header) (rows : List Row) (room : ℕ) (t : Table) (buf old : List ℕ) (r s : Written) (o p : List ℕ)
    → (r ≡ message_writing h rows room t buf (length old)) × (o ≡ message_output h rows room t buf old)
    → (s ≡ message_writing h rows room t buf (length old)) × (p ≡ message_output h rows room t buf old)
    → (r ≡ s) × (o ≡ p)
