-- The writing of a message has each verdict exactly when the table says so: by the payload's verdicts, the Message Type and the output's room.
-- Assumes nothing.
use mathlib.Core.Path.{◌≡◌, refl, ap, subst}
use Prim.Native.Nat.{ℕ, ◌+◌, ◌<◌}
use native.Mathlib.Omega.{arith}
use mathlib.Core.Bool.{Bool, true, false}
use mathlib.Core.Logic.{inl, inr}
use mathlib.Core.List.{List}
use lib.ListN.{length}
use lib.Dec.{ltb}
use borrow.Author.Tests.{lt-ltb, ltb-true, ltb-false}
use Rattle.wire.specs.Choose.{pick}
use Rattle.wire.specs.Verdict.{verdict_number}
use Rattle.wire.specs.Header.{header_len}
use Rattle.wire.specs.declared.verdict.Verdict.{Verdict}
use Rattle.wire.specs.declared.verdict.Verdict.TheVariants.{
  Accepted,
  Table as NoTable,
  Room,
  Short,
  Length,
  Protocol,
  Service,
  Interface,
  Method,
  MessageType,
  Large,
  TagCut,
  Wire,
  Twice,
  FieldCut,
  Overrun,
  Array,
  Text,
  Missing,
  Value as NoValue,
  Outside as Past,
  Wide,
  Heavy,
}
use Rattle.payload.specs.declared.table.Table.{Table}
use Rattle.payload.specs.declared.row.Row.{Row}
use Rattle.payload.specs.Reading.{payload_most}
use Rattle.payload.specs.Writing.{Outcome, refused, done, outcome_of, answer_is, writing_of}
use Rattle.payload.specs.Settled.{payload_of}
use Rattle.payload.specs.WriteWhen.{WrittenWhen}
use Rattle.payload.proofs.Promises.{done_exactly, write_verdicts}
use Rattle.message.specs.declared.header.Header.{Header}
use Rattle.message.specs.MessageType.{is_one}
use Rattle.message.specs.Writing.{message_bytes, framed, sending_of, message_writing}
use Rattle.message.specs.SentWhen.{SentWhen, SentVerdicts}
use Rattle.message.proofs.SentLaws.{sent_accepts}

module _ (h : Header) (rows : List Row) (room : ℕ) (t : Table) (buf : List ℕ) (space : ℕ) where
  -- what the payload's writing was refused for, the message's is
  lifted : is_one h.kind.0 ≡ true → (u : Verdict) → outcome_of rows room t buf payload_most ≡ refused u
      → WrittenWhen rows room t buf payload_most u → SentWhen h rows room t buf space u
  lifted k Accepted o w = absurd ((done_exactly rows room t buf payload_most).refuses_truly o)
  lifted k NoTable o w = inr w
  lifted k Room o (inl x) = (k, inl x)
  lifted k Room o (inr (a, s)) = absurd (omega (arith, a.light))
  lifted k Past o w = (k, w)
  lifted k NoValue o w = (k, w)
  lifted k Wide o w = (k, w)
  lifted k Heavy o w = (k, w)
  lifted k Short o w = w
  lifted k Length o w = w
  lifted k Protocol o w = w
  lifted k Service o w = w
  lifted k Interface o w = w
  lifted k Method o w = w
  lifted k MessageType o w = w
  lifted k Large o w = w
  lifted k TagCut o w = w
  lifted k Wire o w = w
  lifted k Twice o w = w
  lifted k FieldCut o w = w
  lifted k Overrun o w = w
  lifted k Array o w = w
  lifted k Text o w = w
  lifted k Missing o w = w

  refused_when : (u : Verdict) → outcome_of rows room t buf payload_most ≡ refused u → WrittenWhen rows room t buf payload_most u
  unfolding writing_of answer_is
  refused_when u o = (write_verdicts rows room t buf payload_most u).0 (rw o)

  given : (v : Verdict) → (message_writing h rows room t buf space).verdict ≡ v → SentWhen h rows room t buf space v
  unfolding message_writing sending_of framed answer_is
  given v = go (is_one h.kind.0) refl (outcome_of rows room t buf payload_most) refl
    where
      by : (u : Verdict) → SentWhen h rows room t buf space u → u ≡ v → SentWhen h rows room t buf space v
      by u w e = subst (SentWhen h rows room t buf space) e w

      last : is_one h.kind.0 ≡ true → (p : List ℕ) → outcome_of rows room t buf payload_most ≡ done p
          → (b : Bool) → ltb space (header_len + length p) ≡ b
          → (answer_is (pick b (refused Room) (done (message_bytes h p)))).verdict ≡ v → SentWhen h rows room t buf space v
      last k p o true eb =
          let d = (done_exactly rows room t buf payload_most).done_meets p o in
          by Room (k, inr (d.0, rw (← d.1) (ltb-true space (header_len + length p) eb)))
      last k p o false eb =
          let d = (done_exactly rows room t buf payload_most).done_meets p o in
          by Accepted (record { kind_one = k; accepts = d.0; fits = rw (← d.1) (ltb-false space (header_len + length p) eb) })

      go : (b : Bool) → is_one h.kind.0 ≡ b → (o : Outcome) → outcome_of rows room t buf payload_most ≡ o
          → (answer_is (pick b (framed h space o) (refused NoTable))).verdict ≡ v → SentWhen h rows room t buf space v
      go false k o eo = by NoTable (inl k)
      go true k (refused u) eo = by u (lifted k u eo (refused_when u eo))
      go true k (done p) eo = last k p eo (ltb space (header_len + length p)) refl

  -- ---- and back

  -- a payload's verdict other than 0 is that of its refusal
  outcome_by : (v : Verdict) → 0 < verdict_number v → WrittenWhen rows room t buf payload_most v → outcome_of rows room t buf payload_most ≡ refused v
  unfolding writing_of answer_is
  outcome_by v n w = go (outcome_of rows room t buf payload_most) ((write_verdicts rows room t buf payload_most v).1 w)
    where
      go : (o : Outcome) → (answer_is o).verdict ≡ v → o ≡ refused v
      go (refused u) e = ap refused e
      go (done p) e = absurd (omega (arith, ap verdict_number e))

  refused_gives : (v : Verdict) → is_one h.kind.0 ≡ true → outcome_of rows room t buf payload_most ≡ refused v
      → (message_writing h rows room t buf space).verdict ≡ v
  unfolding message_writing sending_of framed answer_is
  refused_gives v k o = rw (k, o)

  table_gives : outcome_of rows room t buf payload_most ≡ refused NoTable → (message_writing h rows room t buf space).verdict ≡ NoTable
  unfolding message_writing sending_of framed answer_is
  table_gives o = rw o (go (is_one h.kind.0))
    where
      go : (b : Bool) → (answer_is (pick b (refused NoTable) (refused NoTable))).verdict ≡ NoTable
      go true = refl
      go false = refl

  gives : (v : Verdict) → SentWhen h rows room t buf space v → (message_writing h rows room t buf space).verdict ≡ v
  unfolding message_writing sending_of framed answer_is
  gives Accepted s = sent_accepts h rows room t buf space s
  gives NoTable (inl k) = rw k
  gives NoTable (inr f) = table_gives (outcome_by NoTable (omega arith) f)
  gives Room (k, inl x) = refused_gives Room k (outcome_by Room (omega arith) (inl x))
  gives Room (k, inr (a, s)) =
      rw (k, (done_exactly rows room t buf payload_most).meets_done a, lt-ltb space (header_len + length (payload_of t buf rows)) s)
  gives Past (k, w) = refused_gives Past k (outcome_by Past (omega arith) w)
  gives NoValue (k, w) = refused_gives NoValue k (outcome_by NoValue (omega arith) w)
  gives Wide (k, w) = refused_gives Wide k (outcome_by Wide (omega arith) w)
  gives Heavy (k, w) = refused_gives Heavy k (outcome_by Heavy (omega arith) w)
  gives Short w = absurd w
  gives Length w = absurd w
  gives Protocol w = absurd w
  gives Service w = absurd w
  gives Interface w = absurd w
  gives Method w = absurd w
  gives MessageType w = absurd w
  gives Large w = absurd w
  gives TagCut w = absurd w
  gives Wire w = absurd w
  gives Twice w = absurd w
  gives FieldCut w = absurd w
  gives Overrun w = absurd w
  gives Array w = absurd w
  gives Text w = absurd w
  gives Missing w = absurd w

pub sent_verdicts : SentVerdicts
sent_verdicts h rows room t buf space v = (given h rows room t buf space v, gives h rows room t buf space v)
