-- A message's reading, handed out as numbers.
-- Assumes nothing.
use mathlib.Core.Path.{◌≡◌, refl, sym, ap, ◌∙◌}
use Prim.Native.Nat.{ℕ, ◌*◌, ◌≤◌}
use native.Mathlib.Omega.{arith}
use mathlib.Core.Bool.{Bool, true}
use mathlib.Core.List.{List}
use lib.ListN.{length}
use Rattle.payload.specs.declared.table.Table.{Table}
use Rattle.payload.specs.declared.row.Row.{Row}
use Rattle.payload.specs.declared.write.Written.{Written}
use Rattle.message.specs.declared.header.Header.{Header}
use Rattle.message.specs.declared.read.Expected.{Expected}
use Rattle.message.specs.declared.read.MessageReading.{MessageReading}
use Rattle.message.specs.Reading.{message_of}
use Rattle.message.specs.Writing.{message_writing, message_output}
use Rattle.message.proofs.Promises.{sets_rows}
use Rattle.wire.specs.Choose.{pick}
use Rattle.payload.specs.Outcome.{changes_none}
use Rattle.chudopolk.specs.declared.table.Form.{Form}
use Rattle.chudopolk.specs.declared.head.Expectation.{Expectation}
use Rattle.chudopolk.specs.declared.head.Answer.{Answer}
use Rattle.chudopolk.specs.declared.head.Fields.{Fields}
use Rattle.chudopolk.specs.declared.head.Sent.{Sent}
use Rattle.chudopolk.specs.Table.{table_of}
use Rattle.chudopolk.specs.Rows.{rows_of}
use Rattle.chudopolk.specs.Head.{expected_of, answer_of, room_of, values_after, header_of, sent_is, sent_of}
use Rattle.chudopolk.specs.Calls.{read_of, write_of, out_of}
use Rattle.chudopolk.specs.Promises.{ValuesKept, HandsValues, OneRead, OneWrite}
use Rattle.chudopolk.proofs.RowLaws.{flat_none, after_long, after_row, after_rest}

-- the rows that a reading sets are there, and so is room for them
pub rows_in_lem : (d : List ℕ) (e : Expected) (t : Table) (values : List ℕ) (m : MessageReading) → m ≡ message_of d e t (room_of values)
    → (m.reading.filled ≤ 64) × (length m.reading.rows ≡ 64) × (4 * m.reading.filled ≤ length values)
rows_in_lem d e t values m h =
    let law = sets_rows d e t (room_of values) in
    rw h (law.within_rows, law.all_rows, omega (arith, law.within_room))

-- a reading under what numbers stand for
module _ (d types old : List ℕ) (x : Expectation) (form : Form) where
  pub read_as : (e : Expected) (t : Table) (m : MessageReading) (after : List ℕ) (r : Answer) → e ≡ expected_of x → t ≡ table_of form types
      → m ≡ message_of d e t (room_of old) → after ≡ values_after m old → r ≡ answer_of m
      → (r ≡ answer_of (read_of d x form types old)) × (after ≡ values_after (read_of d x form types old) old)
  read_as e t m after r he ht h put answer =
      let same : m ≡ read_of d x form types old = h ∙ rw (he, ht) in
      (answer ∙ ap answer_of same, put ∙ ap (λ (u : MessageReading). values_after u old) same)

-- a writing of what numbers stand for
module _ (types values buf old : List ℕ) (f : Fields) (form : Form) where
  pub write_as : (h : Header) (rows : List Row) (t : Table) (w : Written) (after : List ℕ) (s : Sent) → h ≡ header_of f → rows ≡ rows_of values
      → t ≡ table_of form types
      → (w ≡ message_writing h rows (room_of values) t buf (length old)) × (after ≡ message_output h rows (room_of values) t buf old)
      → s ≡ sent_is w.verdict w.len
      → (s ≡ sent_of (write_of f form types values buf (length old))) × (after ≡ out_of f form types values buf old)
  write_as h rows t w after s hh hr ht both e =
      let answer : w ≡ write_of f form types values buf (length old) = both.0 ∙ rw (hh, hr, ht) in
      (e ∙ ap sent_of answer, both.1 ∙ rw (hh, hr, ht))

-- ---- what a reading leaves

kept_by_lem : (m : MessageReading) (old : List ℕ)
    → (m.reading.filled ≤ 64) × (length m.reading.rows ≡ 64) × (4 * m.reading.filled ≤ length old)
    → (changes_none m.reading.verdict ≡ true → m.reading.filled ≡ 0) → ValuesKept m old
kept_by_lem m old fits none =
    let few : m.reading.filled ≤ length m.reading.rows = omega (arith, fits.0, fits.1) in
    record {
      as_many = after_long m.reading.rows old m.reading.filled few fits.2;
      none_changed = λ h. rw (none h) (sym (flat_none old));
      each_row = after_row m.reading.rows old m.reading.filled few fits.2;
      beyond_stay = after_rest m.reading.rows old m.reading.filled few fits.2;
    }

pub hands_values : HandsValues
hands_values d e t old =
    let m = message_of d e t (room_of old) in
    kept_by_lem m old (rows_in_lem d e t old m refl) (λ h. (sets_rows d e t (room_of old)).set_rows ∙ ap (λ (b : Bool). pick b 0 t.count) h)

-- ---- one answer

pub one_read : OneRead
one_read d types old x form r s after other p q = (p.0 ∙ sym q.0, p.1 ∙ sym q.1)

pub one_write : OneWrite
one_write types values buf old f form r s after other p q = (p.0 ∙ sym q.0, p.1 ∙ sym q.1)
