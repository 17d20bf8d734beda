-- What this crate promises beside its functions' contracts, a statement under each sentence. The proofs cite them in proofs/Promises.antt, in the
-- same order.
use Rattle.std.specs.Prelude.{◌≡◌, ℕ, ◌+◌, ◌*◌, ◌^◌, ◌≤◌, ◌<◌, true, List, ◌∷◌, length, take, drop, get_or, eqb}
use Rattle.payload.specs.declared.table.TypeRow.{TypeRow}
use Rattle.payload.specs.declared.row.Row.{Row}
use Rattle.payload.specs.Judging.{Unfit}
use Rattle.payload.specs.Table.{type_rows, row_at as type_at, table_fits}
use Rattle.payload.specs.declared.row.Value.TheVariants.{Bytes}
use Rattle.payload.specs.Row.{plain, absent_row, members_row, number_row}
use Rattle.wire.specs.Kind.{size_of, string}
use Rattle.payload.specs.Judging.{judged_from}
use Rattle.payload.specs.Outcome.{changes_none}
use Rattle.message.specs.declared.read.Expected.{Expected}
use Rattle.message.specs.declared.read.MessageReading.{MessageReading}
use Rattle.message.specs.Reading.{message_of}
use Rattle.payload.specs.declared.table.Table.{Table}
use Rattle.chudopolk.specs.declared.table.Form.{Form}
use Rattle.chudopolk.specs.declared.head.Expectation.{Expectation}
use Rattle.chudopolk.specs.declared.head.Answer.{Answer}
use Rattle.chudopolk.specs.declared.head.Fields.{Fields}
use Rattle.chudopolk.specs.declared.head.Sent.{Sent}
use Rattle.chudopolk.specs.Table.{table_of}
use Rattle.chudopolk.specs.Rows.{four_of, row_of, row_at, rows_of}
use Rattle.chudopolk.specs.Head.{answer_of, room_of, values_after, sent_of}
use Rattle.chudopolk.specs.Calls.{check_of, read_of, write_of, out_of}

-- ---- a table

abbrev number : List ℕ → ℕ → ℕ
number numbers k = get_or numbers k 0

-- row i has its five numbers
pub record RowKept (numbers : List ℕ) (i : ℕ) (r : TypeRow) : Type 0 where
  pub level_is : r.level ≡ number numbers (5 * i)
  pub ident_is : r.ident ≡ number numbers (5 * i + 1)
  pub kind_is : r.kind ≡ number numbers (5 * i + 2)
  pub elem_is : r.elem ≡ number numbers (5 * i + 3)
  pub required_is : r.required ≡ eqb (number numbers (5 * i + 4)) 1
  pub mark_in : number numbers (5 * i + 4) ≤ 1

pub record TableKept (form : Form) (numbers : List ℕ) : Type 0 where
  pub mark_in : form.fixed ≤ 1
  pub numbers_in : 5 * form.count ≤ length numbers
  pub count_is : (table_of form numbers).count ≡ form.count
  pub width_is : (table_of form numbers).width ≡ form.width
  pub fixed_is : (table_of form numbers).fixed ≡ eqb form.fixed 1
  pub each_row : (i : ℕ) → i < form.count → RowKept numbers i (type_at (type_rows (table_of form numbers)) i)

-- C1. A table that is accepted has the caller's numbers: none was cut, none was missing, and the marks are 0 or 1. So every wild number, short
-- array and wrong count gets verdict 1.
abbrev pub TablesKept : Type 0
TablesKept = (form : Form) (numbers : List ℕ) → table_fits (table_of form numbers) ≡ true → TableKept form numbers

-- ---- value rows

-- C2. A value row whose first number is over 6 is of no kind: where it stands, the rows are judged unfit, which is verdict 30.
abbrev pub WildUnfit : Type 0
WildUnfit = (w n p l : ℕ) → 6 < w → (buf : List ℕ) (upto : ℕ) (r : TypeRow) (types : List TypeRow) (rows : List Row)
    → judged_from buf upto (r ∷ types) (row_of w n p l ∷ rows) ≡ Unfit

pub record RowsHanded (values : List ℕ) : Type 0 where
  pub all_rows : length (rows_of values) ≡ 64
  pub each_row : (i : ℕ) → i < 64 → i < room_of values → get_or (rows_of values) i absent_row ≡ row_at values i
  pub others_absent : (i : ℕ) → room_of values ≤ i → get_or (rows_of values) i absent_row ≡ absent_row

-- C3. The rows that a writing is handed are those of the numbers, four to a row, and absent behind them.
abbrev pub HandsRows : Type 0
HandsRows = (values : List ℕ) → RowsHanded values

pub record ValuesKept (m : MessageReading) (old : List ℕ) : Type 0 where
  pub as_many : length (values_after m old) ≡ length old
  pub none_changed : changes_none m.reading.verdict ≡ true → values_after m old ≡ old
  pub each_row : (i : ℕ) → i < m.reading.filled
      → take 4 (drop (4 * i) (values_after m old)) ≡ four_of (get_or m.reading.rows i absent_row)
  pub beyond_stay : drop (4 * m.reading.filled) (values_after m old) ≡ drop (4 * m.reading.filled) old

-- C4. After a reading each row that it sets has its four numbers, and all others are as they were; 1 and 2 change none.
abbrev pub HandsValues : Type 0
HandsValues = (d : List ℕ) (e : Expected) (t : Table) (old : List ℕ) → ValuesKept (message_of d e t (room_of old)) old

-- the row that four numbers of a row stand for
abbrev pub back : Row → Row
back r = row_at (four_of r) 0

pub record ShownBack : Type 0 where
  pub absent_back : back absent_row ≡ absent_row
  pub members_back : back members_row ≡ members_row
  pub run_back : (place len : ℕ) → back (plain (Bytes place len)) ≡ plain (Bytes place len)
  pub number_back : (k v : ℕ) → 0 < k → k < string → v < 256 ^ size_of k → back (number_row k v) ≡ number_row k v

-- C5. The numbers of a row that a reading shows stand for that row: what was read can be handed back to be written. `number_row` is what the
-- reader shows of a number v of kind k.

-- ---- one answer

-- C6. Any two answers, with the arrays after, that meet the contract of a function are equal.
abbrev pub OneRead : Type 0
OneRead =
    (d types old : List ℕ) (x : Expectation) (form : Form) (r s : Answer) (after other : List ℕ)
    → (r ≡ answer_of (read_of d x form types old)) × (after ≡ values_after (read_of d x form types old) old)
    → (s ≡ answer_of (read_of d x form types old)) × (other ≡ values_after (read_of d x form types old) old)
    → (r ≡ s) × (after ≡ other)

abbrev pub OneWrite : Type 0
OneWrite =
    (types values buf old : List ℕ) (f : Fields) (form : Form) (r s : Sent) (after other : List ℕ)
    → (r ≡ sent_of (write_of f form types values buf (length old))) × (after ≡ out_of f form types values buf old)
    → (s ≡ sent_of (write_of f form types values buf (length old))) × (other ≡ out_of f form types values buf old)
    → (r ≡ s) × (after ≡ other)

abbrev pub OneCheck : Type 0
OneCheck = (form : Form) (types : List ℕ) (r s : ℕ) → r ≡ check_of form types → s ≡ check_of form types → r ≡ s
