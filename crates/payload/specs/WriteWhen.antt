-- When a writing has each verdict (document 01, Verdicts): the paper's table, in the writing order.
use Rattle.std.specs.Prelude.{◌≡◌, true, false, ◌⊎◌, List, ℕ, ◌≤◌, ◌<◌, length}
use Rattle.wire.specs.declared.verdict.Verdict.{Verdict}
use Rattle.wire.specs.declared.verdict.Verdict.TheVariants.{
  Accepted,
  Table as NoTable,
  Room,
  Short,
  Length,
  Protocol,
  Service,
  Interface,
  Method,
  MessageType,
  Large,
  TagCut,
  Wire,
  Twice,
  FieldCut,
  Overrun,
  Array,
  Text,
  Missing,
  Value as NoValue,
  Outside as Past,
  Wide,
  Heavy,
}
use Rattle.payload.specs.declared.table.Table.{Table}
use Rattle.payload.specs.declared.row.Row.{Row}
use Rattle.payload.specs.Judging.{Fine, Outside, Unfit}
use Rattle.payload.specs.Table.{type_rows, table_fits}
use Rattle.payload.specs.Reading.{payload_most}
use Rattle.payload.specs.Judging.{judged_of}
use Rattle.payload.specs.Writing.{tree_of, some_wide, writing_of}
use Rattle.payload.specs.Settled.{payload_of, Accepts}

-- neither 1 nor 2 for value rows, of which `room` are lent
pub record Lent (room : ℕ) (t : Table) : Type 0 where
  pub table_fits_lem : table_fits t ≡ true
  pub room_fits : t.count ≤ room

-- `space` is the number of output bytes.
module _ (rows : List Row) (room : ℕ) (t : Table) (buf : List ℕ) (space : ℕ) where
  abbrev pub WrittenWhen : Verdict → Type 0
  WrittenWhen Accepted = Accepts rows room t buf space
  WrittenWhen NoTable = table_fits t ≡ false
  WrittenWhen Room =
      ((table_fits t ≡ true) × (room < t.count)) ⊎ (Accepts rows room t buf payload_most × (space < length (payload_of t buf rows)))
  WrittenWhen Past = Lent room t × (judged_of buf (type_rows t) rows ≡ Outside)
  WrittenWhen NoValue = Lent room t × (judged_of buf (type_rows t) rows ≡ Unfit)
  WrittenWhen Wide = Lent room t × (judged_of buf (type_rows t) rows ≡ Fine) × (some_wide t.width (tree_of t buf rows) ≡ true)
  WrittenWhen Heavy =
      Lent room t × (judged_of buf (type_rows t) rows ≡ Fine) × (some_wide t.width (tree_of t buf rows) ≡ false)
      × (payload_most < length (payload_of t buf rows))
  WrittenWhen Short = ⊥
  WrittenWhen Length = ⊥
  WrittenWhen Protocol = ⊥
  WrittenWhen Service = ⊥
  WrittenWhen Interface = ⊥
  WrittenWhen Method = ⊥
  WrittenWhen MessageType = ⊥
  WrittenWhen Large = ⊥
  WrittenWhen TagCut = ⊥
  WrittenWhen Wire = ⊥
  WrittenWhen Twice = ⊥
  WrittenWhen FieldCut = ⊥
  WrittenWhen Overrun = ⊥
  WrittenWhen Array = ⊥
  WrittenWhen Text = ⊥
  WrittenWhen Missing = ⊥

-- A writing has a verdict exactly when the table says so.
abbrev pub WriteVerdicts : Type 0
WriteVerdicts =
    (rows : List Row) (room : ℕ) (t : Table) (buf : List ℕ) (space : ℕ) (v : Verdict)
    → ((writing_of rows room t buf space).verdict ≡ v → WrittenWhen rows room t buf space v)
    × (WrittenWhen rows room t buf space v → (writing_of rows room t buf space).verdict ≡ v)
