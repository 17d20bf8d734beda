-- Which type table numbers stand for. A table that no numbers of a caller's could mean has no rows, and a row none could mean has level 0:
-- both break the rules (document 01, Type table), so they get verdict 1.
use Rattle.std.specs.Prelude.{ℕ, zero, suc, ◌+◌, ◌*◌, Bool, true, false, List, length, get_or, set, replicate, leb, eqb}
use Rattle.wire.specs.Choose.{pick, and}
use Rattle.payload.specs.declared.table.TypeRow.{TypeRow}
use Rattle.payload.specs.declared.table.Table.{Table}
use Rattle.payload.specs.Table.{no_row}
use Rattle.chudopolk.specs.declared.table.Form.{Form}

-- ---- a row

-- a row's numbers are such as a type row can hold
abbrev pub row_holds : ℕ → ℕ → ℕ → ℕ → ℕ → Bool
row_holds level ident kind elem required =
    and (leb level 255)
    (and (leb ident 65535)
    (and (leb kind 255)
    (and (leb elem 255)
    (leb required 1))))

-- Level, Data ID, kind, element kind, and 1 for required or 0 for optional.
unfoldable pub type_row_of : ℕ → ℕ → ℕ → ℕ → ℕ → TypeRow
type_row_of level ident kind elem required =
    pick (row_holds level ident kind elem required)
    (record { level = level; ident = ident; kind = kind; elem = elem; required = eqb required 1 })
    no_row

-- the row of the five numbers at 5 · i
abbrev pub type_row_at : List ℕ → ℕ → TypeRow
type_row_at numbers i =
    type_row_of (get_or numbers (5 * i) 0)
    (get_or numbers (5 * i + 1) 0)
    (get_or numbers (5 * i + 2) 0)
    (get_or numbers (5 * i + 3) 0)
    (get_or numbers (5 * i + 4) 0)

-- the first n rows, and behind them rows that no table has
unfoldable pub type_rows_of : ℕ → List ℕ → List TypeRow
type_rows_of zero numbers = replicate 64 no_row
type_rows_of (suc n) numbers = set (type_rows_of n numbers) n (type_row_at numbers n)

-- ---- the table

-- How many rows: as the form says, if there are that many and the mark is 0 or 1.
unfoldable pub taken_of : Form → ℕ → ℕ
taken_of form len = pick (and (leb form.count 64) (and (leb (5 * form.count) len) (leb form.fixed 1))) form.count 0

unfoldable pub table_of : Form → List ℕ → Table
table_of form numbers =
    record {
      rows = type_rows_of (taken_of form (length numbers)) numbers;
      count = taken_of form (length numbers);
      width = form.width;
      fixed = eqb form.fixed 1;
    }

-- the verdict on a table by itself
abbrev pub table_verdict : Bool → ℕ
table_verdict true = 0
table_verdict false = 1
