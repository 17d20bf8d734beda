-- What the writer's passes make of rows that fit: the parts from a row on, what a struct holds, and the bytes of all.
use Rattle.std.specs.Prelude.{ℕ, suc, ◌<◌, ◌≡◌, List, ◌++◌, length, drop, get_or, eqb}
use Rattle.wire.specs.Choose.{pick}
use Rattle.wire.specs.Number.{big, number_bytes}
use Rattle.wire.specs.Tag.{tag_of}
use Rattle.wire.specs.Kind.{kind_at, size_of, string}
use Rattle.wire.specs.Text.{string_bytes}
use Rattle.wire.specs.Part.{run_of}
use Rattle.payload.specs.declared.row.Row.{Row}
use Rattle.payload.specs.declared.fine.FineRows.{FineRows}
use Rattle.payload.specs.Cells.{ident_in, level_in, kind_in, row_in, table_in}
use Rattle.payload.specs.Row.{absent_row}
use Rattle.payload.specs.Writing.{Part, tag_for, put_of, parts_of, nested, Outcome, sized_of}
use Rattle.payload.specs.Parts.{piece, under}

-- the cell of row i, and its value row
abbrev pub cell_at : FineRows → ℕ → ℕ
cell_at f i = get_or f.table.now.cells i 0

abbrev pub value_at : FineRows → ℕ → Row
value_at f i = get_or f.rows.now i absent_row

-- the parts of the rows from row i on
abbrev pub parts_at : FineRows → ℕ → List Part
parts_at f i = parts_of f.wire f.content.now (drop i (table_in f.table.now.count f.table.now.cells)) (drop i f.rows.now)

-- their bytes
abbrev pub bytes_at : FineRows → ℕ → List ℕ
bytes_at f i = under f.table.now.width 1 (parts_at f i)

-- the bytes of row i's own member, where a struct holds n bytes
abbrev pub piece_at : FineRows → ℕ → ℕ → List ℕ
piece_at f i n =
    piece f.table.now.width (tag_for f.wire (row_in (cell_at f i)))
    (put_of f.content.now (row_in (cell_at f i)) (value_at f i).value (value_at f i).bits) n

-- the bytes below row i, which it holds if it is a struct
abbrev pub held_at : FineRows → ℕ → ℕ
held_at f i = length (under f.table.now.width (suc (level_in (cell_at f i))) (parts_at f (suc i)))

-- what each struct holds, row by row
abbrev pub Holds : FineRows → List ℕ → Type 0
Holds f held = (i : ℕ) → i < f.table.now.count → get_or held i 0 ≡ held_at f i

-- ---- members, as they are stored

-- a number: tag and number
abbrev pub number_member : ℕ → ℕ → List ℕ
number_member cell num =
    number_bytes big 2 (tag_of 0 (kind_at (kind_in cell)).wire (ident_in cell)) ++ number_bytes big (size_of (kind_in cell)) num

-- what stands before a content of n bytes: tag and length field
abbrev pub field_start : FineRows → ℕ → ℕ → List ℕ
field_start f cell n = number_bytes big 2 (tag_of 0 f.wire (ident_in cell)) ++ number_bytes big f.table.now.width n

-- the content of a string or an array
abbrev pub run_content : FineRows → ℕ → ℕ → ℕ → List ℕ
run_content f cell place len =
    pick (eqb (kind_in cell) string) (string_bytes (run_of f.content.now place len)) (run_of f.content.now place len)

-- ---- the outcome

-- 32, 33, then 2 for the output
abbrev pub fine_outcome : FineRows → ℕ → Outcome
fine_outcome f space = sized_of f.table.now.width (nested 1 (parts_at f 0)) space
