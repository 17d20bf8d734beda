-- A type row as one number, a cell, as the code holds it: Data ID, level, kind, element kind, required. The definitions speak of the rows
-- that cells stand for.
use Rattle.std.specs.Prelude.{ℕ, zero, suc, ◌+◌, ◌*◌, ◌/◌, ◌%◌, ◌≤◌, ◌<◌, ◌≡◌, Bool, true, false, List, [], ◌∷◌, length, drop, get_or, eqb, Option, Some, None}
use Rattle.std.proofs.Math.Option.{Option as Place, none, some}
use Rattle.wire.specs.Kind.{array}
use Rattle.payload.specs.declared.table.TypeRow.{TypeRow}
use Rattle.payload.specs.declared.table.Table.{Table}
use Rattle.payload.specs.Table.{find, type_rows, table_fits}

abbrev pub bit_of : Bool → ℕ
bit_of true = 1
bit_of false = 0

abbrev pub cell_of : TypeRow → ℕ
cell_of r = ((r.ident * 16 + r.level) * 16 + r.kind) * 32 + r.elem * 2 + bit_of r.required

abbrev pub ident_in : ℕ → ℕ
ident_in c = c / 8192

abbrev pub level_in : ℕ → ℕ
level_in c = c / 512 % 16

abbrev pub kind_in : ℕ → ℕ
kind_in c = c / 32 % 16

abbrev pub elem_in : ℕ → ℕ
elem_in c = c / 2 % 16

abbrev pub required_in : ℕ → Bool
required_in c = eqb (c % 2) 1

-- the row of a cell
abbrev pub row_in : ℕ → TypeRow
row_in c = record { level = level_in c; ident = ident_in c; kind = kind_in c; elem = elem_in c; required = required_in c }

-- the rows of k cells from index i on
unfoldable pub rows_in : ℕ → ℕ → List ℕ → List TypeRow
rows_in zero i cells = []
rows_in (suc k) i cells = row_in (get_or cells i 0) ∷ rows_in k (suc i) cells

-- the rows of the first n cells
unfoldable pub table_in : ℕ → List ℕ → List TypeRow
table_in n cells = rows_in n 0 cells

-- what the code needs of a row of a checked table
pub record FineRow (r : TypeRow) : Type 0 where
  pub kind_some : 0 < r.kind
  pub kind_in_lem : r.kind < 15
  pub level_some : 1 ≤ r.level
  pub level_in_lem : r.level ≤ 4
  pub ident_in_lem : r.ident < 4096
  pub elem_in_lem : r.elem < 12
  pub array_in : r.kind ≡ array → 0 < r.elem

pub record FineTable (n : ℕ) (cells : List ℕ) : Type 0 where
  pub few : n ≤ 64
  pub each : (i : ℕ) → i < n → FineRow (row_in (get_or cells i 0))

-- what every checked table keeps: fine rows, and length fields of four bytes at most
pub record SoundTable (cells : List ℕ) (n width : ℕ) : Type 0 where
  pub fine : FineTable n cells
  pub width_in : width ≤ 4

-- ---- a search

-- the row that is found, counted from the table's first row
abbrev pub found_at : ℕ → Place ℕ → Option ℕ
found_at first none = None
found_at first (some k) = Some (first + k)

-- the search for the row of a Data ID at a level, from row i on, among the first n
abbrev pub search_at : ℕ → List ℕ → ℕ → ℕ → ℕ → Option ℕ
search_at n cells l x i = found_at i (find l x (drop i (table_in n cells)))

-- what is found is a row of the table, at the level
abbrev pub Within : List ℕ → ℕ → ℕ → ℕ → Option ℕ → Type 0
Within cells first count l (Some i) = (first ≤ i) × (i < count) × (level_in (get_or cells i 0) ≡ l)
Within cells first count l None = Unit {0}

-- From `first` to `stop` no row is above the level; there the table ends, or a row above the level stands.
pub record Stops (cells : List ℕ) (first stop count l : ℕ) : Type 0 where
  pub from : first ≤ stop
  pub to : stop ≤ count
  pub deep : (i : ℕ) → first ≤ i → i < stop → l ≤ level_in (get_or cells i 0)
  pub shut : stop < count → level_in (get_or cells stop 0) < l

-- ---- the check

-- the cells of a table that keeps its rules
pub record Filled (t : Table) (cells : List ℕ) : Type 0 where
  pub rows_are : table_in t.count cells ≡ type_rows t
  pub fine : FineTable t.count cells
  pub width_in : t.width ≤ 4
  pub count_some : 0 < t.count

-- the answer to a check, and the cells that it leaves
pub record Checked (t : Table) (cells : List ℕ) (fits : Bool) : Type 0 where
  pub answer : fits ≡ table_fits t
  pub long : length cells ≡ 64
  pub filled : fits ≡ true → Filled t cells
