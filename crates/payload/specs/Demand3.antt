-- Demand 3: two tables, any order. Take two valid type tables with length fields of one width, where a Data ID standing in both, under the same
-- structs, has the same kind and element kind. Take any payload that the writer makes from one table, and put the members of each level in any
-- order. The reader, holding the other table and rows enough, shows each of its members as written, byte runs compared by their bytes, and
-- absent where none was written. The one exception is the refusal Missing, given exactly when a member that its table requires is absent at a
-- level that is present.
use Rattle.std.specs.Prelude.{◌≡◌, ℕ, ◌≤◌, ◌<◌, Bool, true, ◌⊎◌, List, [], ◌∷◌, ◌++◌, length, get_or, replicate}
use Rattle.std.proofs.Math.Option.{some}
use Rattle.wire.specs.Number.{AreBytes}
use Rattle.wire.specs.declared.verdict.Verdict.TheVariants.{Accepted, Missing}
use Rattle.payload.specs.declared.table.Table.{Table}
use Rattle.payload.specs.declared.row.Row.{Row}
use Rattle.payload.specs.declared.row.Value.TheVariants.{Absent, Members as Branch}
use Rattle.payload.specs.declared.read.Reading.{Reading}
use Rattle.payload.specs.Table.{type_rows, table_fits, row_at}
use Rattle.payload.specs.Row.{absent_row}
use Rattle.payload.specs.Reading.{reading_of}
use Rattle.payload.specs.Tree.{Members, mem, bytes_of}
use Rattle.payload.specs.Formed.{for_row, unknowns}
use Rattle.payload.specs.Writing.{tree_of, done, outcome_of}
use Rattle.payload.specs.Paths.{path_row}
use Rattle.payload.specs.Demand2.{Same, Handed}

-- ---- two tables

-- A Data ID standing in both tables under the same structs, that is a path which leads to a row in both, has one kind and one element kind.
-- Required marks, static marks and the order of rows may differ, and either table may know structs that the other doesn't.
abbrev pub Agree : Table → Table → Type 0
Agree t u = (path : List ℕ) (i j : ℕ) → path_row (type_rows t) 1 0 path ≡ some i → path_row (type_rows u) 1 0 path ≡ some j
    → ((row_at (type_rows t) i).kind ≡ (row_at (type_rows u) j).kind) × ((row_at (type_rows t) i).elem ≡ (row_at (type_rows u) j).elem)

-- The reader's table u beside the writer's t. That t is valid is part of what the writer accepts.
pub record TwoTables (t u : Table) : Type 0 where
  pub types_array : length u.rows ≡ 64
  pub reader_fits : table_fits u ≡ true
  pub one_width : t.width ≡ u.width
  pub agree : Agree t u

-- ---- any order

-- The members of each level in any order, inside structs too: neighbours change places, at any member and inside any, any number of times.
pub data Reordered : Members → Members → Type 0 where
  as_is : {m : Members} → Reordered m m
  swapped : {tag tag2 : ℕ} {s s2 : Bool} {c c2 : List ℕ} {inner inner2 after : Members}
      → Reordered (mem tag s c inner (mem tag2 s2 c2 inner2 after)) (mem tag2 s2 c2 inner2 (mem tag s c inner after))
  within : {tag : ℕ} {s : Bool} {c : List ℕ} {inner inner2 after after2 : Members} → Reordered inner inner2 → Reordered after after2
      → Reordered (mem tag s c inner after) (mem tag s c inner2 after2)
  again : {m m1 m2 : Members} → Reordered m m1 → Reordered m1 m2 → Reordered m m2

-- a member is taken out of a level, and the others are left
pub data Taken (tag : ℕ) (s : Bool) (c : List ℕ) (inner : Members) : Members → Members → Type 0 where
  taken_first : {after : Members} → Taken tag s c inner (mem tag s c inner after) after
  taken_later : {tag2 : ℕ} {s2 : Bool} {c2 : List ℕ} {inner2 after rest : Members} → Taken tag s c inner after rest
      → Taken tag s c inner (mem tag2 s2 c2 inner2 after) (mem tag2 s2 c2 inner2 rest)

-- Every order is among these: any member may come first, then any of the others.
abbrev pub AnyFirst : Type 0
AnyFirst = (tag : ℕ) (s : Bool) (c : List ℕ) (inner m rest : Members) → Taken tag s c inner m rest → Reordered m (mem tag s c inner rest)

-- ---- what was written

-- the writer's row under a path; absent where its table has none
unfoldable pub written_at : Table → List Row → List ℕ → Row
written_at t rows path = for_row (path_row (type_rows t) 1 0 path) absent_row (λ i. get_or rows i absent_row)

-- the level that a path leads to is present: level 1, or a struct that was written
pub data LevelThere (t : Table) (rows : List Row) : List ℕ → Type 0 where
  level_one : LevelThere t rows []
  in_struct : {path : List ℕ} → (written_at t rows path).value ≡ Branch → LevelThere t rows path

-- A member that the reader's table requires is absent at a level that is present.
pub record Lacking (t u : Table) (rows : List Row) : Type 0 where
  pub above : List ℕ
  pub ident : ℕ
  pub row : ℕ
  pub row_is : path_row (type_rows u) 1 0 (above ++ (ident ∷ [])) ≡ some row
  pub required_is : (row_at (type_rows u) row).required ≡ true
  pub level_there : LevelThere t rows above
  pub absent : (written_at t rows (above ++ (ident ∷ []))).value ≡ Absent

-- ---- what is read

-- a row's one path
pub record Reached (u : Table) (j : ℕ) : Type 0 where
  pub path : List ℕ
  pub leads : path_row (type_rows u) 1 0 path ≡ some j
  pub only : (path2 : List ℕ) → path_row (type_rows u) 1 0 path2 ≡ some j → path2 ≡ path

-- The reading `got` of the payload p, whose members are m, under the table u, where the writer's rows were `rows` under t.
pub record Arrives (t u : Table) (rows : List Row) (buf p : List ℕ) (m : Members) (got : Reading) : Type 0 where
  pub are_bytes : AreBytes p
  pub size_is : length p ≡ length (bytes_of t.width (tree_of t buf rows))
  pub verdict_is : (got.verdict ≡ Accepted) ⊎ (got.verdict ≡ Missing)
  pub missing_if : Lacking t u rows → got.verdict ≡ Missing
  pub missing_only : got.verdict ≡ Missing → Lacking t u rows
  pub missing_clears : got.verdict ≡ Missing → (got.rows ≡ replicate 64 absent_row) × (got.skipped ≡ 0)
  -- each row of u has one path, and shows what was written under it
  pub reached : (j : ℕ) → j < u.count → Reached u j
  pub shown : got.verdict ≡ Accepted → (path : List ℕ) (j : ℕ) → path_row (type_rows u) 1 0 path ≡ some j
      → Same buf p (written_at t rows path) (get_or got.rows j absent_row)
  pub skips : got.verdict ≡ Accepted → (got.skipped ≡ unknowns (type_rows u) 1 0 m) × (got.place ≡ 0)
  pub fills_all : got.filled ≡ u.count
  pub rows_array : length got.rows ≡ 64
  pub beyond : (i : ℕ) → u.count ≤ i → get_or got.rows i absent_row ≡ absent_row

-- The writer makes a payload from its rows under t, with any room and output, and its members are put in the order m, for a reader under u.
pub record Sent (t u : Table) (rows : List Row) (buf : List ℕ) (m : Members) : Type 0 where
  pub room : ℕ
  pub space : ℕ
  pub payload : List ℕ
  pub handed : Handed rows t buf
  pub makes : outcome_of rows room t buf space ≡ done payload
  pub two_tables : TwoTables t u
  pub reordered : Reordered (tree_of t buf rows) m

-- Demand 3, with rows enough.
abbrev pub Demand3Holds : Type 0
Demand3Holds =
    (t u : Table) (rows : List Row) (buf : List ℕ) (m : Members) (room : ℕ) → Sent t u rows buf m → u.count ≤ room
    → Arrives t u rows buf (bytes_of t.width m) m (reading_of (bytes_of t.width m) u room)

-- An optional member that the writer left out is absent in the reader's row, whatever else the message holds. (So is a required one.)
abbrev pub AbsentArrives : Type 0
AbsentArrives =
    (t u : Table) (rows : List Row) (buf : List ℕ) (m : Members) (room : ℕ) → Sent t u rows buf m → u.count ≤ room
    → (path : List ℕ) (j : ℕ) → path_row (type_rows u) 1 0 path ≡ some j → (written_at t rows path).value ≡ Absent
    → get_or (reading_of (bytes_of t.width m) u room).rows j absent_row ≡ absent_row
