-- Paths of Data IDs (demand 3: "a Data ID standing in both, under the same structs"): the row that a path leads to in a table, what it finds in
-- a tree of members, and what that row shows of it. The order of a level's members plays no part.
use Rattle.std.specs.Prelude.{◌≡◌, ℕ, suc, ◌+◌, Bool, true, false, List, [], ◌∷◌, ◌++◌, length, drop, get_or, replicate, eqb}
use Rattle.std.proofs.Math.Option.{Option, none, some}
use Rattle.wire.specs.Choose.{pick}
use Rattle.wire.specs.Number.{AreBytes}
use Rattle.wire.specs.Tag.{ident_of}
use Rattle.wire.specs.Kind.{struct}
use Rattle.wire.specs.declared.verdict.Verdict.TheVariants.{Missing}
use Rattle.payload.specs.declared.table.TypeRow.{TypeRow}
use Rattle.payload.specs.declared.table.Table.{Table}
use Rattle.payload.specs.declared.row.Row.{Row}
use Rattle.payload.specs.declared.read.Reading.{Reading}
use Rattle.payload.specs.Table.{find, type_rows, row_at}
use Rattle.payload.specs.Row.{absent_row, members_row, shown_of}
use Rattle.payload.specs.Reading.{content_fits, cleared, reading_of}
use Rattle.payload.specs.Tree.{Members, stop, mem, bytes_of}
use Rattle.payload.specs.Formed.{row_for, for_row, unknowns, Framed, KnownAs}
use Rattle.payload.specs.Outcome.{Walks, accepted}
use Rattle.payload.specs.Writing.{Put, nothing, leaf, branch}

-- x at the end of a path, y before it
unfoldable pub at_end {ℓ} : {X : Type ℓ} → List ℕ → X → X → X
at_end [] x y = x
at_end (i ∷ path) x y = y

-- The row that a path leads to, from the level l on whose first row is `first`: of each level the row with the next Data ID.
unfoldable pub path_row : List TypeRow → ℕ → ℕ → List ℕ → Option ℕ
path_row types l first [] = none
path_row types l first (x ∷ path) =
    for_row (find l x (drop first types)) none (λ k.
    at_end path (some (first + k)) (path_row types (suc l) (suc (first + k)) path))

-- What a path finds among a level's members: nothing, a leaf's content, or a struct.
unfoldable pub at_path : Members → List ℕ → Put
at_path stop path = nothing
at_path (mem tag s c inner after) [] = nothing
at_path (mem tag s c inner after) (x ∷ path) =
    pick (eqb (ident_of tag) x)
    (pick s (at_end path branch (at_path inner path)) (at_end path (leaf c) nothing))
    (at_path after (x ∷ path))

-- ---- what a row shows

-- the bytes c stand in p at a place
pub record Lies (p : List ℕ) (place : ℕ) (c : List ℕ) : Type 0 where
  pub before : List ℕ
  pub behind : List ℕ
  pub whole : p ≡ before ++ (c ++ behind)
  pub place_is : length before ≡ place

-- A row, of type r and `old` before, shows what its path finds: as it was for nothing; a leaf's content, which fits it, at a place of p where it
-- stands; that a struct is present.
pub data Shows (p : List ℕ) (r : TypeRow) (old : Row) : Put → Row → Type 0 where
  shows_nothing : Shows p r old nothing old
  shows_leaf : {place : ℕ} {c : List ℕ} → eqb r.kind struct ≡ false → content_fits r c ≡ true → Lies p place c
      → Shows p r old (leaf c) (shown_of r place c)
  shows_branch : Shows p r old branch members_row

-- Every row of a level, and below it, shows what its path finds.
abbrev pub ByPath : List ℕ → List TypeRow → ℕ → ℕ → Members → List Row → List Row → Type 0
ByPath p types l first m old rows =
    (path : List ℕ) (j : ℕ) → path_row types l first path ≡ some j
    → Shows p (row_at types j) (get_or old j absent_row) (at_path m path) (get_or rows j absent_row)

-- ---- what may be missing

-- the level that a path leads to is present: the path's start, or a struct that is there
pub data Present (m : Members) : List ℕ → Type 0 where
  at_start : Present m []
  at_struct : {path : List ℕ} → at_path m path ≡ branch → Present m path

-- A required row lacks its member at a level that is present.
pub record LacksAt (types : List TypeRow) (l first : ℕ) (m : Members) (above : List ℕ) : Type 0 where
  pub ident : ℕ
  pub row : ℕ
  pub row_is : path_row types l first (above ++ (ident ∷ [])) ≡ some row
  pub required_is : (row_at types row).required ≡ true
  pub present : Present m above
  pub absent : at_path m (above ++ (ident ∷ [])) ≡ nothing

-- The members of a level fit their rows, whatever may be missing. A struct that no row knows is skipped as one content.
pub data Fits (width : ℕ) (types : List TypeRow) : ℕ → ℕ → Members → Type 0 where
  fits_stop : {l first : ℕ} → Fits width types l first stop
  fits_unknown : {l first tag : ℕ} {s : Bool} {c : List ℕ} {inner after : Members}
      → Framed width tag (pick s (bytes_of width inner) c) → AreBytes (pick s (bytes_of width inner) c)
      → row_for types l first tag ≡ none
      → Fits width types l first after
      → Fits width types l first (mem tag s c inner after)
  fits_leaf : {l first tag k : ℕ} {c : List ℕ} {after : Members}
      → Framed width tag c → AreBytes c
      → KnownAs types l first tag k after
      → eqb (row_at types (first + k)).kind struct ≡ false
      → content_fits (row_at types (first + k)) c ≡ true
      → Fits width types l first after
      → Fits width types l first (mem tag false c stop after)
  fits_struct : {l first tag k : ℕ} {inner after : Members}
      → Framed width tag (bytes_of width inner)
      → KnownAs types l first tag k after
      → eqb (row_at types (first + k)).kind struct ≡ true
      → Fits width types (suc l) (suc (first + k)) inner
      → Fits width types l first after
      → Fits width types l first (mem tag true [] inner after)

-- ---- reading by paths

-- What a payload p is read as under a table whose rows fit its tree m: each row shows what its path finds and the unknown members are counted, if
-- no level that is present lacks a required member; else it is refused as Missing.
pub data TreeRead (t : Table) (p : List ℕ) (m : Members) : Reading → Type 0 where
  all_there : (rows : List Row) → ((above : List ℕ) → LacksAt (type_rows t) 1 0 m above → ⊥) → length rows ≡ length (type_rows t)
      → ByPath p (type_rows t) 1 0 m (replicate (length (type_rows t)) absent_row) rows
      → TreeRead t p m (accepted t.count rows (unknowns (type_rows t) 1 0 m))
  one_missing : {above : List ℕ} {place : ℕ} → LacksAt (type_rows t) 1 0 m above → TreeRead t p m (cleared t.count Missing place)

abbrev pub ReadByPaths : Type 0
ReadByPaths = (t : Table) (room : ℕ) (p : List ℕ) (m : Members) → p ≡ bytes_of t.width m → Walks p t room → Fits t.width (type_rows t) 1 0 m
    → TreeRead t p m (reading_of p t room)
