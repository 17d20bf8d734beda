-- The type table (document 01, Type table).
use Rattle.std.specs.Prelude.{ℕ, suc, ◌≤◌, ◌<◌, ◌≡◌, Bool, true, false, ◌⊎◌, List, [], ◌∷◌, length, take, get_or, leb, ltb, eqb}
use Rattle.std.proofs.Math.Option.{Option, none, some}
use Rattle.wire.specs.Choose.{pick, and}
use Rattle.wire.specs.Kind.{array, struct}
use Rattle.payload.specs.declared.table.TypeRow.{TypeRow}
use Rattle.payload.specs.declared.table.Table.{Table}

-- ---- a row

abbrev pub in_range : ℕ → ℕ → ℕ → Bool
in_range least most x = and (leb least x) (leb x most)

-- An array's element kind is 1 to 11; every other row has element kind 0.
abbrev pub elem_fits : TypeRow → Bool
elem_fits r = pick (eqb r.kind array) (in_range 1 11 r.elem) (eqb r.elem 0)

-- A struct stands at level 1 to 3 only.
abbrev pub struct_fits : TypeRow → Bool
struct_fits r = pick (eqb r.kind struct) (leb r.level 3) true

-- Each row: level 1 to 4, Data ID 0 to 4,095, one of the fourteen kinds. Its level may be at most `most`.
unfoldable pub row_fits : ℕ → TypeRow → Bool
row_fits most r =
    and (in_range 1 4 r.level)
    (and (leb r.level most)
    (and (leb r.ident 4095)
    (and (in_range 1 14 r.kind)
    (and (elem_fits r)
    (struct_fits r)))))

-- A row's level is at most the level before it, or one more if the row before is a struct.
abbrev pub level_most : TypeRow → ℕ
level_most r = pick (eqb r.kind struct) (suc r.level) r.level

unfoldable pub rows_fit : ℕ → List TypeRow → Bool
rows_fit most [] = true
rows_fit most (r ∷ rs) = and (row_fits most r) (rows_fit (level_most r) rs)

-- ---- the rows of a level

unfoldable pub later : Option ℕ → Option ℕ
later none = none
later (some i) = some (suc i)

-- Of the rows from a level's first on, the direct member with a Data ID. Deeper rows belong to the level's structs; a row above the
-- level ends it.
unfoldable pub find : ℕ → ℕ → List TypeRow → Option ℕ
find l x [] = none
find l x (r ∷ rs) =
    pick (ltb r.level l) none
    (pick (and (eqb r.level l) (eqb r.ident x)) (some 0)
    (later (find l x rs)))

abbrev pub is_none : Option ℕ → Bool
is_none none = true
is_none (some i) = false

-- Data IDs differ among the direct members of one struct and among the rows of level 1: no later row beside a row has its Data ID.
unfoldable pub idents_differ : List TypeRow → Bool
idents_differ [] = true
idents_differ (r ∷ rs) = and (is_none (find r.level r.ident rs)) (idents_differ rs)

-- ---- the table

-- the rows that count
abbrev pub type_rows : Table → List TypeRow
type_rows t = take t.count t.rows

-- A length width of 1, 2 or 4.
abbrev pub width_fits : ℕ → Bool
width_fits w = pick (eqb w 1) true (pick (eqb w 2) true (eqb w 4))

-- 1 to 64 rows; the first row has level 1.
unfoldable pub table_fits : Table → Bool
table_fits t =
    and (in_range 1 64 t.count)
    (and (width_fits t.width)
    (and (rows_fit 1 (type_rows t))
    (idents_differ (type_rows t))))

abbrev pub no_row : TypeRow
no_row = record { level = 0; ident = 0; kind = 0; elem = 0; required = false }

abbrev pub row_at : List TypeRow → ℕ → TypeRow
row_at types i = get_or types i no_row

-- ---- the rules, as the paper has them

-- Each row: level 1 to 4, Data ID 0 to 4,095, kind, element kind; a struct stands at level 1 to 3 only.
pub record RowRules (r : TypeRow) : Type 0 where
  pub level_least : 1 ≤ r.level
  pub level_most_lem : r.level ≤ 4
  pub ident_most : r.ident ≤ 4095
  pub kind_least : 1 ≤ r.kind
  pub kind_most : r.kind ≤ 14
  pub array_elem : r.kind ≡ array → (1 ≤ r.elem) × (r.elem ≤ 11)
  pub other_elem : (r.kind ≡ array → ⊥) → r.elem ≡ 0
  pub struct_level : r.kind ≡ struct → r.level ≤ 3

-- A row's level is at most the level before it, or one more if the row before is a struct.
abbrev pub NextLevel : TypeRow → TypeRow → Type 0
NextLevel before r = (r.level ≤ before.level) ⊎ ((before.kind ≡ struct) × (r.level ≡ suc before.level))

-- Rows i and j are direct members of one struct, or both of level 1: they have one level, and no row between them is above it.
pub record Beside (types : List TypeRow) (i j : ℕ) : Type 0 where
  pub order : i < j
  pub inside : j < length types
  pub level_is : (row_at types j).level ≡ (row_at types i).level
  pub between : (m : ℕ) → i < m → m < j → (row_at types i).level ≤ (row_at types m).level

pub record TableRules (t : Table) : Type 0 where
  pub count_least : 1 ≤ t.count
  pub count_most : t.count ≤ 64
  pub width_is : (t.width ≡ 1) ⊎ (t.width ≡ 2) ⊎ (t.width ≡ 4)
  pub each_row : (i : ℕ) → i < t.count → RowRules (row_at (type_rows t) i)
  pub first_level : (row_at (type_rows t) 0).level ≡ 1
  pub next_level : (i : ℕ) → suc i < t.count → NextLevel (row_at (type_rows t) i) (row_at (type_rows t) (suc i))
  pub idents_differ_lem : (i j : ℕ) → Beside (type_rows t) i j → (row_at (type_rows t) i).ident ≡ (row_at (type_rows t) j).ident → ⊥

-- Row i is the direct member with Data ID x of the level l whose first row is `first`.
pub record RowOf (types : List TypeRow) (l first x i : ℕ) : Type 0 where
  pub after : first ≤ i
  pub inside : i < length types
  pub level_is : (row_at types i).level ≡ l
  pub ident_is : (row_at types i).ident ≡ x
  pub deep : (m : ℕ) → first ≤ m → m ≤ i → l ≤ (row_at types m).level
