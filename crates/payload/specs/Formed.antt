-- Which trees of members a table reads, and what their reading gives (document 01, Members): a payload of bytes is accepted exactly when it
-- is the bytes of such a tree.
use Rattle.std.specs.Prelude.{◌≡◌, ℕ, suc, ◌+◌, ◌^◌, ◌<◌, Bool, true, false, not, List, [], ◌∷◌, length, drop, set, replicate, ltb, eqb}
use Rattle.std.proofs.Math.Option.{Option, none, some}
use Rattle.wire.specs.Choose.{pick, and, or}
use Rattle.wire.specs.Number.{AreBytes}
use Rattle.wire.specs.Tag.{wire_of, ident_of, fixed_size, field_width}
use Rattle.wire.specs.Kind.{wire_fits, struct}
use Rattle.payload.specs.declared.table.TypeRow.{TypeRow}
use Rattle.payload.specs.declared.row.Row.{Row}
use Rattle.payload.specs.Table.{find, row_at}
use Rattle.payload.specs.Row.{absent_row, members_row, shown_of}
use Rattle.payload.specs.Reading.{content_fits, walked, walked_of}
use Rattle.payload.specs.Tree.{Members, stop, mem, bytes_of}

-- ---- a member among its level's rows

-- of the level's rows, the one that has the member's Data ID; counted from the level's first row
abbrev pub row_for : List TypeRow → ℕ → ℕ → ℕ → Option ℕ
row_for types l first tag = find l (ident_of tag) (drop first types)

-- x for an unknown member, f of a known one's row
unfoldable pub for_row {ℓ} : {X : Type ℓ} → Option ℕ → X → (ℕ → X) → X
for_row none x f = x
for_row (some k) x f = f k

-- ---- what a tree's reading gives

-- the bytes of a length field; wire types 0 to 3 have none
unfoldable pub field_size : ℕ → ℕ → ℕ
field_size width wire = pick (ltb wire 4) 0 (field_width width wire)

-- where a member's content begins: behind tag and length field
abbrev pub content_at : ℕ → ℕ → ℕ → ℕ
content_at width tag place = place + 2 + field_size width (wire_of tag)

-- The members that no row of their level has. Nothing inside an unknown member is counted.
unfoldable pub unknowns : List TypeRow → ℕ → ℕ → Members → ℕ
unknowns types l first stop = 0
unknowns types l first (mem tag s c inner after) =
    for_row (row_for types l first tag) 1 (λ k. pick s (unknowns types (suc l) (suc (first + k)) inner) 0) + unknowns types l first after

-- The rows after a level's members, the first of which stands at a place: a leaf's row shows its content; a struct's row shows that it is
-- present, then its members fill theirs.
unfoldable pub filled : ℕ → List TypeRow → ℕ → ℕ → ℕ → Members → List Row → List Row
filled width types l first place stop rows = rows
filled width types l first place (mem tag s c inner after) rows =
    filled width types l first (content_at width tag place + length (pick s (bytes_of width inner) c)) after
    (for_row (row_for types l first tag) rows (λ k.
    pick s (filled width types (suc l) (suc (first + k)) (content_at width tag place) inner (set rows (first + k) members_row))
    (set rows (first + k) (shown_of (row_at types (first + k)) (content_at width tag place) c))))

-- ---- which trees a table reads

-- a member of the level has a Data ID
unfoldable pub has : ℕ → Members → Bool
has x stop = false
has x (mem tag s c inner after) = or (eqb (ident_of tag) x) (has x after)

-- a required row of the level has no member
unfoldable pub misses : ℕ → List TypeRow → Members → Bool
misses l [] m = false
misses l (r ∷ rs) m =
    pick (ltb r.level l) false
    (or (and (eqb r.level l) (and r.required (not (has r.ident m))))
    (misses l rs m))

-- A content's length is the one that the wire type says, or one that the length field can say.
unfoldable pub length_fits : ℕ → ℕ → ℕ → Bool
length_fits width wire n = pick (ltb wire 4) (eqb n (fixed_size wire)) (ltb n (256 ^ field_width width wire))

-- tag and length field can be written
pub record Framed (width tag : ℕ) (c : List ℕ) : Type 0 where
  pub tag_fits : tag < 65536
  pub length_fits_lem : length_fits width (wire_of tag) (length c) ≡ true

-- A member is known as row k of its level: its wire type is its kind's, and no member after it has its Data ID.
pub record KnownAs (types : List TypeRow) (l first tag k : ℕ) (after : Members) : Type 0 where
  pub found : row_for types l first tag ≡ some k
  pub wire_fits_lem : wire_fits (row_at types (first + k)).kind (wire_of tag) ≡ true
  pub once : has (ident_of tag) after ≡ false

-- The members of a level fit their rows. An unknown member is a leaf; a known one is a struct exactly if its row is.
pub data Each (width : ℕ) (types : List TypeRow) : ℕ → ℕ → Members → Type 0 where
  each_stop : {l first : ℕ} → Each width types l first stop
  each_unknown : {l first tag : ℕ} {c : List ℕ} {after : Members}
      → Framed width tag c → AreBytes c
      → row_for types l first tag ≡ none
      → Each width types l first after
      → Each width types l first (mem tag false c stop after)
  each_leaf : {l first tag k : ℕ} {c : List ℕ} {after : Members}
      → Framed width tag c → AreBytes c
      → KnownAs types l first tag k after
      → eqb (row_at types (first + k)).kind struct ≡ false
      → content_fits (row_at types (first + k)) c ≡ true
      → Each width types l first after
      → Each width types l first (mem tag false c stop after)
  each_struct : {l first tag k : ℕ} {inner after : Members}
      → Framed width tag (bytes_of width inner)
      → KnownAs types l first tag k after
      → eqb (row_at types (first + k)).kind struct ≡ true
      → Each width types (suc l) (suc (first + k)) inner
      → misses (suc l) (drop (suc (first + k)) types) inner ≡ false
      → Each width types l first after
      → Each width types l first (mem tag true [] inner after)

-- The members of a level fit their rows, and no required row lacks its member.
pub record Formed (width : ℕ) (types : List TypeRow) (l first : ℕ) (m : Members) : Type 0 where
  pub each : Each width types l first m
  pub whole : misses l (drop first types) m ≡ false

-- ---- a payload

-- A payload is the bytes of a tree that gives these rows and this number of unknown members.
pub record TreeOf (width : ℕ) (types : List TypeRow) (p : List ℕ) (rows : List Row) (n : ℕ) : Type 0 where
  pub tree : Members
  pub formed : Formed width types 1 0 tree
  pub bytes_are : bytes_of width tree ≡ p
  pub rows_are : filled width types 1 0 0 tree (replicate (length types) absent_row) ≡ rows
  pub count_is : unknowns types 1 0 tree ≡ n

-- A payload of bytes is accepted exactly when it has such a tree.
pub record TreeLaw (width : ℕ) (types : List TypeRow) (p : List ℕ) (rows : List Row) (n : ℕ) : Type 0 where
  pub read_tree : AreBytes p → walked_of width types p ≡ walked rows n → TreeOf width types p rows n
  pub tree_read : TreeOf width types p rows n → walked_of width types p ≡ walked rows n
  pub tree_bytes : TreeOf width types p rows n → AreBytes p
