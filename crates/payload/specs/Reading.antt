-- Reading a payload (document 01, Members and Verdicts).
use Rattle.std.specs.Prelude.{ℕ, zero, suc, ◌+◌, ◌-◌, ◌%◌, Bool, true, false, List, [], ◌∷◌, ◌++◌, length, take, drop, get_or, set, replicate, leb, ltb, eqb}
use Rattle.std.proofs.Math.Option.{Option, none, some}
use Rattle.wire.specs.Choose.{pick, and, or}
use Rattle.wire.specs.Number.{big, number_of}
use Rattle.wire.specs.Tag.{wire_of, ident_of, fixed_size, field_width}
use Rattle.wire.specs.Kind.{size_of, wire_fits, string, array, struct}
use Rattle.wire.specs.Text.{string_fits}
use Rattle.wire.specs.declared.verdict.Verdict.{Verdict}
use Rattle.wire.specs.declared.verdict.Verdict.TheVariants.{
  Accepted,
  Table as NoTable,
  Room,
  Large,
  TagCut,
  Wire,
  Twice,
  FieldCut,
  Overrun,
  Array,
  Text,
  Missing,
}
use Rattle.payload.specs.declared.table.TypeRow.{TypeRow}
use Rattle.payload.specs.declared.table.Table.{Table}
use Rattle.payload.specs.declared.row.Row.{Row}
use Rattle.payload.specs.declared.read.Reading.{Reading}
use Rattle.payload.specs.Table.{find, type_rows, row_at, table_fits}
use Rattle.payload.specs.Row.{absent_row, members_row, is_absent, shown_of}

-- The most bytes of a payload.
abbrev pub payload_most : ℕ
payload_most = 1400

-- ---- a member's content

-- Where a level's bytes are cut, with the verdict; or a content with its place, and the bytes behind it with theirs.
pub data Body : Type 0 where
  cut : Verdict → ℕ → Body
  content : ℕ → List ℕ → ℕ → List ℕ → Body

-- 24: content past the level's end
unfoldable pub content_of : ℕ → ℕ → List ℕ → Body
content_of n place bytes =
    pick (leb n (length bytes)) (content place (take n bytes) (place + n) (drop n bytes)) (cut Overrun place)

-- 23: length field past the level's end
unfoldable pub lengthed_of : ℕ → ℕ → List ℕ → Body
lengthed_of w place bytes =
    pick (leb w (length bytes)) (content_of (number_of big (take w bytes)) (place + w) (drop w bytes)) (cut FieldCut place)

-- what follows a tag
unfoldable pub body_of : ℕ → ℕ → ℕ → List ℕ → Body
body_of width wire place bytes =
    pick (ltb wire 4) (content_of (fixed_size wire) place bytes) (lengthed_of (field_width width wire) place bytes)

-- ---- a member

-- What stands at a place of a level: a refusal with its place; the level's end; an unknown member; a known one with its row; or a struct's
-- row with its content and the content's place. Then the place behind the member, and the level's bytes from there.
pub data Step : Type 0 where
  refuse : Verdict → ℕ → Step
  finish : Step
  skip : ℕ → List ℕ → Step
  leaf : ℕ → Row → ℕ → List ℕ → Step
  enter : ℕ → ℕ → List ℕ → ℕ → List ℕ → Step

-- An unknown Data ID is skipped by its wire type and length.
unfoldable pub unknown : Body → Step
unknown (cut v p) = refuse v p
unknown (content p c next bytes) = skip next bytes

-- 25, 26: an array's content is a multiple of its element size, a string's is mark, text and terminator
unfoldable pub content_fits : TypeRow → List ℕ → Bool
content_fits r c =
    pick (eqb r.kind array) (eqb (length c % size_of r.elem) 0)
    (pick (eqb r.kind string) (string_fits c)
    true)

unfoldable pub known : ℕ → TypeRow → Body → Step
known i r (cut v p) = refuse v p
known i r (content p c next bytes) =
    pick (eqb r.kind struct) (enter i p c next bytes)
    (pick (content_fits r c) (leaf i (shown_of r p c) next bytes)
    (refuse (pick (eqb r.kind array) Array Text) p))

-- 21 and 22 at the tag of a known member, before its content; a member is already met if its row isn't absent
unfoldable pub met : List TypeRow → ℕ → ℕ → ℕ → Body → List Row → Option ℕ → Step
met types first wire place body rows none = unknown body
met types first wire place body rows (some k) =
    pick (wire_fits (row_at types (first + k)).kind wire)
    (pick (is_absent (get_or rows (first + k) absent_row))
    (known (first + k) (row_at types (first + k)) body)
    (refuse Twice place))
    (refuse Wire place)

-- 20: one byte left at a level. Else two bytes are a tag.
unfoldable pub step_of : ℕ → List TypeRow → ℕ → ℕ → ℕ → List ℕ → List Row → Step
step_of width types l first place [] rows = finish
step_of width types l first place (a ∷ []) rows = refuse TagCut place
step_of width types l first place (a ∷ b ∷ bytes) rows =
    met types first (wire_of (number_of big (a ∷ b ∷ []))) place
    (body_of width (wire_of (number_of big (a ∷ b ∷ []))) (place + 2) bytes)
    rows
    (find l (ident_of (number_of big (a ∷ b ∷ []))) (drop first types))

-- ---- a level

-- A level that was refused, or its rows and the members skipped so far.
pub data Walked : Type 0 where
  refused : Verdict → ℕ → Walked
  walked : List Row → ℕ → Walked

-- A member that was refused, or the level's end, or the place behind a member with the level's bytes from there, the rows, the skipped.
pub data Moved : Type 0 where
  stopped : Verdict → ℕ → Moved
  ended : Moved
  moved : ℕ → List ℕ → List Row → ℕ → Moved

unfoldable pub behind : ℕ → List ℕ → Walked → Moved
behind next bytes (refused v p) = stopped v p
behind next bytes (walked rows n) = moved next bytes rows n

-- A member, where `inner` walks a struct's content: its first row, the content's place and bytes, the rows, the skipped. A struct that is
-- met is present before its members are.
unfoldable pub member_by : (ℕ → ℕ → List ℕ → List Row → ℕ → Walked) → List Row → ℕ → Step → Moved
member_by inner rows n (refuse v p) = stopped v p
member_by inner rows n finish = ended
member_by inner rows n (skip next bytes) = moved next bytes rows (suc n)
member_by inner rows n (leaf i r next bytes) = moved next bytes (set rows i r) n
member_by inner rows n (enter i p c next bytes) = behind next bytes (inner (suc i) p c (set rows i members_row) n)

-- a required row of a level is absent
unfoldable pub lacks : ℕ → List TypeRow → List Row → Bool
lacks l [] rows = false
lacks l (r ∷ rs) [] = false
lacks l (r ∷ rs) (v ∷ vs) =
    pick (ltb r.level l) false
    (or (and (eqb r.level l) (and r.required (is_absent v)))
    (lacks l rs vs))

-- 27: level ends without a required member
unfoldable pub end_of : List TypeRow → ℕ → ℕ → ℕ → List Row → ℕ → Walked
end_of types l first place rows n =
    pick (lacks l (drop first types) (drop first rows)) (refused Missing place) (walked rows n)

unfoldable pub level_by : (ℕ → List ℕ → List Row → ℕ → Walked) → Walked → Moved → Walked
level_by on end (stopped v p) = refused v p
level_by on end ended = end
level_by on end (moved next bytes rows n) = on next bytes rows n

-- The members of level l, whose first row is `first`, from a place on. Each turn takes a byte at least, so that more turns than bytes are
-- never used up.
unfoldable pub walk : ℕ → ℕ → List TypeRow → ℕ → ℕ → ℕ → List ℕ → List Row → ℕ → Walked
walk zero width types l first place bytes rows n = refused Overrun place
walk (suc turns) width types l first place bytes rows n =
    level_by (λ next more rows2 n2. walk turns width types l first next more rows2 n2)
    (end_of types l first place rows n)
    (member_by (λ i p c rows2 n2. walk turns width types (suc l) i p c rows2 n2) rows n
    (step_of width types l first place bytes rows))

-- ---- a payload

-- Level 1 has no length field and ends with the payload.
unfoldable pub walked_of : ℕ → List TypeRow → List ℕ → Walked
walked_of width types p = walk (suc (length p)) width types 1 0 0 p (replicate (length types) absent_row) 0

-- rows beyond those that are shown
abbrev pub full : List Row → List Row
full rows = rows ++ replicate (64 - length rows) absent_row

-- 1 and 2 change no row.
abbrev pub untouched : Verdict → Reading
untouched v = record { verdict = v; place = 0; skipped = 0; filled = 0; rows = full [] }

-- Other refusals set the first rows, as many as the type table has, to absent, and count nothing.
abbrev pub cleared : ℕ → Verdict → ℕ → Reading
cleared n v place = record { verdict = v; place = place; skipped = 0; filled = n; rows = full [] }

unfoldable pub answer_of : ℕ → Walked → Reading
answer_of n (refused v place) = cleared n v place
answer_of n (walked rows skipped) = record { verdict = Accepted; place = 0; skipped = skipped; filled = n; rows = full rows }

-- 17, then the walk
unfoldable pub checked_of : List ℕ → List TypeRow → ℕ → ℕ → Reading
checked_of p types count width =
    pick (ltb payload_most (length p)) (cleared count Large 0) (answer_of count (walked_of width types p))

-- 1, 2, then 17 and the walk. `room` is the number of lent rows.
unfoldable pub reading_of : List ℕ → Table → ℕ → Reading
reading_of p t room =
    pick (table_fits t)
    (pick (ltb room t.count) (untouched Room)
    (checked_of p (type_rows t) t.count t.width))
    (untouched NoTable)
