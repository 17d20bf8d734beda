-- What the reader's own state stands for. The code walks by places; a walker keeps the rows of the members that were met.
use Rattle.std.specs.Prelude.{ℕ, suc, ◌+◌, ◌-◌, ◌≤◌, ◌<◌, ◌≡◌, List, length, take, drop, get_or, Result, Ok, Err, IfOk}
use Rattle.std.proofs.Math.Seq.{slice}
use Rattle.wire.specs.Choose.{pick}
use Rattle.wire.specs.Kind.{wire_fits}
use Rattle.wire.specs.declared.verdict.Verdict.TheVariants.{Wire, Twice}
use Rattle.payload.specs.declared.table.TypeRow.{TypeRow}
use Rattle.payload.specs.declared.row.Row.{Row}
use Rattle.payload.specs.declared.member.Span.{Span}
use Rattle.payload.specs.declared.member.Refusal.{Refusal}
use Rattle.payload.specs.declared.read.Level.{Level}
use Rattle.payload.specs.declared.read.Walker.{Walker}
use Rattle.payload.specs.Table.{row_at}
use Rattle.payload.specs.Cells.{table_in, Stops}
use Rattle.payload.specs.Row.{absent_row, is_absent}
use Rattle.payload.specs.Reading.{
  Body,
  cut,
  content,
  body_of,
  Step,
  refuse,
  leaf,
  known,
  step_of,
  Walked,
  refused,
  walked,
  Moved,
  stopped,
  moved,
  member_by,
  walk,
}

-- ---- a member's content

-- the body that a content is, in a level of p that ends at `end`
abbrev pub body_in : List ℕ → ℕ → Result Span Refusal → Body
body_in p end (Ok c) = content c.from (slice c.from c.end p) c.end (slice c.end end p)
body_in p end (Err e) = cut e.verdict e.place

-- a content lies between two places
abbrev pub Inside : ℕ → ℕ → Result Span Refusal → Type 0
Inside a b (Ok c) = (a ≤ c.from) × (c.from ≤ c.end) × (c.end ≤ b)
Inside a b (Err e) = Unit {0}

-- the step that the row of a leaf is, or its refusal
abbrev pub leaf_in : ℕ → ℕ → List ℕ → Result Row Refusal → Step
leaf_in i next bytes (Ok r) = leaf i r next bytes
leaf_in i next bytes (Err e) = refuse e.verdict e.place

-- This is the row that a content shows whose type is t, or its refusal.
pub record RowShown (p : List ℕ) (t : TypeRow) (c : Span) (r : Result Row Refusal) : Type 0 where
  pub is : (i next : ℕ) (bytes : List ℕ) → leaf_in i next bytes r ≡ known i t (content c.from (slice c.from c.end p) next bytes)

-- ---- a walker

-- its table's rows
abbrev pub types_in : Walker → List TypeRow
types_in w = table_in w.table.now.count w.table.now.cells

-- what it kept of them
abbrev pub met_in : Walker → List Row
met_in w = take w.table.now.count w.rows

-- a level whose members a walker may read
pub record Steady (w : Walker) (f : Level) : Type 0 where
  pub low : f.number ≤ 5
  pub bounded : f.span.end ≤ length w.bytes.now
  pub stops : Stops w.table.now.cells f.first f.stop w.table.now.count f.number

-- from this place on
pub record Ready (w : Walker) (at : ℕ) (f : Level) : Type 0 where
  pub steady : Steady w f
  pub inside : at ≤ f.span.end
  pub few : w.skipped ≤ at
  pub long : length w.rows ≡ 64

-- a walker went on: it has the same bytes and table, and rows beyond the table's did not change
pub record Onto (w w2 : Walker) : Type 0 where
  pub bytes_are : w2.bytes ≡ w.bytes
  pub table_is : w2.table ≡ w.table
  pub beyond : drop w.table.now.count w2.rows ≡ drop w.table.now.count w.rows
  pub long : length w2.rows ≡ 64

-- the level of a struct's members, whose rows stop at a row
abbrev pub inner_of : ℕ → ℕ → Span → ℕ → Level
inner_of number row c stop = record { number = number + 1; first = row + 1; stop = stop; span = c }

-- ---- the walk

abbrev pub walk_in : Walker → Result (Unit {0}) Refusal → Walked
walk_in w (Ok u) = walked (met_in w) w.skipped
walk_in w (Err e) = refused e.verdict e.place

abbrev pub moved_in : Walker → ℕ → Result ℕ Refusal → Moved
moved_in w end (Ok next) = moved next (slice next end w.bytes.now) (met_in w) w.skipped
moved_in w end (Err e) = stopped e.verdict e.place

-- the walk of a level from a place on
abbrev pub walk_from : ℕ → Walker → ℕ → Level → Walked
walk_from turns w at f =
    walk turns w.table.now.width (types_in w) f.number f.first at (slice at f.span.end w.bytes.now) (met_in w) w.skipped

-- what a step comes to, where a struct's content is walked with so many turns
abbrev pub move_by : ℕ → Walker → Level → Step → Moved
move_by turns w f s =
    member_by (λ i place bytes rows n. walk turns w.table.now.width (types_in w) (suc f.number) i place bytes rows n)
    (met_in w) w.skipped s

-- the body behind the tag at a place
abbrev pub body_at : Walker → ℕ → ℕ → Level → Body
body_at w wire at f = body_of w.table.now.width wire (at + 2) (slice (at + 2) f.span.end w.bytes.now)

-- the step of a known member of row i, whose tag stands at a place
abbrev pub known_step : Walker → ℕ → ℕ → ℕ → Level → Step
known_step w i wire at f =
    pick (wire_fits (row_at (types_in w) i).kind wire)
    (pick (is_absent (get_or (met_in w) i absent_row))
    (known i (row_at (types_in w) i) (body_at w wire at f))
    (refuse Twice at))
    (refuse Wire at)

-- a member's end lies behind its tag, and fewer members than bytes were skipped
abbrev pub Onward : Walker → ℕ → ℕ → Result ℕ Refusal → Type 0
Onward w least most r = IfOk r (λ next. (least ≤ next) × (next ≤ most) × (w.skipped ≤ next))

-- A known member was read: a struct's content is walked with any number of turns that is at least the bytes that were left.
pub record KnownRead (w : Walker) (i wire at : ℕ) (f : Level) (r : Result ℕ Refusal) (w2 : Walker) : Type 0 where
  pub is : (turns : ℕ) → f.span.end - at ≤ turns → moved_in w2 f.span.end r ≡ move_by turns w f (known_step w i wire at f)
  pub onto : Onto w w2
  pub onward : Onward w2 (suc at) f.span.end r

-- A member was read.
pub record MemberRead (w : Walker) (at : ℕ) (f : Level) (r : Result ℕ Refusal) (w2 : Walker) : Type 0 where
  pub is : (turns : ℕ) → f.span.end - at ≤ turns
      → moved_in w2 f.span.end r
      ≡ move_by turns w f (step_of w.table.now.width (types_in w) f.number f.first at (slice at f.span.end w.bytes.now) (met_in w))
  pub onto : Onto w w2
  pub onward : Onward w2 (suc at) f.span.end r

-- A level was read from a place on: the walk with any number of turns above the bytes that were left.
pub record LevelRead (w : Walker) (at : ℕ) (f : Level) (r : Result (Unit {0}) Refusal) (w2 : Walker) : Type 0 where
  pub is : (turns : ℕ) → f.span.end - at < turns → walk_in w2 r ≡ walk_from turns w at f
  pub onto : Onto w w2
  pub few : IfOk r (λ u. w2.skipped ≤ f.span.end)
