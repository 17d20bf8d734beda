-- The five outcomes of a reading, with what decides each (document 01, Verdicts); and which payloads are accepted.
use Rattle.std.specs.Prelude.{◌≡◌, ℕ, ◌≤◌, ◌<◌, Bool, true, false, List, length, eqb}
use Rattle.wire.specs.Choose.{or}
use Rattle.wire.specs.Verdict.{verdict_number}
use Rattle.wire.specs.declared.verdict.Verdict.{Verdict}
use Rattle.wire.specs.declared.verdict.Verdict.TheVariants.{Accepted, Table as NoTable, Room, Large}
use Rattle.payload.specs.declared.table.Table.{Table}
use Rattle.payload.specs.declared.row.Row.{Row}
use Rattle.payload.specs.declared.read.Reading.{Reading}
use Rattle.payload.specs.Table.{type_rows, table_fits}
use Rattle.payload.specs.Reading.{payload_most, refused, walked, walked_of, full, untouched, cleared, reading_of}
use Rattle.payload.specs.Formed.{TreeOf}
use Rattle.wire.specs.Number.{AreBytes}
use Rattle.payload.specs.Bounds.{ByWalk}

-- the verdicts that change no row
abbrev pub changes_none : Verdict → Bool
changes_none v = or (eqb (verdict_number v) 1) (eqb (verdict_number v) 2)

-- the payload is walked: table, room and size are as they should be
pub record Walks (p : List ℕ) (t : Table) (room : ℕ) : Type 0 where
  pub table_fits_lem : table_fits t ≡ true
  pub room_fits : t.count ≤ room
  pub size_fits : length p ≤ payload_most

-- the answer to a payload that is accepted
abbrev pub accepted : ℕ → List Row → ℕ → Reading
accepted count rows n = record { verdict = Accepted; place = 0; skipped = n; filled = count; rows = full rows }

pub data Outcome (p : List ℕ) (t : Table) (room : ℕ) : Reading → Type 0 where
  no_table : table_fits t ≡ false → Outcome p t room (untouched NoTable)
  no_room : table_fits t ≡ true → room < t.count → Outcome p t room (untouched Room)
  too_large : table_fits t ≡ true → t.count ≤ room → payload_most < length p → Outcome p t room (cleared t.count Large 0)
  is_refused : {v : Verdict} {place : ℕ} → Walks p t room
      → walked_of t.width (type_rows t) p ≡ refused v place → ByWalk v → place ≤ length p
      → Outcome p t room (cleared t.count v place)
  is_accepted : {rows : List Row} {n : ℕ} → Walks p t room
      → walked_of t.width (type_rows t) p ≡ walked rows n → length rows ≡ length (type_rows t)
      → Outcome p t room (accepted t.count rows n)

-- A payload is accepted with a tree's rows and count.
pub record Accepts (p : List ℕ) (t : Table) (room : ℕ) : Type 0 where
  pub shown : List Row
  pub count : ℕ
  pub walks : Walks p t room
  pub tree : TreeOf t.width (type_rows t) p shown count
  pub answer : reading_of p t room ≡ accepted t.count shown count

-- A payload of bytes is accepted exactly when it is walked and has a tree; the answer is the tree's.
pub record AcceptLaw (p : List ℕ) (t : Table) (room : ℕ) : Type 0 where
  pub read_tree : AreBytes p → (reading_of p t room).verdict ≡ Accepted → Accepts p t room
  pub tree_read : (shown : List Row) (n : ℕ) → Walks p t room → TreeOf t.width (type_rows t) p shown n
      → reading_of p t room ≡ accepted t.count shown n
