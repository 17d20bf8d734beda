-- A payload's reading, from the walk of level 1.
-- Assumes nothing.
use Rattle.std.specs.Prelude.{Result, Ok, Err}
use mathlib.Core.Path.{◌≡◌, refl, sym, ap, ◌∙◌}
use Prim.Native.Nat.{ℕ, zero, suc, ◌-◌, ◌≤◌, ◌<◌}
use native.Mathlib.Omega.{arith}
use mathlib.Core.Bool.{Bool, true, false}
use mathlib.Core.List.{List, ◌∷◌}
use lib.ListN.{length, take, drop, replicate}
use lib.Seq.{take-length, length-take-le}
use Rattle.std.proofs.lemmas.List.{take-append-drop}
use Rattle.payload.specs.declared.table.TypeRow.{TypeRow}
use borrow.Author.Tests.{lt-ltb, le-ltb}
use Rattle.wire.specs.declared.verdict.Verdict.TheVariants.{Accepted, Table as NoTable, Room, Large}
use Rattle.payload.specs.declared.table.Table.{Table}
use Rattle.payload.specs.declared.read.Level.{Level}
use Rattle.payload.specs.declared.read.Walker.{Walker}
use Rattle.payload.specs.declared.member.Refusal.{Refusal}
use Rattle.payload.specs.Table.{table_fits}
use Rattle.payload.specs.Cells.{table_in, Checked}
use Rattle.payload.specs.Row.{absent_row}
use Rattle.payload.specs.Reading.{payload_most, walked_of, cleared, full, answer_of, checked_of, reading_of}
use Rattle.payload.specs.Walking.{types_in, met_in, walk_in, LevelRead}
use Rattle.payload.proofs.Rules.CellLaws.{table_length}

-- ---- the rows

take_absent : (n m : ℕ) → n ≤ m → take n (replicate m absent_row) ≡ replicate n absent_row
take_absent zero m h = refl
take_absent (suc n) zero h = absurd (omega arith)
take_absent (suc n) (suc m) h = ap (absent_row ∷◌) (take_absent n m (omega arith))

drop_absent : (n m : ℕ) → drop n (replicate m absent_row) ≡ replicate (m - n) absent_row
drop_absent zero m = let e : m - 0 ≡ m = omega arith in rw e
drop_absent (suc n) zero = let e : 0 - suc n ≡ 0 = omega arith in rw e
drop_absent (suc n) (suc m) = let e : suc m - suc n ≡ m - n = omega arith in rw e (drop_absent n m)

-- ---- the walk of level 1

abbrev pub top : ℕ → ℕ → Level
top count end = record { number = 1; first = 0; stop = count; span = record { from = 0; end = end } }

module _ (w : Walker) (rows_are : w.rows ≡ replicate 64 absent_row) (none_skipped : w.skipped ≡ 0) (r : Result (Unit {0}) Refusal) (v : Walker)
    (l : LevelRead w 0 (top w.table.now.count (length w.bytes.now)) r v) where
  abbrev count : ℕ
  count = w.table.now.count

  few : count ≤ 64
  few = w.table.now.sound.fine.few

  walk_is : walk_in v r ≡ walked_of w.table.now.width (types_in w) w.bytes.now
  unfolding walked_of
  walk_is =
      l.is (suc (length w.bytes.now)) (omega arith)
      ∙ rw (rows_are, none_skipped, take-length w.bytes.now, take_absent count 64 few, table_length count w.table.now.cells)

  module _ (small : length w.bytes.now ≤ payload_most) where
    checked_is : answer_of count (walk_in v r) ≡ checked_of w.bytes.now (types_in w) count w.table.now.width
    unfolding checked_of
    checked_is = ap (answer_of count) walk_is ∙ rw (le-ltb payload_most (length w.bytes.now) small)

    pub read_refused : (e : Refusal) → r ≡ Err e → cleared count e.verdict e.place ≡ checked_of w.bytes.now (types_in w) count w.table.now.width
    unfolding answer_of
    read_refused e z = rw z at checked_is

    -- rows beyond the table's are still absent
    full_is : full (met_in v) ≡ v.rows
    full_is =
        let long : length (take count v.rows) ≡ count = length-take-le count v.rows (omega (arith, l.onto.long)) in
        let rest : drop count v.rows ≡ replicate (64 - count) absent_row = l.onto.beyond ∙ rw (rows_are, drop_absent count 64) in
        rw (l.onto.table_is, long, ← rest, take-append-drop count v.rows)

    pub read_accepted : ((e : Refusal) → r ≡ Err e → ⊥)
        → record { verdict = Accepted; place = 0; skipped = v.skipped; filled = count; rows = v.rows } ≡ checked_of w.bytes.now (types_in w) count w.table.now.width
    unfolding answer_of
    read_accepted n = rw (← full_is) (go r refl)
      where
        go : (x : Result (Unit {0}) Refusal) → r ≡ x
            → record { verdict = Accepted; place = 0; skipped = v.skipped; filled = count; rows = full (met_in v) }
            ≡ checked_of w.bytes.now (types_in w) count w.table.now.width
        go (Ok u) z = rw z at checked_is
        go (Err e) z = absurd (n e z)

-- ---- the verdicts before the walk

pub read_large : (p : List ℕ) (types : List TypeRow) (count width : ℕ) → payload_most < length p → cleared count Large 0 ≡ checked_of p types count width
unfolding checked_of
read_large p types count width h = rw (lt-ltb payload_most (length p) h)

pub read_no_table : (p : List ℕ) (t : Table) (room : ℕ) → table_fits t ≡ false → cleared 0 NoTable 0 ≡ reading_of p t room
unfolding reading_of
read_no_table p t room e = rw e

pub read_no_room : (p : List ℕ) (t : Table) (room : ℕ) → table_fits t ≡ true → room < t.count → cleared 0 Room 0 ≡ reading_of p t room
unfolding reading_of
read_no_room p t room e h = rw (e, lt-ltb room t.count h)

-- of the table's cells, for the layer above
pub checked_reading : (p : List ℕ) (t : Table) (room : ℕ) (cells : List ℕ) (fits : Bool) → Checked t cells fits → fits ≡ true → t.count ≤ room
    → checked_of p (table_in t.count cells) t.count t.width ≡ reading_of p t room
unfolding reading_of
checked_reading p t room cells fits k e h = rw ((k.filled e).rows_are, sym k.answer ∙ e, le-ltb room t.count h)
