-- What a reading gives besides its verdict: the place, the count of skipped members, how many rows are set, and the rows.
-- Assumes nothing.
use mathlib.Core.Path.{◌≡◌, refl}
use Prim.Native.Nat.{ℕ, zero, suc, ◌-◌, ◌≤◌}
use native.Mathlib.Omega.{arith}
use mathlib.Core.Bool.{Bool, true, false}
use mathlib.Core.List.{List, [], ◌∷◌, ◌++◌}
use lib.ListN.{length, get_or, replicate, length-append, length-take, length-replicate}
use lib.Dec.{leb, ltb}
use borrow.Author.Tests.{leb-true, ltb-true, ltb-false, ne_eqb}
use Rattle.wire.specs.Choose.{pick, and}
use Rattle.wire.specs.Verdict.{verdict_number}
use Rattle.wire.specs.declared.verdict.Verdict.{Verdict}
use Rattle.wire.specs.declared.verdict.Verdict.TheVariants.{Accepted, Table as NoTable, Room, Large}
use Rattle.payload.specs.declared.table.Table.{Table}
use Rattle.payload.specs.declared.row.Row.{Row}
use Rattle.payload.specs.declared.read.Reading.{Reading}
use Rattle.payload.specs.Table.{in_range, type_rows, rows_fit, idents_differ, width_fits, table_fits}
use Rattle.payload.specs.Row.{absent_row}
use Rattle.payload.specs.Reading.{payload_most, Walked, refused, walked, walked_of, full, untouched, cleared, answer_of, checked_of, reading_of}
use Rattle.payload.specs.Bounds.{ByWalk, RunIn}
use Rattle.payload.specs.Outcome.{changes_none, Walks, Outcome, no_table, no_room, too_large, is_refused, is_accepted}
use Rattle.payload.proofs.Trees.Level.{and_left, and_right}
use Rattle.payload.proofs.Trees.Seen.{absent_at}
use Rattle.payload.proofs.Trees.Bounds.{absent_run, shown_inside, walked_size, refused_inside}

module _ (p : List ℕ) (t : Table) (room : ℕ) where
  walk_outcome : Walks p t room → (w : Walked) → walked_of t.width (type_rows t) p ≡ w → Outcome p t room (answer_of t.count w)
  unfolding answer_of
  walk_outcome h (refused v place) e =
      let i = refused_inside t.width (type_rows t) p v place e in is_refused h e i.0 i.1
  walk_outcome h (walked rows n) e = is_accepted h e (walked_size t.width (type_rows t) p rows n e)

  -- a reading is one of the five
  pub reading_outcome : Outcome p t room (reading_of p t room)
  unfolding reading_of checked_of
  reading_outcome = go (table_fits t) (ltb room t.count) (ltb payload_most (length p)) refl refl refl
    where
      go : (a b d : Bool) → table_fits t ≡ a → ltb room t.count ≡ b → ltb payload_most (length p) ≡ d
          → Outcome p t room
          (pick a (pick b (untouched Room) (pick d (cleared t.count Large 0) (answer_of t.count (walked_of t.width (type_rows t) p))))
          (untouched NoTable))
      go false b d ea eb ed = no_table ea
      go true true d ea eb ed = no_room ea (ltb-true room t.count eb)
      go true false true ea eb ed = too_large ea (ltb-false room t.count eb) (ltb-true payload_most (length p) ed)
      go true false false ea eb ed =
          walk_outcome (record { table_fits_lem = ea; room_fits = ltb-false room t.count eb; size_fits = ltb-false payload_most (length p) ed }) _ refl

-- ---- laws of each outcome

-- a walk's verdict is none of the others
by_walk : (v : Verdict) → ByWalk v → 20 ≤ verdict_number v
by_walk v b = leb-true 20 (verdict_number v) (and_left (leb 20 (verdict_number v)) (leb (verdict_number v) 27) b)

-- a table that fits has 64 rows at most
few_rows : (t : Table) → table_fits t ≡ true → t.count ≤ 64
unfolding table_fits
few_rows t e =
    leb-true t.count 64
    (and_right (leb 1 t.count) (leb t.count 64)
    (and_left (in_range 1 64 t.count) (and (width_fits t.width) (and (rows_fit 1 (type_rows t)) (idents_differ (type_rows t)))) e))

length_full : (rows : List Row) → length rows ≤ 64 → length (full rows) ≡ 64
length_full rows h = rw (length-append rows (replicate (64 - length rows) absent_row), length-replicate (64 - length rows) absent_row) (omega arith)

-- rows beyond those that are shown are absent
pub full_at : (rows : List Row) (n j : ℕ) → get_or (rows ++ replicate n absent_row) j absent_row ≡ get_or rows j absent_row
full_at [] n j = absent_at n j
full_at (r ∷ rows) n zero = refl
full_at (r ∷ rows) n (suc j) = full_at rows n j

shown_full : (p : List ℕ) (rows : List Row) → ((j : ℕ) → RunIn 0 (length p) (get_or rows j absent_row))
    → (j : ℕ) → RunIn 0 (length p) (get_or (full rows) j absent_row)
shown_full p rows h j = rw (full_at rows (64 - length rows) j) (h j)

module _ (p : List ℕ) (t : Table) (room : ℕ) where
  size_of_lem : {r : Reading} → Outcome p t room r → length r.rows ≡ 64
  size_of_lem (no_table e) = refl
  size_of_lem (no_room e h) = refl
  size_of_lem (too_large e h1 h2) = refl
  size_of_lem (is_refused h e b q) = refl
  size_of_lem (is_accepted {rows = rows} h e s) =
      length_full rows (omega (arith, s, length-take t.count t.rows, few_rows t h.table_fits_lem))

  cleared_of : {r : Reading} → Outcome p t room r → (r.verdict ≡ Accepted → ⊥) → (r.skipped ≡ 0) × (r.rows ≡ replicate 64 absent_row)
  cleared_of (no_table e) no-a = (refl, refl)
  cleared_of (no_room e h) no-a = (refl, refl)
  cleared_of (too_large e h1 h2) no-a = (refl, refl)
  cleared_of (is_refused h e b q) no-a = (refl, refl)
  cleared_of (is_accepted h e s) no-a = absurd (no-a refl)

  place_of : {r : Reading} → Outcome p t room r → (ByWalk r.verdict → ⊥) → r.place ≡ 0
  place_of (no_table e) h = refl
  place_of (no_room e h1) h = refl
  place_of (too_large e h1 h2) h = refl
  place_of (is_refused h1 e b q) h = absurd (h b)
  place_of (is_accepted h1 e s) h = refl

  inside_of : {r : Reading} → Outcome p t room r → r.place ≤ length p
  inside_of (no_table e) = omega arith
  inside_of (no_room e h1) = omega arith
  inside_of (too_large e h1 h2) = omega arith
  inside_of (is_refused h1 e b q) = q
  inside_of (is_accepted h1 e s) = omega arith

  shown_of_lem : {r : Reading} → Outcome p t room r → (j : ℕ) → RunIn 0 (length p) (get_or r.rows j absent_row)
  shown_of_lem (no_table e) j = shown_full p [] (λ i. absent_run (length p)) j
  shown_of_lem (no_room e h) j = shown_full p [] (λ i. absent_run (length p)) j
  shown_of_lem (too_large e h1 h2) j = shown_full p [] (λ i. absent_run (length p)) j
  shown_of_lem (is_refused h e b q) j = shown_full p [] (λ i. absent_run (length p)) j
  shown_of_lem (is_accepted {rows = rows} {n = n} h e s) j = shown_full p rows (shown_inside t.width (type_rows t) p rows n e) j

  filled_of : {r : Reading} → Outcome p t room r → r.filled ≡ pick (changes_none r.verdict) 0 t.count
  filled_of (no_table e) = refl
  filled_of (no_room e h) = refl
  filled_of (too_large e h1 h2) = refl
  filled_of (is_refused {v = v} h e b q) =
      rw (ne_eqb (verdict_number v) 1 (λ z. omega (arith, by_walk v b)), ne_eqb (verdict_number v) 2 (λ z. omega (arith, by_walk v b)))
  filled_of (is_accepted h e s) = refl

  -- ---- a reading

  -- there are 64 rows
  pub reading_size : length (reading_of p t room).rows ≡ 64
  reading_size = size_of_lem (reading_outcome p t room)

  -- a refusal counts nothing and shows nothing
  pub reading_refused : ((reading_of p t room).verdict ≡ Accepted → ⊥)
      → ((reading_of p t room).skipped ≡ 0) × ((reading_of p t room).rows ≡ replicate 64 absent_row)
  reading_refused = cleared_of (reading_outcome p t room)

  -- only the verdicts 20 to 27 have a place other than 0, and it lies in the payload
  pub reading_place : (ByWalk (reading_of p t room).verdict → ⊥) → (reading_of p t room).place ≡ 0
  reading_place = place_of (reading_outcome p t room)

  pub reading_inside : (reading_of p t room).place ≤ length p
  reading_inside = inside_of (reading_outcome p t room)

  -- a run of bytes that a row shows lies in the payload
  pub reading_shown : (j : ℕ) → RunIn 0 (length p) (get_or (reading_of p t room).rows j absent_row)
  reading_shown = shown_of_lem (reading_outcome p t room)

  -- as many rows are set as the table has, and none after 1 and 2
  pub reading_filled : (reading_of p t room).filled ≡ pick (changes_none (reading_of p t room).verdict) 0 t.count
  reading_filled = filled_of (reading_outcome p t room)
