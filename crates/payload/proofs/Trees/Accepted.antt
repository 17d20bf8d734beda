-- A payload of bytes is accepted exactly when the table, the room and its size are as they should be and it is the bytes of a tree that the
-- table reads.
-- Assumes nothing.
use mathlib.Core.Path.{◌≡◌, sym}
use Prim.Native.Nat.{ℕ}
use native.Mathlib.Omega.{arith}
use mathlib.Core.Bool.{true}
use mathlib.Core.List.{List}
use lib.ListN.{length}
use borrow.Author.Tests.{le-ltb}
use Rattle.wire.specs.Choose.{and}
use Rattle.wire.specs.declared.verdict.Verdict.TheVariants.{Accepted}
use Rattle.payload.specs.declared.table.Table.{Table}
use Rattle.payload.specs.declared.row.Row.{Row}
use Rattle.payload.specs.declared.read.Reading.{Reading}
use Rattle.payload.specs.Table.{in_range, type_rows, rows_fit, idents_differ, width_fits, table_fits}
use Rattle.payload.specs.Reading.{payload_most, walked, walked_of, answer_of, checked_of, reading_of}
use Rattle.wire.specs.Number.{AreBytes}
use Rattle.payload.specs.Outcome.{Walks, accepted, Outcome, no_table, no_room, too_large, is_refused, is_accepted, Accepts, AcceptLaw}
use Rattle.payload.proofs.Trees.Level.{true_false, and_right}
use Rattle.payload.proofs.Trees.TreeLaws.{tree_law}
use Rattle.payload.proofs.Trees.Refusals.{reading_outcome}

-- the Data IDs of a table that fits differ
pub fits_differ : (t : Table) → table_fits t ≡ true → idents_differ (type_rows t) ≡ true
unfolding table_fits
fits_differ t e =
    and_right (rows_fit 1 (type_rows t)) (idents_differ (type_rows t))
    (and_right (width_fits t.width) (and (rows_fit 1 (type_rows t)) (idents_differ (type_rows t)))
    (and_right (in_range 1 64 t.count) (and (width_fits t.width) (and (rows_fit 1 (type_rows t)) (idents_differ (type_rows t)))) e))

module _ (p : List ℕ) (t : Table) (room : ℕ) where
  pub walked_reading : Walks p t room → (rows : List Row) (n : ℕ) → walked_of t.width (type_rows t) p ≡ walked rows n
      → reading_of p t room ≡ accepted t.count rows n
  unfolding reading_of checked_of answer_of
  walked_reading h rows n e =
      rw (h.table_fits_lem, le-ltb room t.count h.room_fits, le-ltb payload_most (length p) h.size_fits, e)

  reads : AreBytes p → {r : Reading} → Outcome p t room r → r.verdict ≡ Accepted → Accepts p t room
  reads b (no_table e) a = let z : ◌≡◌ {A = ℕ} 0 1 = cc in absurd (omega arith)
  reads b (no_room e h) a = let z : ◌≡◌ {A = ℕ} 0 1 = cc in absurd (omega arith)
  reads b (too_large e h1 h2) a = let z : ◌≡◌ {A = ℕ} 0 1 = cc in absurd (omega arith)
  reads b (is_refused h e v q) a = true_false (sym (rw a at v))
  reads b (is_accepted {rows = rows} {n = n} h e s) a = record {
    shown = rows;
    count = n;
    walks = h;
    tree = (tree_law t.width (type_rows t) p rows n (fits_differ t h.table_fits_lem)).read_tree b e;
    answer = walked_reading h rows n e;
  }

  pub accept_law : AcceptLaw p t room
  accept_law = record {
    read_tree = λ b a. reads b (reading_outcome p t room) a;
    tree_read = λ rows n h tree.
        walked_reading h rows n ((tree_law t.width (type_rows t) p rows n (fits_differ t h.table_fits_lem)).tree_read tree);
  }
