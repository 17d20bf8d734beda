-- What the writer gives is the bytes of the tree of present rows, is read back the same, and is written again from what was read.
-- Assumes nothing.
use mathlib.Core.Path.{◌≡◌, refl, sym, ap, ◌∙◌}
use Prim.Native.Nat.{ℕ, ◌+◌, ◌-◌, ◌≤◌}
use native.Mathlib.Omega.{arith}
use mathlib.Core.List.{List, [], ◌∷◌, append-nil}
use lib.ListN.{length, get_or, replicate, length-append, length-replicate}
use lib.Seq.{length-take-le, get_or-append-add}
use Rattle.payload.specs.declared.table.TypeRow.{TypeRow}
use Rattle.payload.specs.declared.table.Table.{Table}
use Rattle.payload.specs.declared.row.Row.{Row}
use Rattle.payload.specs.Judging.{Fine}
use Rattle.payload.specs.Table.{type_rows}
use Rattle.payload.specs.Row.{absent_row}
use Rattle.payload.specs.Reading.{full, reading_of}
use Rattle.payload.specs.Tree.{bytes_of}
use Rattle.payload.specs.Formed.{Formed, TreeOf}
use Rattle.payload.specs.Judging.{judged_of}
use Rattle.payload.specs.Outcome.{accepted}
use Rattle.payload.specs.Writing.{run_wire, nested, tree_of, done, outcome_of}
use Rattle.payload.specs.Demand2.{IsTree, ReadBack, Handed, Demand2Holds, Demand2Answered}
use Rattle.payload.proofs.Rules.CheckLaws.{Tests, fits_tests}
use Rattle.payload.proofs.Trees.TreeLaws.{tree_law}
use Rattle.payload.proofs.Trees.Accepted.{accept_law}
use Rattle.payload.proofs.Trees.Seen.{absent_at}
use Rattle.payload.proofs.Round.Outcomes.{AllFits, outcome_fits, fits_outcome, answer_outcome}
use Rattle.payload.proofs.Round.PutLaws.{LengthWire, run_wire_lem}
use Rattle.payload.proofs.Round.Judgings.{Passed, judged_passed}
use Rattle.payload.proofs.Round.Built.{Built, Sound, passed_built, built_whole, built_sound}
use Rattle.payload.proofs.Round.OwnTable.{From, built_each, built_known, Absents, absents_none, absents_more, absents_showing, Filling, built_filled}
use Rattle.payload.proofs.Round.Again.{AllSame, showing_all, all_longer, all_at, judged_again, parts_again}

-- ---- its tree

absents_all : (rs : List TypeRow) → Absents rs (replicate (length rs) absent_row)
absents_all [] = absents_none
absents_all (r ∷ rs) = absents_more (absents_all rs)

-- all rows from the first on
from_all : (types : List TypeRow) → From types 1 0 0 types
from_all types = record { rest_is = refl; above = λ i h. absurd (omega arith) }

module _ (rows : List Row) (room : ℕ) (t : Table) (buf : List ℕ) (space : ℕ) (p : List ℕ) (a : Handed rows t buf)
    (e : outcome_of rows room t buf space ≡ done p) where
  w : AllFits rows room t buf space p
  w = outcome_fits rows room t buf space p e

  tests : Tests t
  tests = fits_tests t w.table_fits_lem

  ws : ℕ
  ws = run_wire t.width t.fixed

  lw : LengthWire ws
  unfolding ws
  lw = run_wire_lem t.width t.fixed

  count_is : length (type_rows t) ≡ t.count
  count_is = length-take-le t.count t.rows (omega (arith, a.types_array, tests.few))

  passed : Passed buf 1 (type_rows t) rows
  unfolding judged_of
  passed = judged_passed buf 1 1 (type_rows t) rows (omega (arith, count_is, a.rows_array, tests.few)) tests.rows w.judged

  built : Built ws buf 1 (type_rows t) rows (tree_of t buf rows)
  unfolding tree_of ws
  built = passed_built ws buf passed 1 (omega arith)

  -- whatever table reads it
  pub written_sound : Sound t.width (tree_of t buf rows)
  written_sound = built_sound lw buf a.buf_bytes t.width built tests.differ w.narrow

  pub written_formed : Formed t.width (type_rows t) 1 0 (tree_of t buf rows)
  written_formed = record {
    each = built_each lw buf a.buf_bytes t.width (type_rows t) tests.differ built 0 0 (from_all (type_rows t)) w.narrow;
    whole = built_whole lw buf built (tree_of t buf rows) (λ x h. h);
  }

  filling : Filling buf p t.width (type_rows t) 1 0 0 (tree_of t buf rows) [] (type_rows t) rows
      (replicate (length (type_rows t)) absent_row)
  filling =
      built_filled lw buf p t.width (type_rows t) tests.differ built 0 0 (from_all (type_rows t)) 0
      (record { before = []; behind = []; whole = w.bytes_are ∙ sym (append-nil (bytes_of t.width (tree_of t buf rows))); place_is = refl })
      [] (replicate (length (type_rows t)) absent_row) refl
      (absents_showing buf p passed (absents_all (type_rows t)) 2 (omega arith))

  pub shown : List Row
  shown = filling.shown

  pub written_tree : TreeOf t.width (type_rows t) p shown 0
  unfolding shown
  written_tree = record {
    tree = tree_of t buf rows;
    formed = written_formed;
    bytes_are = sym w.bytes_are;
    rows_are = filling.filled_is;
    count_is = built_known lw buf a.buf_bytes t.width (type_rows t) tests.differ built 0 0 (from_all (type_rows t));
  }

  all_shown : AllSame buf p (type_rows t) rows shown × (length shown ≡ length (type_rows t))
  unfolding shown
  all_shown = showing_all buf p passed filling.showing

  shown_size : length shown ≡ t.count
  shown_size = all_shown.1 ∙ count_is

  all_full : AllSame buf p (type_rows t) rows (full shown)
  all_full = all_longer buf p all_shown.0 (replicate (64 - length shown) absent_row)

  is_tree : IsTree rows t buf p
  is_tree = record {
    bytes_are = w.bytes_are;
    formed = written_formed;
    size_fits = w.size_fits;
    are_bytes = (tree_law t.width (type_rows t) p shown 0 tests.differ).tree_bytes written_tree;
  }

  -- the rows that are shown make it again
  pub tree_same : tree_of t p (full shown) ≡ tree_of t buf rows
  unfolding tree_of
  tree_same = ap (nested 1) (parts_again buf p (run_wire t.width t.fixed) all_full)

  judged_same : judged_of p (type_rows t) (full shown) ≡ Fine
  unfolding judged_of
  judged_same = judged_again buf p all_full 1 w.judged

  -- ---- its reading

  module _ (room2 : ℕ) (h : t.count ≤ room2) where
    pub written_reading : reading_of p t room2 ≡ accepted t.count shown 0
    written_reading =
        (accept_law p t room2).tree_read shown 0 (record { table_fits_lem = w.table_fits_lem; room_fits = h; size_fits = w.size_fits }) written_tree

    shown_back : ReadBack rows t buf p (accepted t.count shown 0)
    shown_back = record {
      verdict_is = refl;
      place_is = refl;
      skips_none = refl;
      fills_all = refl;
      rows_array =
          omega (arith, length-append shown (replicate (64 - length shown) absent_row), length-replicate (64 - length shown) absent_row, shown_size, tests.few);
      same = λ i hi. all_at buf p all_full i (omega (arith, count_is));
      beyond = λ i hi.
          let z : length shown + (i - length shown) ≡ i = omega (arith, shown_size) in
          ap (λ (n : ℕ). get_or (full shown) n absent_row) (sym z)
          ∙ get_or-append-add shown (replicate (64 - length shown) absent_row) (i - length shown) absent_row
          ∙ absent_at (64 - length shown) (i - length shown);
    }

    read_back : ReadBack rows t buf p (reading_of p t room2)
    read_back = rw written_reading shown_back

    -- ---- and its writing

    again : (space2 : ℕ) → length p ≤ space2 → outcome_of (reading_of p t room2).rows room2 t p space2 ≡ done p
    again space2 hs =
        rw written_reading
        (fits_outcome (full shown) room2 t p space2 p
        (record {
          table_fits_lem = w.table_fits_lem;
          room_fits = h;
          judged = judged_same;
          narrow = rw tree_same w.narrow;
          size_fits = w.size_fits;
          space_fits = hs;
          bytes_are = rw tree_same w.bytes_are;
        }))

pub demand_2 : Demand2Holds
demand_2 rows room t buf space p a e = record {
  is_tree = is_tree rows room t buf space p a e;
  read_back = λ room2 h. read_back rows room t buf space p a e room2 h;
  again = λ room2 space2 h hs. again rows room t buf space p a e room2 h space2 hs;
}

-- by the writer's answer
pub demand_2_answered : Demand2Answered
demand_2_answered rows room t buf old a v = demand_2 rows room t buf (length old) _ a (answer_outcome rows room t buf old v)
