-- The writer's outcome, verdict by verdict, and what a checked table gives the writer.
-- Assumes nothing.
use mathlib.Core.Path.{◌≡◌, refl}
use mathlib.Core.Bool.{Bool, true, false}
use mathlib.Core.List.{List}
use Prim.Native.Nat.{ℕ, ◌≤◌, ◌<◌}
use native.Mathlib.Omega.{arith}
use lib.ListN.{length}
use lib.Dec.{eqb}
use borrow.Author.Tests.{lt-ltb, le-ltb, eqb-true}
use Rattle.std.proofs.Common.{Option, Some, None, MatchOption, Ok, Err}
use Rattle.wire.specs.Choose.{pick}
use Rattle.wire.specs.declared.verdict.Verdict.{Verdict}
use Rattle.wire.specs.declared.verdict.Verdict.TheVariants.{Table as NoTable, Room, Value as NoValue, Outside as Past, Wide, Heavy}
use Rattle.payload.specs.declared.table.Table.{Table}
use Rattle.payload.specs.declared.row.Row.{Row}
use Rattle.payload.specs.Judging.{Judged, Fine, Outside, Unfit, judged_of, is_fine, judging_is}
use Rattle.payload.specs.declared.table.CheckedTable.{CheckedTable}
use Rattle.payload.specs.Table.{width_fits, table_fits}
use Rattle.payload.specs.Cells.{table_in, Checked}
use Rattle.payload.specs.Reading.{payload_most}
use Rattle.payload.specs.Tree.{Members, bytes_of}
use Rattle.payload.specs.Writing.{run_wire, parts_of, nested, some_wide, Outcome, refused, done, sized_of, if_fine, tree_of, outcome_of}
use Rattle.payload.specs.Sizes.{Wires, fitted_of}
use Rattle.payload.proofs.Joined.{clash}
use Rattle.payload.proofs.Rules.CheckLaws.{Begins, begins}

-- ---- 33, then 2 for the output

module _ (bytes : List ℕ) (space : ℕ) where
  pub fitted_heavy : payload_most < length bytes → fitted_of bytes space ≡ refused Heavy
  unfolding fitted_of
  fitted_heavy h = rw (lt-ltb payload_most (length bytes) h)

  pub fitted_room : length bytes ≤ payload_most → space < length bytes → fitted_of bytes space ≡ refused Room
  unfolding fitted_of
  fitted_room h k = rw (le-ltb payload_most (length bytes) h, lt-ltb space (length bytes) k)

  pub fitted_done : length bytes ≤ payload_most → length bytes ≤ space → fitted_of bytes space ≡ done bytes
  unfolding fitted_of
  fitted_done h k = rw (le-ltb payload_most (length bytes) h, le-ltb space (length bytes) k)

-- ---- 32

pub sized_wide : (w : ℕ) (tree : Members) (space : ℕ) → some_wide w tree ≡ true → sized_of w tree space ≡ refused Wide
unfolding sized_of
sized_wide w tree space e = rw e

pub sized_narrow : (w : ℕ) (tree : Members) (space : ℕ) → some_wide w tree ≡ false → sized_of w tree space ≡ fitted_of (bytes_of w tree) space
unfolding sized_of fitted_of
sized_narrow w tree space e = rw e

-- ---- 31 and 30

pub judging_err : (j : Judged) (v : Verdict) (o : Outcome) → Err v ≡ judging_is j → if_fine j o ≡ refused v
unfolding if_fine
judging_err Fine v o e = absurd (cc)
judging_err Outside v o e = let z : v ≡ Past = cc in rw z
judging_err Unfit v o e = let z : v ≡ NoValue = cc in rw z

pub judging_ok : (j : Judged) (u : Unit {0}) → Ok u ≡ judging_is j → is_fine j ≡ true
judging_ok Fine u e = refl
judging_ok Outside u e = absurd (cc)
judging_ok Unfit u e = absurd (cc)

pub fine_passes : (j : Judged) (o : Outcome) → is_fine j ≡ true → if_fine j o ≡ o
unfolding if_fine
fine_passes Fine o e = refl
fine_passes Outside o e = clash e
fine_passes Unfit o e = clash e

-- ---- 1, and 2 for value rows

-- the checked form of a table
pub record CheckedOf (t : Table) (g : CheckedTable) : Type 0 where
  pub count_is : g.count ≡ t.count
  pub width_is : g.width ≡ t.width
  pub checked : Checked t g.cells true

pub table_refused : (t : Table) (o : Option CheckedTable) → o ≡ None
    → MatchOption o (table_fits t ≡ false) (λ g. (g.count ≡ t.count) × (g.width ≡ t.width) × Checked t g.cells true) → table_fits t ≡ false
table_refused t None e m = m
table_refused t (Some g) e m = absurd (cc)

pub table_checked : (t : Table) (o : Option CheckedTable) (g : CheckedTable) → o ≡ Some g
    → MatchOption o (table_fits t ≡ false) (λ g. (g.count ≡ t.count) × (g.width ≡ t.width) × Checked t g.cells true) → CheckedOf t g
table_checked t o g e m = let q = rw e at m in record { count_is = q.0; width_is = q.1; checked = q.2 }

pub checked_begins : (t : Table) (g : CheckedTable) → CheckedOf t g → Begins g.cells g.count g.width
checked_begins t g k = rw (k.count_is, k.width_is) (begins t g.cells k.checked)

module _ (rows : List Row) (room : ℕ) (t : Table) (buf : List ℕ) (space : ℕ) where
  pub outcome_table : table_fits t ≡ false → outcome_of rows room t buf space ≡ refused NoTable
  unfolding outcome_of
  outcome_table e = rw e

  -- else the rows that the checked table's cells stand for decide
  module _ (g : CheckedTable) (k : CheckedOf t g) where
    pub checked_rows : room < g.count → outcome_of rows room t buf space ≡ refused Room
    unfolding outcome_of
    checked_rows h = let q : room < t.count = rw (← k.count_is) h in rw (← k.checked.answer, lt-ltb room t.count q)

    pub outcome_checked : g.count ≤ room → (ws : ℕ) → ws ≡ run_wire g.width t.fixed → outcome_of rows room t buf space
        ≡ if_fine (judged_of buf (table_in g.count g.cells) rows) (sized_of g.width (nested 1 (parts_of ws buf (table_in g.count g.cells) rows)) space)
    unfolding outcome_of tree_of
    outcome_checked h ws ew =
        let q : t.count ≤ room = rw (← k.count_is) h in
        rw (← k.checked.answer, le-ltb room t.count q, ew, k.count_is, k.width_is, (k.checked.filled refl).rows_are)

-- ---- what a checked table gives the writer

wires_one : (fixed : Bool) → Wires 1 (run_wire 1 fixed)
unfolding run_wire
wires_one true = record { least = omega arith; most = omega arith; field = refl; few = omega arith; top = refl }
wires_one false = record { least = omega arith; most = omega arith; field = refl; few = omega arith; top = refl }

wires_two : (fixed : Bool) → Wires 2 (run_wire 2 fixed)
unfolding run_wire
wires_two true = record { least = omega arith; most = omega arith; field = refl; few = omega arith; top = refl }
wires_two false = record { least = omega arith; most = omega arith; field = refl; few = omega arith; top = refl }

wires_four : (fixed : Bool) → Wires 4 (run_wire 4 fixed)
unfolding run_wire
wires_four true = record { least = omega arith; most = omega arith; field = refl; few = omega arith; top = refl }
wires_four false = record { least = omega arith; most = omega arith; field = refl; few = omega arith; top = refl }

pub width_wires : (w : ℕ) (fixed : Bool) → width_fits w ≡ true → Wires w (run_wire w fixed)
width_wires w fixed e = go (eqb w 1) (eqb w 2) refl refl e
  where
    go : (a b : Bool) → eqb w 1 ≡ a → eqb w 2 ≡ b → pick a true (pick b true (eqb w 4)) ≡ true → Wires w (run_wire w fixed)
    go true b ea eb e = rw (eqb-true w 1 ea) (wires_one fixed)
    go false true ea eb e = rw (eqb-true w 2 eb) (wires_two fixed)
    go false false ea eb e = rw (eqb-true w 4 e) (wires_four fixed)
