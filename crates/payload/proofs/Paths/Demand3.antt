-- Demand 3: what the writer makes from one table, its members in any order, is read under another as it was written. Of the writer it uses what
-- demand 2 says of its payload.
-- Assumes nothing.
use mathlib.Core.Path.{◌≡◌, refl, sym, ap, ◌∙◌}
use Prim.Native.Nat.{ℕ, suc, ◌-◌, ◌≤◌, ◌<◌}
use native.Mathlib.Omega.{arith}
use mathlib.Core.Bool.{true}
use mathlib.Core.Logic.{◌⊎◌, inl, inr}
use mathlib.Core.Option.{some}
use mathlib.Core.List.{List, [], ◌∷◌, ◌++◌}
use lib.ListN.{length, get_or, replicate, length-take, get_or-eq_default}
use lib.Seq.{length-take-le}
use Rattle.wire.specs.declared.verdict.Verdict.TheVariants.{Accepted, Missing}
use Rattle.payload.specs.declared.table.TypeRow.{TypeRow}
use Rattle.payload.specs.declared.table.Table.{Table}
use Rattle.payload.specs.declared.row.Row.{Row}
use Rattle.payload.specs.declared.read.Reading.{Reading}
use Rattle.payload.specs.Table.{idents_differ, type_rows, table_fits, row_at}
use Rattle.payload.specs.Row.{absent_row}
use Rattle.payload.specs.Reading.{full, cleared, reading_of}
use Rattle.payload.specs.Tree.{Members, bytes_of}
use Rattle.payload.specs.Formed.{unknowns}
use Rattle.payload.specs.Outcome.{Walks, accepted}
use Rattle.payload.specs.Writing.{tree_of}
use Rattle.payload.specs.Paths.{path_row, at_path, ByPath, Present, at_start, at_struct, LacksAt, Fits, TreeRead, all_there, one_missing}
use Rattle.payload.specs.Demand2.{Same, Demand2}
use Rattle.payload.specs.Demand3.{
  TwoTables,
  Reordered,
  written_at,
  LevelThere,
  level_one,
  in_struct,
  Lacking,
  Reached,
  Arrives,
  Demand3Holds,
  AbsentArrives,
}
use Rattle.payload.proofs.Trees.Seen.{absent_at}
use Rattle.payload.proofs.Rules.TableLaws.{fits_keeps}
use Rattle.payload.proofs.Trees.Accepted.{fits_differ}
use Rattle.payload.proofs.Trees.Refusals.{full_at, reading_size}
use Rattle.payload.proofs.Paths.ByPath.{read_by_paths}
use Rattle.payload.proofs.Paths.KnownTree.{Known, known_bytes, known_fits}
use Rattle.payload.proofs.Paths.Orders.{reordered_length, reordered_known, reordered_paths}
use Rattle.payload.proofs.Paths.Reaching.{path_to, one_path}
use Rattle.payload.proofs.Round.Outcomes.{outcome_fits}
use Rattle.payload.proofs.Round.Demand2.{demand_2}
use Rattle.payload.proofs.Paths.Written.{none_same, tree_known, nothing_absent, absent_nothing, branch_members, members_branch, shown_written}

accepted_missing {ℓ} : {X : Type ℓ} → Accepted ≡ Missing → X
accepted_missing e = let z : ◌≡◌ {A = ℕ} 0 1 = cc in absurd (omega arith)

-- each row of a valid table has one path
pub row_reached : (u : Table) → length u.rows ≡ 64 → table_fits u ≡ true → (j : ℕ) → j < u.count → Reached u j
row_reached u all fits j h =
    let r = fits_keeps u all fits in
    let n : length (type_rows u) ≡ u.count = length-take-le u.count u.rows (omega (arith, r.count_most)) in
    let g = path_to (type_rows u) (fits_differ u fits) (λ i hi. r.next_level i (omega arith)) (suc j) 1 0 j (omega arith) (omega arith) (omega arith)
    r.first_level (λ m a b. (r.each_row m (omega arith)).level_least) in
    record {
      path = g.head ∷ g.path;
      leads = g.leads;
      only = λ path2 e. one_path (type_rows u) 1 0 path2 (g.head ∷ g.path) j e g.leads;
    }

-- ---- the two sides

module _ (t u : Table) (rows : List Row) (buf p : List ℕ) (m : Members) (room : ℕ) (writer-array : length t.rows ≡ 64)
    (writer-fits : table_fits t ≡ true) (d : Demand2 rows t buf p) (two : TwoTables t u) (re : Reordered (tree_of t buf rows) m)
    (enough : u.count ≤ room) where
  abbrev types2 : List TypeRow
  types2 = type_rows u

  -- the payload that is read
  abbrev p2 : List ℕ
  p2 = bytes_of t.width m

  abbrev got : Reading
  got = reading_of p2 u room

  abbrev start2 : List Row
  start2 = replicate (length types2) absent_row

  known : Known t.width (type_rows t) 1 0 (tree_of t buf rows)
  known = tree_known t rows buf p writer-array writer-fits d

  same_paths : (path : List ℕ) → at_path (tree_of t buf rows) path ≡ at_path m path
  same_paths = reordered_paths re known

  fits : Fits t.width types2 1 0 m
  fits = known_fits (reordered_known re known) types2 0 two.agree

  differ : idents_differ types2 ≡ true
  differ = fits_differ u two.reader_fits

  walks : Walks p2 u room
  walks = record {
    table_fits_lem = two.reader_fits;
    room_fits = enough;
    size_fits = omega (arith, reordered_length t.width re, ap length d.is_tree.bytes_are, d.is_tree.size_fits);
  }

  -- ---- what is missing

  there_present : {path : List ℕ} → LevelThere t rows path → Present m path
  there_present level_one = at_start
  there_present (in_struct {path = path} e) =
      at_struct (sym (same_paths path) ∙ members_branch t rows buf p writer-array writer-fits d path e)

  present_there : {path : List ℕ} → Present m path → LevelThere t rows path
  present_there at_start = level_one
  present_there (at_struct {path = path} e) =
      in_struct (branch_members t rows buf p writer-array writer-fits d path (same_paths path ∙ e))

  lacking_at : (h : Lacking t u rows) → LacksAt types2 1 0 m h.above
  lacking_at h = record {
    ident = h.ident;
    row = h.row;
    row_is = h.row_is;
    required_is = h.required_is;
    present = there_present h.level_there;
    absent =
        sym (same_paths (h.above ++ (h.ident ∷ [])))
        ∙ absent_nothing t rows buf p writer-array writer-fits d (h.above ++ (h.ident ∷ [])) h.absent;
  }

  at_lacking : (above : List ℕ) → LacksAt types2 1 0 m above → Lacking t u rows
  at_lacking above h = record {
    above = above;
    ident = h.ident;
    row = h.row;
    row_is = h.row_is;
    required_is = h.required_is;
    level_there = present_there h.present;
    absent =
        nothing_absent t rows buf p writer-array writer-fits d (above ++ (h.ident ∷ []))
        (same_paths (above ++ (h.ident ∷ [])) ∙ h.absent);
  }

  -- ---- the two answers

  reached : (j : ℕ) → j < u.count → Reached u j
  reached = row_reached u two.types_array two.reader_fits

  shown : (rows2 : List Row) → ByPath p2 types2 1 0 m start2 rows2 → (path : List ℕ) (j : ℕ) → path_row types2 1 0 path ≡ some j
      → Same buf p2 (written_at t rows path) (get_or (full rows2) j absent_row)
  shown rows2 by path j h =
      rw (full_at rows2 (64 - length rows2) j)
      (shown_written t rows buf p writer-array writer-fits d path p2 (row_at types2 j) (get_or rows2 j absent_row)
      (λ i e. (two.agree path i j e h).0)
      (rw (absent_at (length types2) j, ← same_paths path) at (by path j h)))

  answers_accepted : (rows2 : List Row) (n : ℕ) → got ≡ accepted u.count rows2 n → n ≡ unknowns types2 1 0 m → length rows2 ≡ length types2
      → ByPath p2 types2 1 0 m start2 rows2 → (Lacking t u rows → ⊥) → Arrives t u rows buf p2 m got
  answers_accepted rows2 n e en size by none-lacking = record {
    are_bytes = known_bytes (reordered_known re known);
    size_is = sym (reordered_length t.width re);
    verdict_is = inl is;
    missing_if = λ h. absurd (none-lacking h);
    missing_only = λ h. accepted_missing (sym is ∙ h);
    missing_clears = λ h. accepted_missing (sym is ∙ h);
    reached = reached;
    shown = λ h path j q. rw e (shown rows2 by path j q);
    skips = λ h. (ap (λ (r : Reading). r.skipped) e ∙ en, ap (λ (r : Reading). r.place) e);
    fills_all = ap (λ (r : Reading). r.filled) e;
    rows_array = reading_size p2 u room;
    beyond = λ i h.
        rw (e, full_at rows2 (64 - length rows2) i)
        (get_or-eq_default rows2 absent_row (omega (arith, size, length-take u.count u.rows)));
  }
    where
      is : got.verdict ≡ Accepted
      is = ap (λ (r : Reading). r.verdict) e

  answers_missing : (place : ℕ) → got ≡ cleared u.count Missing place → Lacking t u rows → Arrives t u rows buf p2 m got
  answers_missing place e lacking = record {
    are_bytes = known_bytes (reordered_known re known);
    size_is = sym (reordered_length t.width re);
    verdict_is = inr is;
    missing_if = λ h. is;
    missing_only = λ h. lacking;
    missing_clears = λ h. (ap (λ (r : Reading). r.rows) e, ap (λ (r : Reading). r.skipped) e);
    reached = reached;
    shown = λ h. accepted_missing (sym h ∙ is);
    skips = λ h. accepted_missing (sym h ∙ is);
    fills_all = ap (λ (r : Reading). r.filled) e;
    rows_array = reading_size p2 u room;
    beyond = λ i h. rw e (absent_at 64 i);
  }
    where
      is : got.verdict ≡ Missing
      is = ap (λ (r : Reading). r.verdict) e

  by_paths : {r : Reading} → got ≡ r → TreeRead u p2 m r → Arrives t u rows buf p2 m got
  by_paths e (all_there rows2 none_lacks size by) =
      answers_accepted rows2 (unknowns types2 1 0 m) e refl size by (λ h. none_lacks h.above (lacking_at h))
  by_paths e (one_missing {above = above} {place = place} h) = answers_missing place e (at_lacking above h)

  pub arrives : Arrives t u rows buf p2 m got
  arrives = by_paths refl (read_by_paths u room p2 m (ap (λ (w : ℕ). bytes_of w m) two.one_width) walks (rw two.one_width at fits))

-- ---- demand 3

pub demand_3 : Demand3Holds
demand_3 t u rows buf m room s enough =
    arrives t u rows buf s.payload m room s.handed.types_array
    (outcome_fits rows s.room t buf s.space s.payload s.makes).table_fits_lem
    (demand_2 rows s.room t buf s.space s.payload s.handed s.makes) s.two_tables s.reordered enough

pub absent_arrives : AbsentArrives
absent_arrives t u rows buf m room s enough path j leads left_out = by a.verdict_is
  where
    p : List ℕ
    p = bytes_of t.width m

    a : Arrives t u rows buf p m (reading_of p u room)
    a = demand_3 t u rows buf m room s enough

    by : ((reading_of p u room).verdict ≡ Accepted) ⊎ ((reading_of p u room).verdict ≡ Missing) → get_or (reading_of p u room).rows j absent_row ≡ absent_row
    by (inl v) = none_same buf p (written_at t rows path).bits (a.shown v path j leads) left_out
    by (inr v) = rw (a.missing_clears v).0 (absent_at 64 j)
