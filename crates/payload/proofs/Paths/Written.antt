-- What a path finds in the tree that the writer makes is what its rows say: nothing for an absent row, a struct for a present one, and a content
-- that shows the row's value wherever it stands.
-- Assumes nothing.
use mathlib.Core.Path.{◌≡◌, refl, sym, ap, ◌∙◌}
use Prim.Native.Nat.{ℕ, ◌-◌, ◌≤◌, ◌<◌}
use native.Mathlib.Omega.{arith}
use mathlib.Core.Bool.{true, false}
use mathlib.Core.Option.{Option, none, some}
use mathlib.Core.List.{List, [], ◌∷◌}
use lib.ListN.{length, get_or, replicate, length-take, length-replicate}
use lib.Dec.{eqb}
use Rattle.wire.specs.Kind.{struct}
use Rattle.payload.specs.declared.table.TypeRow.{TypeRow}
use Rattle.payload.specs.declared.table.Table.{Table}
use Rattle.payload.specs.declared.row.Row.{Row}
use Rattle.payload.specs.declared.row.Value.{Value}
use Rattle.payload.specs.declared.row.Value.TheVariants.{Absent, Members as Branch}
use Rattle.payload.specs.declared.read.Reading.{Reading}
use Rattle.payload.specs.Table.{type_rows, table_fits, row_at}
use Rattle.payload.specs.Row.{absent_row, members_row, is_absent, shown_of}
use Rattle.payload.specs.Reading.{content_fits, reading_of}
use Rattle.payload.specs.Tree.{Members}
use Rattle.payload.specs.Formed.{for_row, unknowns, filled}
use Rattle.payload.specs.Outcome.{accepted}
use Rattle.payload.specs.Writing.{Put, nothing, leaf, branch, tree_of}
use Rattle.payload.specs.Paths.{path_row, at_path, Lies, Shows, shows_nothing, shows_leaf, shows_branch}
use Rattle.payload.specs.Demand2.{
  SameAs,
  same_absent,
  same_unsigned,
  same_signed,
  same_float32,
  same_float64,
  same_run,
  same_members,
  Same,
  Demand2,
}
use Rattle.payload.specs.Demand3.{written_at}
use Rattle.payload.proofs.Trees.Level.{none_some, true_false}
use Rattle.payload.proofs.Trees.Seen.{absent_shown, absent_at}
use Rattle.payload.proofs.Rules.TableLaws.{fits_keeps}
use Rattle.payload.proofs.Trees.Accepted.{accept_law}
use Rattle.payload.proofs.Trees.Refusals.{full_at}
use Rattle.payload.proofs.Paths.PathLaws.{path_leads}
use Rattle.payload.proofs.Round.Lying.{lies_whole}
use Rattle.payload.proofs.Paths.Filling.{shows_none, Fills, each_fills}
use Rattle.payload.proofs.Paths.KnownTree.{Known, each_known, known_nothing}
use Rattle.payload.proofs.Paths.Moving.{shown_leaf, shown_moved}

-- ---- a value and what is shown of it

module _ (buf p : List ℕ) (bits : ℕ) where
  same_none : {v : Value} {r : Row} → SameAs buf p bits v r → r.value ≡ Absent → v ≡ Absent
  same_none same_absent e = refl
  same_none same_unsigned e = let z : ◌≡◌ {A = ℕ} 0 1 = cc in absurd (omega arith)
  same_none same_signed e = let z : ◌≡◌ {A = ℕ} 0 1 = cc in absurd (omega arith)
  same_none same_float32 e = let z : ◌≡◌ {A = ℕ} 0 1 = cc in absurd (omega arith)
  same_none same_float64 e = let z : ◌≡◌ {A = ℕ} 0 1 = cc in absurd (omega arith)
  same_none (same_run s i) e = let z : ◌≡◌ {A = ℕ} 0 1 = cc in absurd (omega arith)
  same_none same_members e = let z : ◌≡◌ {A = ℕ} 0 1 = cc in absurd (omega arith)

  same_struct : {v : Value} {r : Row} → SameAs buf p bits v r → r.value ≡ Branch → v ≡ Branch
  same_struct same_absent e = let z : ◌≡◌ {A = ℕ} 0 1 = cc in absurd (omega arith)
  same_struct same_unsigned e = let z : ◌≡◌ {A = ℕ} 0 1 = cc in absurd (omega arith)
  same_struct same_signed e = let z : ◌≡◌ {A = ℕ} 0 1 = cc in absurd (omega arith)
  same_struct same_float32 e = let z : ◌≡◌ {A = ℕ} 0 1 = cc in absurd (omega arith)
  same_struct same_float64 e = let z : ◌≡◌ {A = ℕ} 0 1 = cc in absurd (omega arith)
  same_struct (same_run s i) e = let z : ◌≡◌ {A = ℕ} 0 1 = cc in absurd (omega arith)
  same_struct same_members e = refl

  -- and back
  pub none_same : {v : Value} {r : Row} → SameAs buf p bits v r → v ≡ Absent → r ≡ absent_row
  none_same same_absent e = refl
  none_same same_unsigned e = let z : ◌≡◌ {A = ℕ} 0 1 = cc in absurd (omega arith)
  none_same same_signed e = let z : ◌≡◌ {A = ℕ} 0 1 = cc in absurd (omega arith)
  none_same same_float32 e = let z : ◌≡◌ {A = ℕ} 0 1 = cc in absurd (omega arith)
  none_same same_float64 e = let z : ◌≡◌ {A = ℕ} 0 1 = cc in absurd (omega arith)
  none_same (same_run s i) e = let z : ◌≡◌ {A = ℕ} 0 1 = cc in absurd (omega arith)
  none_same same_members e = let z : ◌≡◌ {A = ℕ} 0 1 = cc in absurd (omega arith)

  struct_same : {v : Value} {r : Row} → SameAs buf p bits v r → v ≡ Branch → r ≡ members_row
  struct_same same_absent e = let z : ◌≡◌ {A = ℕ} 0 1 = cc in absurd (omega arith)
  struct_same same_unsigned e = let z : ◌≡◌ {A = ℕ} 0 1 = cc in absurd (omega arith)
  struct_same same_signed e = let z : ◌≡◌ {A = ℕ} 0 1 = cc in absurd (omega arith)
  struct_same same_float32 e = let z : ◌≡◌ {A = ℕ} 0 1 = cc in absurd (omega arith)
  struct_same same_float64 e = let z : ◌≡◌ {A = ℕ} 0 1 = cc in absurd (omega arith)
  struct_same (same_run s i) e = let z : ◌≡◌ {A = ℕ} 0 1 = cc in absurd (omega arith)
  struct_same same_members e = refl

-- ---- a row and what its path finds

-- A content stands in p and shows the row's value there.
data Carried (buf p : List ℕ) (r : TypeRow) (v : Row) : Put → Type 0 where
  carried_nothing : v.value ≡ Absent → Carried buf p r v nothing
  carried_branch : v.value ≡ Branch → Carried buf p r v branch
  carried_leaf : {place : ℕ} {c : List ℕ} → eqb r.kind struct ≡ false → content_fits r c ≡ true → Lies p place c
      → Same buf p v (shown_of r place c) → Carried buf p r v (leaf c)

module _ (buf p : List ℕ) (r : TypeRow) (v : Row) where
  carries : {o : Put} {new : Row} → Shows p r absent_row o new → Same buf p v new → Carried buf p r v o
  carries shows_nothing s = carried_nothing (same_none buf p v.bits s refl)
  carries (shows_leaf ns fits lies) s = carried_leaf ns fits lies s
  carries shows_branch s = carried_branch (same_struct buf p v.bits s refl)

  carried_absent : {o : Put} → Carried buf p r v o → o ≡ nothing → v.value ≡ Absent
  carried_absent (carried_nothing e) z = e
  carried_absent (carried_branch e) z = let z : ◌≡◌ {A = ℕ} 0 1 = cc in absurd (omega arith)
  carried_absent (carried_leaf ns fits lies s) z = let z : ◌≡◌ {A = ℕ} 0 1 = cc in absurd (omega arith)

  carried_members : {o : Put} → Carried buf p r v o → o ≡ branch → v.value ≡ Branch
  carried_members (carried_nothing e) z = let z : ◌≡◌ {A = ℕ} 0 1 = cc in absurd (omega arith)
  carried_members (carried_branch e) z = e
  carried_members (carried_leaf ns fits lies s) z = let z : ◌≡◌ {A = ℕ} 0 1 = cc in absurd (omega arith)

  absent_carried : {o : Put} → Carried buf p r v o → v.value ≡ Absent → o ≡ nothing
  unfolding is_absent
  absent_carried (carried_nothing e) z = refl
  absent_carried (carried_branch e) z = let z : ◌≡◌ {A = ℕ} 0 1 = cc in absurd (omega arith)
  absent_carried (carried_leaf {place} {c} ns fits lies s) z =
      let e : shown_of r place c ≡ absent_row = none_same buf p v.bits s z in
      true_false (sym (ap is_absent e) ∙ absent_shown r place c)

  module _ (few : r.kind ≤ 14) where
    members_carried : {o : Put} → Carried buf p r v o → v.value ≡ Branch → o ≡ branch
    members_carried (carried_nothing e) z = let z : ◌≡◌ {A = ℕ} 0 1 = cc in absurd (omega arith)
    members_carried (carried_branch e) z = refl
    members_carried (carried_leaf {place} {c} ns fits lies s) z =
        let e : shown_of r place c ≡ members_row = struct_same buf p v.bits s z in
        absurd (shown_leaf r place c few ns (ap (λ (x : Row). x.value) e))

    -- what another row of its kind shows, of another payload
    carried_shown : {o : Put} (p2 : List ℕ) (r2 : TypeRow) {new : Row} → r.kind ≡ r2.kind → Carried buf p r v o → Shows p2 r2 absent_row o new
        → Same buf p2 v new
    carried_shown p2 r2 ek (carried_nothing e) shows_nothing = rw e same_absent
    carried_shown p2 r2 ek (carried_branch e) shows_branch = rw e same_members
    carried_shown p2 r2 ek (carried_leaf {place} {c} ns fits lies s) (shows_leaf {place = place2} ns2 fits2 lies2) =
        shown_moved buf p p2 v.bits r r2 place place2 c ek few ns fits lies lies2 s

-- ---- the writer's tree

module _ (t : Table) (rows : List Row) where
  written_row : (path : List ℕ) (i : ℕ) → path_row (type_rows t) 1 0 path ≡ some i → written_at t rows path ≡ get_or rows i absent_row
  unfolding written_at for_row
  written_row path i e = rw e

  written_none : (path : List ℕ) → path_row (type_rows t) 1 0 path ≡ none → written_at t rows path ≡ absent_row
  unfolding written_at for_row
  written_none path e = rw e

module _ (t : Table) (rows : List Row) (buf p : List ℕ) (all : length t.rows ≡ 64) (fits : table_fits t ≡ true) (d : Demand2 rows t buf p) where
  abbrev types : List TypeRow
  types = type_rows t

  abbrev tree : Members
  tree = tree_of t buf rows

  abbrev start : List Row
  start = replicate (length types) absent_row

  abbrev after : List Row
  after = filled t.width types 1 0 0 tree start

  own_reading : reading_of p t t.count ≡ accepted t.count after (unknowns types 1 0 tree)
  own_reading =
      (accept_law p t t.count).tree_read after (unknowns types 1 0 tree)
      (record { table_fits_lem = fits; room_fits = omega arith; size_fits = d.is_tree.size_fits })
      (record { tree = tree; formed = d.is_tree.formed; bytes_are = sym d.is_tree.bytes_are; rows_are = refl; count_is = refl })

  pub tree_known : Known t.width types 1 0 tree
  tree_known =
      each_known d.is_tree.formed.each
      (sym (ap (λ (r : Reading). r.skipped) own_reading) ∙ (d.read_back t.count (omega arith)).skips_none)

  own_fills : Fills p t.width types 1 0 tree start after
  own_fills =
      each_fills p t.width types d.is_tree.formed.each 0 start (length-replicate (length types) absent_row)
      (rw (← d.is_tree.bytes_are) (lies_whole p))

  row_in : (path : List ℕ) (i : ℕ) → path_row types 1 0 path ≡ some i → i < t.count
  unfolding path_row
  row_in [] i e = none_some e
  row_in (x ∷ path) i e = let l = path_leads types 1 0 x path i e in omega (arith, l.inside, length-take t.count t.rows)

  few_kinds : (path : List ℕ) (i : ℕ) → path_row types 1 0 path ≡ some i → (row_at types i).kind ≤ 14
  few_kinds path i e = ((fits_keeps t all fits).each_row i (row_in path i e)).kind_most

  carried : (path : List ℕ) (i : ℕ) → path_row types 1 0 path ≡ some i → Carried buf p (row_at types i) (get_or rows i absent_row) (at_path tree path)
  carried path i e =
      let same : Same buf p (get_or rows i absent_row) (get_or after i absent_row) =
      rw (own_reading, full_at after (64 - length after) i) at ((d.read_back t.count (omega arith)).same i (row_in path i e)) in
      let shows = rw (absent_at (length types) i) at (own_fills.by_path path i e) in
      carries buf p (row_at types i) (get_or rows i absent_row) shows same

  -- a path, by whether it leads to a row
  data Wrote (path : List ℕ) : Type 0 where
    no_row : written_at t rows path ≡ absent_row → at_path tree path ≡ nothing → Wrote path
    a_row : (i : ℕ) → path_row types 1 0 path ≡ some i → written_at t rows path ≡ get_or rows i absent_row → Wrote path

  wrote : (path : List ℕ) → Wrote path
  wrote path = go (path_row types 1 0 path) refl
    where
      go : (o : Option ℕ) → path_row types 1 0 path ≡ o → Wrote path
      go none e = no_row (written_none t rows path e) (known_nothing tree_known path e)
      go (some i) e = a_row i e (written_row t rows path i e)

  pub nothing_absent : (path : List ℕ) → at_path tree path ≡ nothing → (written_at t rows path).value ≡ Absent
  nothing_absent path z = go (wrote path)
    where
      go : Wrote path → (written_at t rows path).value ≡ Absent
      go (no_row w e) = ap (λ (r : Row). r.value) w
      go (a_row i e w) = ap (λ (r : Row). r.value) w ∙ carried_absent buf p (row_at types i) (get_or rows i absent_row) (carried path i e) z

  pub absent_nothing : (path : List ℕ) → (written_at t rows path).value ≡ Absent → at_path tree path ≡ nothing
  absent_nothing path z = go (wrote path)
    where
      go : Wrote path → at_path tree path ≡ nothing
      go (no_row w e) = e
      go (a_row i e w) =
          absent_carried buf p (row_at types i) (get_or rows i absent_row) (carried path i e) (sym (ap (λ (r : Row). r.value) w) ∙ z)

  pub branch_members : (path : List ℕ) → at_path tree path ≡ branch → (written_at t rows path).value ≡ Branch
  branch_members path z = go (wrote path)
    where
      go : Wrote path → (written_at t rows path).value ≡ Branch
      go (no_row w e) = let z : ◌≡◌ {A = ℕ} 0 1 = cc in absurd (omega arith)
      go (a_row i e w) = ap (λ (r : Row). r.value) w ∙ carried_members buf p (row_at types i) (get_or rows i absent_row) (carried path i e) z

  pub members_branch : (path : List ℕ) → (written_at t rows path).value ≡ Branch → at_path tree path ≡ branch
  members_branch path z = go (wrote path)
    where
      go : Wrote path → at_path tree path ≡ branch
      go (no_row w e) = let v = sym (ap (λ (r : Row). r.value) w) ∙ z in let z : ◌≡◌ {A = ℕ} 0 1 = cc in absurd (omega arith)
      go (a_row i e w) =
          members_carried buf p (row_at types i) (get_or rows i absent_row) (few_kinds path i e) (carried path i e)
          (sym (ap (λ (r : Row). r.value) w) ∙ z)

  -- A row of another table, of the same kind where the writer's has one, that shows what the path finds shows what was written.
  pub shown_written : (path p2 : List ℕ) (r2 : TypeRow) (new : Row)
      → ((i : ℕ) → path_row types 1 0 path ≡ some i → (row_at types i).kind ≡ r2.kind)
      → Shows p2 r2 absent_row (at_path tree path) new → Same buf p2 (written_at t rows path) new
  shown_written path p2 r2 new kind shows = go (wrote path)
    where
      go : Wrote path → Same buf p2 (written_at t rows path) new
      go (no_row w e) = rw (w, shows_none p2 r2 shows e) same_absent
      go (a_row i e w) =
          rw w (carried_shown buf p (row_at types i) (get_or rows i absent_row) (few_kinds path i e) p2 r2 (kind i e) (carried path i e) shows)
