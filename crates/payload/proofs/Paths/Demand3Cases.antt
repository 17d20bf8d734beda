-- Demand 3 isn't empty: the two tables agree, the members are reordered, and the readings are computed.
-- Assumes nothing.
use mathlib.Core.Path.{◌≡◌, refl, sym, ◌∙◌}
use Prim.Native.Nat.{ℕ, zero, suc, ◌+◌, ◌<◌}
use native.Mathlib.Omega.{arith}
use native.Mathlib.Nat.{le_of_suc-le-suc}
use mathlib.Core.Bool.{Bool, true}
use mathlib.Core.Option.{some}
use mathlib.Core.List.{List, [], ◌∷◌}
use lib.ListN.{length}
use lib.Dec.{eqb}
use borrow.Author.Tests.{eqb-true, eq-eqb}
use Rattle.wire.specs.Choose.{pick, and}
use Rattle.wire.specs.Number.{number_of, number_bytes, signed_of, twos_of}
use Rattle.wire.proofs.NumberLaws.{bytes_nil}
use Rattle.payload.specs.declared.table.TypeRow.{TypeRow}
use Rattle.payload.specs.declared.table.Table.{Table}
use Rattle.payload.specs.Table.{row_fits, rows_fit, later, find, idents_differ, type_rows, table_fits, row_at}
use Rattle.payload.specs.Row.{is_absent, number_row, shown_of}
use Rattle.payload.specs.Reading.{
  content_of,
  lengthed_of,
  body_of,
  unknown,
  content_fits,
  known,
  met,
  step_of,
  behind,
  member_by,
  lacks,
  end_of,
  level_by,
  walk,
  walked_of,
  answer_of,
  checked_of,
  reading_of,
}
use Rattle.payload.specs.Tree.{field_bytes, member_bytes, bytes_of}
use Rattle.payload.specs.Judging.{unsigned_fits, signed_fits, float_fits, run_fits, row_fine, up_after, judged_from, judged_of}
use Rattle.payload.specs.Writing.{run_wire, tag_for, put_of, parts_of, placed, nested, tree_of, some_wide, sized_of, if_fine, outcome_of}
use Rattle.payload.specs.Paths.{path_row}
use Rattle.payload.specs.Demand3.{Agree, as_is, swapped, within, again}
use Rattle.payload.specs.Demand3Cases.{writer_table, reader_table, written_rows, other_order, other_bytes, Demand3Shown}
use Rattle.payload.proofs.Trees.Level.{none_some, and_left, and_right, found_level, found_ident}
use Rattle.payload.proofs.Paths.PathLaws.{path_one, path_more, path_leads}

-- ---- tables that agree, by a test of their rows

-- rows of one level and one Data ID have one kind and one element kind
abbrev pub pair_fits : TypeRow → TypeRow → Bool
pair_fits r s =
    pick (and (eqb r.level s.level) (eqb r.ident s.ident)) (and (eqb r.kind s.kind) (eqb r.elem s.elem)) true

unfoldable pub each_fits : (TypeRow → Bool) → List TypeRow → Bool
each_fits f [] = true
each_fits f (r ∷ rs) = and (f r) (each_fits f rs)

each_at : (f : TypeRow → Bool) (rs : List TypeRow) (i : ℕ) → each_fits f rs ≡ true → i < length rs → f (row_at rs i) ≡ true
unfolding each_fits
each_at f [] i e h = absurd (omega arith)
each_at f (r ∷ rs) zero e h = and_left (f r) (each_fits f rs) e
each_at f (r ∷ rs) (suc i) e h = each_at f rs i (and_right (f r) (each_fits f rs) e) (le_of_suc-le-suc h)

-- the rows that one path leads to in two tables have one level and one Data ID
record Alike (types types2 : List TypeRow) (i j : ℕ) : Type 0 where
  inside : i < length types
  inside2 : j < length types2
  level_is : (row_at types i).level ≡ (row_at types2 j).level
  ident_is : (row_at types i).ident ≡ (row_at types2 j).ident

path_alike : (types types2 : List TypeRow) (l first first2 : ℕ) (path : List ℕ) (i j : ℕ) → path_row types l first path ≡ some i
    → path_row types2 l first2 path ≡ some j → Alike types types2 i j
unfolding path_row
path_alike types types2 l first first2 [] i j e e2 = none_some e
path_alike types types2 l first first2 (x ∷ []) i j e e2 =
    let a = path_leads types l first x [] i e in
    let b = path_leads types2 l first2 x [] j e2 in
    let o = path_one types l first x a.head a.found in
    let o2 = path_one types2 l first2 x b.head b.found in
    let z : i ≡ first + a.head = cc in
    let z2 : j ≡ first2 + b.head = cc in
    record {
      inside = a.inside;
      inside2 = b.inside;
      level_is = rw (z, z2) (found_level types l first x a.head a.found ∙ sym (found_level types2 l first2 x b.head b.found));
      ident_is = rw (z, z2) (found_ident types l first x a.head a.found ∙ sym (found_ident types2 l first2 x b.head b.found));
    }
path_alike types types2 l first first2 (x ∷ y ∷ path) i j e e2 =
    let a = path_leads types l first x (y ∷ path) i e in
    let b = path_leads types2 l first2 x (y ∷ path) j e2 in
    path_alike types types2 (suc l) (suc (first + a.head)) (suc (first2 + b.head)) (y ∷ path) i j
    (sym (path_more types l first x a.head y path a.found) ∙ e) (sym (path_more types2 l first2 x b.head y path b.found) ∙ e2)

pub tables_agree : (t u : Table) → each_fits (λ r. each_fits (pair_fits r) (type_rows u)) (type_rows t) ≡ true → Agree t u
tables_agree t u e path i j h h2 =
    let a = path_alike (type_rows t) (type_rows u) 1 0 0 path i j h h2 in
    let f : pair_fits (row_at (type_rows t) i) (row_at (type_rows u) j) ≡ true =
    each_at (pair_fits (row_at (type_rows t) i)) (type_rows u) j
    (each_at (λ r. each_fits (pair_fits r) (type_rows u)) (type_rows t) i e a.inside) a.inside2 in
    go (row_at (type_rows t) i) (row_at (type_rows u) j) a.level_is a.ident_is f
  where
    go : (r s : TypeRow) → r.level ≡ s.level → r.ident ≡ s.ident → pair_fits r s ≡ true → (r.kind ≡ s.kind) × (r.elem ≡ s.elem)
    go r s el ei f =
        let g : and (eqb r.kind s.kind) (eqb r.elem s.elem) ≡ true =
        rw (eq-eqb r.level s.level el, eq-eqb r.ident s.ident ei) at f in (
          eqb-true r.kind s.kind (and_left (eqb r.kind s.kind) _ g),
          eqb-true r.elem s.elem (and_right (eqb r.kind s.kind) _ g),
        )

-- ---- the case

pub demand3_shown : Demand3Shown
unfolding number_of number_bytes signed_of twos_of row_fits rows_fit later find idents_differ table_fits is_absent number_row shown_of content_of lengthed_of body_of unknown content_fits known met step_of behind member_by lacks end_of level_by walk walked_of answer_of checked_of reading_of field_bytes member_bytes bytes_of unsigned_fits signed_fits float_fits run_fits row_fine up_after judged_from judged_of run_wire tag_for put_of parts_of placed nested tree_of some_wide sized_of if_fine outcome_of each_fits writer_table reader_table written_rows other_order other_bytes
demand3_shown = record {
  sent = λ required. record {
    room = 6;
    space = 17;
    payload = bytes_of 1 (tree_of writer_table [] written_rows);
    handed = record { types_array = refl; rows_array = refl; buf_bytes = bytes_nil };
    makes = refl;
    two_tables = record {
      types_array = refl;
      reader_fits = refl;
      one_width = refl;
      agree = tables_agree writer_table (reader_table required) refl;
    };
    reordered = again swapped (again (within as_is swapped) (again swapped (within as_is (within swapped as_is))));
  };
  bytes_are = refl;
  reads = refl;
  lacks = refl;
}
