-- A table that is accepted has the caller's numbers.
-- Assumes nothing.
use mathlib.Core.Path.{◌≡◌, refl, ap, ◌∙◌}
use Prim.Native.Nat.{ℕ, zero, suc, ◌+◌, ◌*◌, ◌≤◌, ◌<◌}
use native.Mathlib.Omega.{arith}
use mathlib.Core.Bool.{Bool, true, false}
use mathlib.Core.List.{List}
use lib.ListN.{length, get_or, set}
use lib.Seq.{get_or-set_same, get_or-set_other, get_or-take}
use lib.Dec.{leb, eqb}
use borrow.Author.Tests.{leb-true, eqb-true, eqb-false}
use Rattle.wire.specs.Choose.{pick, and}
use Rattle.payload.specs.declared.table.TypeRow.{TypeRow}
use Rattle.payload.specs.Table.{no_row, TableRules}
use Rattle.payload.proofs.Promises.{table_decided}
use Rattle.chudopolk.specs.declared.table.Form.{Form}
use Rattle.chudopolk.specs.Table.{row_holds, type_row_of, type_row_at, type_rows_of, taken_of, table_of}
use Rattle.chudopolk.specs.Promises.{RowKept, TablesKept}
use Rattle.chudopolk.proofs.TableLaws.{and_right, holds_bounds, length_type_rows_of, taken_within}

-- ---- a row

-- a row of level 1 or more has numbers that a row can hold
held : (b : Bool) (l x k e q : ℕ) → 1 ≤ (pick b (record { level = l; ident = x; kind = k; elem = e; required = eqb q 1 }) no_row).level → b ≡ true
held true l x k e q h = refl
held false l x k e q h = absurd (omega arith)

module _ (l x k e q : ℕ) where
  row_held : 1 ≤ (type_row_of l x k e q).level → row_holds l x k e q ≡ true
  unfolding type_row_of
  row_held h = held (row_holds l x k e q) l x k e q h

  row_is : row_holds l x k e q ≡ true → type_row_of l x k e q ≡ record { level = l; ident = x; kind = k; elem = e; required = eqb q 1 }
  unfolding type_row_of
  row_is h = rw h

row_kept : (numbers : List ℕ) (i : ℕ) (r : TypeRow) → r ≡ type_row_at numbers i → 1 ≤ r.level → RowKept numbers i r
row_kept numbers i r h some =
    let n : ℕ → ℕ = λ k. get_or numbers (5 * i + k) 0 in
    let holds = row_held (get_or numbers (5 * i) 0) (n 1) (n 2) (n 3) (n 4) (rw h at some) in
    let is = h ∙ row_is (get_or numbers (5 * i) 0) (n 1) (n 2) (n 3) (n 4) holds in
    record {
      level_is = ap (λ (t : TypeRow). t.level) is;
      ident_is = ap (λ (t : TypeRow). t.ident) is;
      kind_is = ap (λ (t : TypeRow). t.kind) is;
      elem_is = ap (λ (t : TypeRow). t.elem) is;
      required_is = ap (λ (t : TypeRow). t.required) is;
      mark_in = (holds_bounds (get_or numbers (5 * i) 0) (n 1) (n 2) (n 3) (n 4) holds).mark_in;
    }

-- ---- the rows

one_more : (n i : ℕ) (numbers : List ℕ) (b : Bool) → eqb i n ≡ b → n < 64 → i < suc n
    → (i < n → get_or (type_rows_of n numbers) i no_row ≡ type_row_at numbers i)
    → get_or (set (type_rows_of n numbers) n (type_row_at numbers n)) i no_row ≡ type_row_at numbers i
one_more n i numbers true e few h before =
    let same : i ≡ n = eqb-true _ _ e in
    rw same (get_or-set_same (type_rows_of n numbers) n (type_row_at numbers n) no_row (omega (arith, length_type_rows_of n numbers)))
one_more n i numbers false e few h before =
    let differ : i ≡ n → ⊥ = eqb-false _ _ e in
    get_or-set_other (type_rows_of n numbers) n i (type_row_at numbers n) no_row differ ∙ before (omega arith)

at : (n i : ℕ) (numbers : List ℕ) → n ≤ 64 → i < n → get_or (type_rows_of n numbers) i no_row ≡ type_row_at numbers i
unfolding type_rows_of
at zero i numbers few h = absurd (omega arith)
at (suc n) i numbers few h = one_more n i numbers (eqb i n) refl (omega arith) h (λ k. at n i numbers (omega arith) k)

-- ---- the table

-- some rows are taken, so that the form's own number is
taken_some : (form : Form) (len : ℕ) → 1 ≤ taken_of form len → (taken_of form len ≡ form.count) × (form.fixed ≤ 1)
unfolding taken_of
taken_some form len h = go (and (leb form.count 64) (and (leb (5 * form.count) len) (leb form.fixed 1))) refl h
  where
    go : (b : Bool) → and (leb form.count 64) (and (leb (5 * form.count) len) (leb form.fixed 1)) ≡ b → 1 ≤ pick b form.count 0
        → (pick b form.count 0 ≡ form.count) × (form.fixed ≤ 1)
    go true e some =
        (refl, leb-true form.fixed 1 (and_right (leb (5 * form.count) len) (leb form.fixed 1) (and_right (leb form.count 64) _ e)))
    go false e some = absurd (omega arith)

pub tables_kept : TablesKept
unfolding table_of
tables_kept form numbers fits =
    let n = taken_of form (length numbers) in
    let rules : TableRules (table_of form numbers) = (table_decided (table_of form numbers) (length_type_rows_of n numbers)).fits_keeps fits in
    let some = taken_some form (length numbers) rules.count_least in
    let within = taken_within form (length numbers) in
    record {
      mark_in = some.1;
      numbers_in = omega (arith, some.0, within.1);
      count_is = some.0;
      width_is = refl;
      fixed_is = refl;
      each_row = λ i h.
          let below : i < n = omega (arith, some.0) in
          let same = get_or-take n (type_rows_of n numbers) i no_row below ∙ at n i numbers within.0 below in
          row_kept numbers i _ same (rules.each_row i below).level_least;
    }
