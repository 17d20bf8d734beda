-- The check of a table, row by row: what is known of the rows that were passed, and what the answer is at each return.
-- Assumes nothing.
use mathlib.Core.Path.{◌≡◌, refl, sym, ap, ◌∙◌}
use Prim.Native.Nat.{ℕ, zero, suc, ◌+◌, ◌≤◌, ◌<◌}
use native.Mathlib.Omega.{arith}
use native.Mathlib.Numerals.{add-one}
use mathlib.Core.Bool.{Bool, true, false}
use mathlib.Core.List.{List, [], ◌∷◌}
use lib.ListN.{length, take, get_or, set, length-set}
use lib.Seq.{slice, slice_empty, slice-cons, get_or-take, length-take-le, get_or-set_same, get_or-set_other}
use lib.Dec.{leb, eqb}
use borrow.Author.Tests.{eqb-true, eqb-false}
use Rattle.wire.specs.Choose.{and}
use Rattle.payload.specs.declared.table.TypeRow.{TypeRow}
use Rattle.payload.specs.declared.table.Table.{Table}
use Rattle.payload.specs.Table.{in_range, row_fits, level_most, rows_fit, idents_differ, type_rows, width_fits, table_fits, no_row, row_at, RowRules}
use Rattle.payload.specs.Cells.{cell_of, level_in, row_in, rows_in, table_in, FineTable, SoundTable, Filled, Checked}
use Rattle.payload.proofs.Joined.{clash, and_left, and_right, refuted}
use Rattle.payload.proofs.Rules.CellLaws.{cell_row, row_at_lem, table_length, table_first}
use Rattle.payload.proofs.Rules.RowLaws.{range_in, in_range_lem, fits_rules, fine_row, most_in, width_small}
use Rattle.payload.proofs.Rules.Rising.{marked, ascends, marked_long, ascends_differ}

-- ---- the tests of a table

pub record Tests (t : Table) : Type 0 where
  pub some : 1 ≤ t.count
  pub few : t.count ≤ 64
  pub width : width_fits t.width ≡ true
  pub rows : rows_fit 1 (type_rows t) ≡ true
  pub differ : idents_differ (type_rows t) ≡ true

module _ (t : Table) where
  pub fits_tests : table_fits t ≡ true → Tests t
  unfolding table_fits
  fits_tests e =
      let e1 = and_right (in_range 1 64 t.count) _ e in
      let e2 = and_right (width_fits t.width) _ e1 in
      let n = range_in 1 64 t.count (and_left (in_range 1 64 t.count) _ e) in
      record {
        some = n.0;
        few = n.1;
        width = and_left (width_fits t.width) _ e1;
        rows = and_left (rows_fit 1 (type_rows t)) (idents_differ (type_rows t)) e2;
        differ = and_right (rows_fit 1 (type_rows t)) (idents_differ (type_rows t)) e2;
      }

  -- what is left where the other tests are met
  pub fits_differ : 1 ≤ t.count → t.count ≤ 64 → width_fits t.width ≡ true → rows_fit 1 (type_rows t) ≡ true → idents_differ (type_rows t) ≡ table_fits t
  unfolding table_fits
  fits_differ a b c d = rw (in_range_lem 1 64 t.count a b, c, d)

  module _ (cells : List ℕ) (long : length cells ≡ 64) where
    -- a table that fails a test is refused
    pub refuse : (Tests t → ⊥) → Checked t cells false
    refuse h = record { answer = sym (refuted (table_fits t) (λ e. h (fits_tests e))); long = long; filled = λ e. clash e }

-- ---- the rows that were passed

pub record Passed (t : Table) (starts : List ℕ) (i most : ℕ) (rising : Bool) (cells lasts : List ℕ) : Type 0 where
  pub inside : i ≤ t.count
  pub most_in : most ≤ 4
  pub long : length cells ≡ 64
  pub marks : length lasts ≡ 6
  pub each : (j : ℕ) → j < i → (row_in (get_or cells j 0) ≡ row_at t.rows j) × RowRules (row_at t.rows j)
  pub fits_from : rows_fit 1 (type_rows t) ≡ rows_fit most (slice i t.count t.rows)
  pub rises_from : ascends starts (type_rows t) ≡ and rising (ascends lasts (slice i t.count t.rows))

pub passed_none : (t : Table) (cells lasts : List ℕ) → length cells ≡ 64 → length lasts ≡ 6 → Passed t lasts 0 1 true cells lasts
passed_none t cells lasts a b =
    record { inside = omega arith; most_in = omega arith; long = a; marks = b; each = λ j h. absurd (omega arith); fits_from = refl; rises_from = refl }

module _ (t : Table) (all : length t.rows ≡ 64) (starts : List ℕ) (i most : ℕ) (rising : Bool) (cells lasts : List ℕ) (p : Passed t starts i most rising cells lasts)
    (few : t.count ≤ 64) where
  module _ (h : i < t.count) where
    here : slice i t.count t.rows ≡ row_at t.rows i ∷ slice (suc i) t.count t.rows
    here = slice-cons i t.count t.rows no_row h (omega arith)

    stop : row_fits most (row_at t.rows i) ≡ false → rows_fit 1 (type_rows t) ≡ false
    unfolding rows_fit
    stop e = p.fits_from ∙ rw (here, e)

    pub passed_stop : row_fits most (row_at t.rows i) ≡ false → Checked t cells false
    passed_stop e = refuse t cells p.long (λ k. clash (sym (stop e) ∙ k.rows))

    module _ (e : row_fits most (row_at t.rows i) ≡ true) (m : ℕ) (em : m ≡ level_most (row_at t.rows i)) (c : ℕ) (ec : c ≡ cell_of (row_at t.rows i))
        (l x : ℕ) (el : l ≡ (row_at t.rows i).level) (ex : x ≡ (row_at t.rows i).ident) (up : Bool) (eu : up ≡ and rising (leb (get_or lasts l 0) x)) where
      rules : RowRules (row_at t.rows i)
      rules = (fits_rules (row_at t.rows i) most e).0

      each_next : (j : ℕ) → j < suc i → (b : Bool) → eqb j i ≡ b → (row_in (get_or (set cells i c) j 0) ≡ row_at t.rows j) × RowRules (row_at t.rows j)
      each_next j k true d =
          rw (eqb-true j i d, get_or-set_same cells i c 0 (omega (arith, p.long)), ec) (cell_row (row_at t.rows i) (fine_row (row_at t.rows i) rules), rules)
      each_next j k false d =
          let ne : j ≡ i → ⊥ = eqb-false j i d in
          rw (get_or-set_other cells i j c 0 ne) (p.each j (omega arith))

      fits_next : rows_fit 1 (type_rows t) ≡ rows_fit m (slice (suc i) t.count t.rows)
      unfolding rows_fit
      fits_next = p.fits_from ∙ rw (here, e, em)

      rises_next : ascends starts (type_rows t) ≡ and up (ascends (marked lasts l x) (slice (suc i) t.count t.rows))
      unfolding ascends
      rises_next = p.rises_from ∙ rw (here, eu, el, ex) (and_assoc rising _ _)
        where
          and_assoc : (a b d : Bool) → and a (and b d) ≡ and (and a b) d
          and_assoc true b d = refl
          and_assoc false b d = refl

      pub passed_next : Passed t starts (i + 1) m up (set cells i c) (marked lasts l x)
      passed_next =
          rw (add-one i)
          (record {
            inside = h;
            most_in = rw em (most_in (row_at t.rows i) rules);
            long = length-set cells i c ∙ p.long;
            marks = marked_long lasts l x ∙ p.marks;
            each = λ j k. each_next j k (eqb j i) refl;
            fits_from = fits_next;
            rises_from = rises_next;
          })

  -- ---- behind the last row

  module _ (h : t.count ≤ i) where
    at_end_lem : i ≡ t.count
    at_end_lem = omega (arith, p.inside)

    end_rows : slice i t.count t.rows ≡ []
    end_rows = rw at_end_lem (slice_empty t.count t.rows)

    pub all_fit : rows_fit 1 (type_rows t) ≡ true
    unfolding rows_fit
    all_fit = p.fits_from ∙ rw end_rows

    all_risen : rising ≡ true → ascends starts (type_rows t) ≡ true
    unfolding ascends
    all_risen r = p.rises_from ∙ rw (r, end_rows)

    pub all_fine : FineTable t.count cells
    all_fine = record {
      few = few;
      each = λ j k. let d = p.each j (omega arith) in rw d.0 (fine_row (row_at t.rows j) d.1);
    }

    rows_same : (k j : ℕ) → j + k ≤ t.count → rows_in k j cells ≡ slice j (j + k) t.rows
    unfolding rows_in
    rows_same zero j d = let e : j + 0 ≡ j = omega arith in rw (e, slice_empty j t.rows)
    rows_same (suc k) j d =
        let e : j + suc k ≡ suc j + k = omega arith in
        rw (slice-cons j (j + suc k) t.rows no_row (omega arith) (omega arith), (p.each j (omega arith)).0, e)
        (ap (λ (s : List TypeRow). row_at t.rows j ∷ s) (rows_same k (suc j) (omega arith)))

    pub all_rows : table_in t.count cells ≡ type_rows t
    unfolding table_in
    all_rows =
        let e : 0 + t.count ≡ t.count = omega arith in
        rows_same t.count 0 (omega arith) ∙ ap (λ (k : ℕ). slice 0 k t.rows) e

    module _ (some : 1 ≤ t.count) (width : width_fits t.width ≡ true) where
      -- the answer is whether the Data IDs differ
      pub answer_differ : (b : Bool) → b ≡ idents_differ (table_in t.count cells) → Checked t cells b
      answer_differ b e = record {
        answer = e ∙ ap idents_differ all_rows ∙ fits_differ t some few width all_fit;
        long = p.long;
        filled = λ k. record { rows_are = all_rows; fine = all_fine; width_in = width_small t.width width; count_some = omega arith };
      }

      -- Data IDs that rose differ
      pub answer_rising : length starts ≡ 6 → rising ≡ true → Checked t cells true
      answer_rising w r = answer_differ true (sym (ap idents_differ all_rows ∙ ascends_differ 1 starts (type_rows t) all_fit w (all_risen r)))

-- ---- the cells that count

first_long : (n : ℕ) (cells : List ℕ) → length cells ≡ 64 → n ≤ 64 → length (take n cells) ≡ n
first_long n cells a h = length-take-le n cells (omega arith)

pub first_table : (n : ℕ) (cells : List ℕ) → length cells ≡ 64 → n ≤ 64 → table_in (length (take n cells)) (take n cells) ≡ table_in n cells
first_table n cells a h = rw (first_long n cells a h) (table_first n cells)

pub first_fine : (n : ℕ) (cells : List ℕ) → length cells ≡ 64 → FineTable n cells → FineTable (length (take n cells)) (take n cells)
first_fine n cells a f =
    rw (first_long n cells a f.few)
    (record {
      few = f.few;
      each = λ i h. rw (get_or-take n cells i 0 h) (f.each i h);
    })

-- ---- what every checked table keeps

first_level : (rs : List TypeRow) → rows_fit 1 rs ≡ true → 0 < length rs → (get_or rs 0 no_row).level ≤ 1
unfolding rows_fit
first_level [] e h = absurd (omega arith)
first_level (r ∷ rs) e h = (fits_rules r 1 (and_left (row_fits 1 r) (rows_fit (level_most r) rs) e)).1

pub sound : (t : Table) (cells : List ℕ) → Checked t cells true → SoundTable cells t.count t.width
sound t cells k = let f = k.filled refl in record { fine = f.fine; width_in = f.width_in }

-- what the writer needs besides: a first row, which has level 1, and a width of 1, 2 or 4
pub record Begins (cells : List ℕ) (n width : ℕ) : Type 0 where
  pub some : 0 < n
  pub first : level_in (get_or cells 0 0) ≡ 1
  pub width_is : width_fits width ≡ true

pub begins : (t : Table) (cells : List ℕ) → Checked t cells true → Begins cells t.count t.width
begins t cells k = record { some = f.count_some; first = first; width_is = tests.width }
  where
    f : Filled t cells
    f = k.filled refl

    tests : Tests t
    tests = fits_tests t (sym k.answer)

    first : level_in (get_or cells 0 0) ≡ 1
    first =
        let same : (get_or (table_in t.count cells) 0 no_row).level ≡ level_in (get_or cells 0 0) =
        ap (λ (r : TypeRow). r.level) (row_at_lem cells t.count 0 no_row f.count_some) in
        let few : (get_or (table_in t.count cells) 0 no_row).level ≤ 1 =
        first_level (table_in t.count cells) (rw f.rows_are tests.rows) (rw (table_length t.count cells) f.count_some) in
        let least = (f.fine.each 0 f.count_some).level_some in
        omega arith
