-- The tests of a type table and its rules in the paper's words say the same; and a Data ID has at most one row at a level, which is the one that
-- the search finds.
-- Assumes nothing.
use mathlib.Core.Path.{◌≡◌, refl, sym, ap, ◌∙◌}
use Prim.Native.Nat.{ℕ, zero, suc, ◌+◌, ◌-◌, ◌≤◌, ◌<◌, zero-le, suc-le-suc}
use native.Mathlib.Omega.{arith}
use native.Mathlib.Nat.{le_of_suc-le-suc}
use mathlib.Core.Logic.{◌⊎◌, inl, inr}
use mathlib.Core.Bool.{Bool, true, false}
use mathlib.Core.Option.{Option, none, some}
use mathlib.Core.List.{List, [], ◌∷◌}
use lib.ListN.{length, drop, length-drop}
use lib.Seq.{get_or-drop, length-take-le}
use lib.Dec.{leb, ltb, eqb}
use borrow.Author.Tests.{le-ltb, ltb-false, eq-eqb, eqb-true, leb-true, leb-false}
use Rattle.wire.specs.Choose.{pick, and}
use Rattle.wire.specs.Kind.{struct}
use Rattle.payload.specs.declared.table.TypeRow.{TypeRow}
use Rattle.payload.specs.declared.table.Table.{Table}
use Rattle.payload.specs.Table.{row_fits, level_most, rows_fit, later, find, is_none, idents_differ, type_rows, width_fits, table_fits, no_row, row_at, RowRules, NextLevel, Beside, TableRules, RowOf}
use Rattle.payload.proofs.Joined.{clash, and_left, and_right, and_both}
use Rattle.payload.proofs.Rules.RowLaws.{fits_rules, rules_fit}
use Rattle.payload.proofs.Rules.CheckLaws.{fits_tests, fits_differ}

-- ---- a search from the first row on

none_some {ℓ} : {X : Type ℓ} {k : ℕ} → none ≡ some k → X
none_some e = let z : ◌≡◌ {A = ℕ} 0 1 = cc in absurd (omega arith)

row_of_here : (l x : ℕ) (r : TypeRow) (rs : List TypeRow) → r.level ≡ l → r.ident ≡ x → RowOf (r ∷ rs) l 0 x 0
row_of_here l x r rs e h = record { after = zero-le; inside = suc-le-suc zero-le; level_is = e; ident_is = h; deep = deep }
  where
    deep : (m : ℕ) → 0 ≤ m → m ≤ 0 → l ≤ (row_at (r ∷ rs) m).level
    deep zero h k = omega arith
    deep (suc m) h k = absurd (omega arith)

row_of_later : (l x : ℕ) (r : TypeRow) (rs : List TypeRow) (k : ℕ) → l ≤ r.level → RowOf rs l 0 x k → RowOf (r ∷ rs) l 0 x (suc k)
row_of_later l x r rs k d f = record { after = zero-le; inside = suc-le-suc f.inside; level_is = f.level_is; ident_is = f.ident_is; deep = deep }
  where
    deep : (m : ℕ) → 0 ≤ m → m ≤ suc k → l ≤ (row_at (r ∷ rs) m).level
    deep zero a b = d
    deep (suc m) a b = f.deep m zero-le (le_of_suc-le-suc b)

row_of_tail : (l x : ℕ) (r : TypeRow) (rs : List TypeRow) (k : ℕ) → RowOf (r ∷ rs) l 0 x (suc k) → RowOf rs l 0 x k
row_of_tail l x r rs k f = record {
  after = zero-le;
  inside = le_of_suc-le-suc f.inside;
  level_is = f.level_is;
  ident_is = f.ident_is;
  deep = λ m a b. f.deep (suc m) zero-le (suc-le-suc b);
}

-- what is found is a row of the Data ID
find_here : (l x : ℕ) (rs : List TypeRow) (k : ℕ) → find l x rs ≡ some k → RowOf rs l 0 x k
unfolding find later
find_here l x [] k e = none_some e
find_here l x (r ∷ rs) k e = go (find_here l x rs) (ltb r.level l) (and (eqb r.level l) (eqb r.ident x)) (find l x rs) refl refl refl e
  where
    go : ((i : ℕ) → find l x rs ≡ some i → RowOf rs l 0 x i) → (a b : Bool) (o : Option ℕ) → ltb r.level l ≡ a
        → and (eqb r.level l) (eqb r.ident x) ≡ b → find l x rs ≡ o → pick a none (pick b (some 0) (later o)) ≡ some k → RowOf (r ∷ rs) l 0 x k
    go ih true b o ea eb eo d = none_some d
    go ih false true o ea eb eo d =
        let z : 0 ≡ k = cc in
        rw (← z) (row_of_here l x r rs (eqb-true _ _ (and_left (eqb r.level l) (eqb r.ident x) eb)) (eqb-true _ _ (and_right (eqb r.level l) (eqb r.ident x) eb)))
    go ih false false none ea eb eo d = none_some d
    go ih false false (some i) ea eb eo d =
        let z : suc i ≡ k = cc in
        rw (← z) (row_of_later l x r rs i (ltb-false _ _ ea) (ih i eo))

-- where there is a row of the Data ID, one is found
here_some : (l x : ℕ) (rs : List TypeRow) (k : ℕ) → RowOf rs l 0 x k → find l x rs ≡ none → ⊥
unfolding find later
here_some l x [] k f e = omega (arith, f.inside)
here_some l x (r ∷ rs) zero f e =
    none_some (sym (rw (le-ltb r.level l (omega (arith, f.level_is)), eq-eqb r.level l f.level_is, eq-eqb r.ident x f.ident_is) at e))
here_some l x (r ∷ rs) (suc k) f e =
    go (here_some l x rs k (row_of_tail l x r rs k f)) (and (eqb r.level l) (eqb r.ident x)) (find l x rs) refl (rw (le-ltb r.level l (f.deep 0 zero-le zero-le)) at e)
  where
    go : (find l x rs ≡ none → ⊥) → (b : Bool) (o : Option ℕ) → find l x rs ≡ o → pick b (some 0) (later o) ≡ none → ⊥
    go ih true o eo d = none_some (sym d)
    go ih false none eo d = ih eo
    go ih false (some i) eo d = none_some (sym d)

none_here : (l x : ℕ) (rs : List TypeRow) → ((k : ℕ) → RowOf rs l 0 x k → ⊥) → find l x rs ≡ none
none_here l x rs h = go (find l x rs) refl
  where
    go : (o : Option ℕ) → find l x rs ≡ o → o ≡ none
    go none e = refl
    go (some k) e = absurd (h k (find_here l x rs k e))

none_is : (o : Option ℕ) → is_none o ≡ true → o ≡ none
none_is none e = refl
none_is (some k) e = clash e

-- ---- Data IDs that differ

pub differ_beside : (rs : List TypeRow) → idents_differ rs ≡ true → (i j : ℕ) → Beside rs i j → (row_at rs i).ident ≡ (row_at rs j).ident → ⊥
unfolding idents_differ
differ_beside [] e i j b d = omega (arith, b.inside)
differ_beside (r ∷ rs) e zero zero b d = omega (arith, b.order)
differ_beside (r ∷ rs) e (suc i) zero b d = omega (arith, b.order)
differ_beside (r ∷ rs) e zero (suc j) b d =
    here_some r.level r.ident rs j
    (record { after = zero-le; inside = le_of_suc-le-suc b.inside; level_is = b.level_is; ident_is = sym d; deep = λ m h k. deep m k (leb j m) refl })
    (none_is (find r.level r.ident rs) (and_left (is_none (find r.level r.ident rs)) (idents_differ rs) e))
  where
    deep : (m : ℕ) → m ≤ j → (c : Bool) → leb j m ≡ c → r.level ≤ (row_at rs m).level
    deep m k true h =
        let z : j ≡ m = omega (arith, leb-true j m h) in
        let w : (row_at rs j).level ≡ r.level = b.level_is in
        rw (← z) (omega arith)
    deep m k false h = b.between (suc m) (suc-le-suc zero-le) (suc-le-suc (leb-false j m h))
differ_beside (r ∷ rs) e (suc i) (suc j) b d =
    differ_beside rs (and_right (is_none (find r.level r.ident rs)) (idents_differ rs) e) i j
    (record {
      order = le_of_suc-le-suc b.order;
      inside = le_of_suc-le-suc b.inside;
      level_is = b.level_is;
      between = λ m h k. b.between (suc m) (suc-le-suc h) (suc-le-suc k);
    })
    d

pub beside_differ : (rs : List TypeRow) → ((i j : ℕ) → Beside rs i j → (row_at rs i).ident ≡ (row_at rs j).ident → ⊥) → idents_differ rs ≡ true
unfolding idents_differ
beside_differ [] h = refl
beside_differ (r ∷ rs) h =
    rw (none_here r.level r.ident rs (λ k f. h 0 (suc k) (beside k f) (sym f.ident_is)))
    (beside_differ rs (λ i j b d. h (suc i) (suc j) (deeper i j b) d))
  where
    between : (k : ℕ) → RowOf rs r.level 0 r.ident k → (m : ℕ) → 0 < m → m < suc k → r.level ≤ (row_at (r ∷ rs) m).level
    between k f zero a b = absurd (omega arith)
    between k f (suc m) a b = f.deep m zero-le (omega arith)

    beside : (k : ℕ) → RowOf rs r.level 0 r.ident k → Beside (r ∷ rs) 0 (suc k)
    beside k f = record { order = suc-le-suc zero-le; inside = suc-le-suc f.inside; level_is = f.level_is; between = between k f }

    inner : (i j : ℕ) → Beside rs i j → (m : ℕ) → suc i < m → m < suc j → (row_at rs i).level ≤ (row_at (r ∷ rs) m).level
    inner i j b zero a c = absurd (omega arith)
    inner i j b (suc m) a c = b.between m (le_of_suc-le-suc a) (le_of_suc-le-suc c)

    deeper : (i j : ℕ) → Beside rs i j → Beside (r ∷ rs) (suc i) (suc j)
    deeper i j b = record { order = suc-le-suc b.order; inside = suc-le-suc b.inside; level_is = b.level_is; between = inner i j b }

differ_tail : (n : ℕ) (rs : List TypeRow) → idents_differ rs ≡ true → idents_differ (drop n rs) ≡ true
unfolding idents_differ
differ_tail zero rs e = e
differ_tail (suc n) [] e = e
differ_tail (suc n) (r ∷ rs) e = differ_tail n rs (and_right (is_none (find r.level r.ident rs)) (idents_differ rs) e)

-- ---- the row of a Data ID at a level

module _ (types : List TypeRow) (l first x : ℕ) where
  row_drop : (m : ℕ) → row_at (drop first types) m ≡ row_at types (first + m)
  row_drop m = get_or-drop first types m no_row

  into : (k : ℕ) → RowOf types l first x (first + k) → RowOf (drop first types) l 0 x k
  into k f = record {
    after = zero-le;
    inside = omega (arith, f.inside, length-drop first types);
    level_is = rw (row_drop k) f.level_is;
    ident_is = rw (row_drop k) f.ident_is;
    deep = λ m a b. rw (row_drop m) (f.deep (first + m) (omega arith) (omega arith));
  }

  out : (k : ℕ) → RowOf (drop first types) l 0 x k → RowOf types l first x (first + k)
  out k f = record {
    after = omega arith;
    inside = omega (arith, f.inside, length-drop first types);
    level_is = rw (row_drop k) at f.level_is;
    ident_is = rw (row_drop k) at f.ident_is;
    deep = λ m a b. deep m a b;
  }
    where
      deep : (m : ℕ) → first ≤ m → m ≤ first + k → l ≤ (row_at types m).level
      deep m a b =
          let e : first + (m - first) ≡ m = omega arith in
          let d = f.deep (m - first) zero-le (omega arith) in
          rw (row_drop (m - first), e) at d

  -- What is found is the row of the Data ID.
  pub found_row : (k : ℕ) → find l x (drop first types) ≡ some k → RowOf types l first x (first + k)
  found_row k e = out k (find_here l x (drop first types) k e)

  -- Where nothing is found, no row has it.
  pub none_row : find l x (drop first types) ≡ none → (i : ℕ) → RowOf types l first x i → ⊥
  none_row e i f =
      let z : first + (i - first) ≡ i = omega (arith, f.after) in
      here_some l x (drop first types) (i - first) (into (i - first) (rw z f)) e

  module _ (u : idents_differ types ≡ true) where
    not_less : (i j : ℕ) → RowOf types l first x i → RowOf types l first x j → i < j → ⊥
    not_less i j f g h =
        differ_beside types u i j
        (record {
          order = h;
          inside = g.inside;
          level_is = g.level_is ∙ sym f.level_is;
          between = λ m a b. rw f.level_is (g.deep m (omega (arith, f.after)) (omega arith));
        })
        (f.ident_is ∙ sym g.ident_is)

    -- A Data ID has one row at a level.
    pub row_unique : (i j : ℕ) → RowOf types l first x i → RowOf types l first x j → i ≡ j
    row_unique i j f g = go (leb i j) (leb j i) refl refl
      where
        go : (a b : Bool) → leb i j ≡ a → leb j i ≡ b → i ≡ j
        go true true ea eb = omega (arith, leb-true i j ea, leb-true j i eb)
        go true false ea eb = absurd (not_less i j f g (leb-false j i eb))
        go false b ea eb = absurd (not_less j i g f (leb-false i j ea))

    -- The row of the Data ID is found.
    pub row_found : (k : ℕ) → RowOf types l first x (first + k) → find l x (drop first types) ≡ some k
    row_found k f = go (find l x (drop first types)) refl
      where
        go : (o : Option ℕ) → find l x (drop first types) ≡ o → o ≡ some k
        go none e = absurd (none_row e (first + k) f)
        go (some i) e = let z : first + i ≡ first + k = row_unique (first + i) (first + k) (found_row i e) f in let w : i ≡ k = omega arith in ap some w

-- ---- the rules of the rows

record Keep (most : ℕ) (rs : List TypeRow) : Type 0 where
  pub each : (i : ℕ) → i < length rs → RowRules (row_at rs i)
  pub first : 0 < length rs → (row_at rs 0).level ≤ most
  pub next : (i : ℕ) → suc i < length rs → (row_at rs (suc i)).level ≤ level_most (row_at rs i)

fit_keep : (most : ℕ) (rs : List TypeRow) → rows_fit most rs ≡ true → Keep most rs
unfolding rows_fit
fit_keep most [] e = record { each = λ i h. absurd (omega arith); first = λ h. absurd (omega arith); next = λ i h. absurd (omega arith) }
fit_keep most (r ∷ rs) e =
    let k = fits_rules r most (and_left (row_fits most r) (rows_fit (level_most r) rs) e) in
    let ih = fit_keep (level_most r) rs (and_right (row_fits most r) (rows_fit (level_most r) rs) e) in
    record { each = each k.0 ih; first = λ h. k.1; next = next ih }
  where
    each : RowRules r → Keep (level_most r) rs → (i : ℕ) → i < length (r ∷ rs) → RowRules (row_at (r ∷ rs) i)
    each k ih zero h = k
    each k ih (suc i) h = ih.each i (le_of_suc-le-suc h)

    next : Keep (level_most r) rs → (i : ℕ) → suc i < length (r ∷ rs) → (row_at (r ∷ rs) (suc i)).level ≤ level_most (row_at (r ∷ rs) i)
    next ih zero h = ih.first (le_of_suc-le-suc h)
    next ih (suc i) h = ih.next i (le_of_suc-le-suc h)

keep_fit : (most : ℕ) (rs : List TypeRow) → Keep most rs → rows_fit most rs ≡ true
unfolding rows_fit
keep_fit most [] k = refl
keep_fit most (r ∷ rs) k =
    and_both (row_fits most r) (rows_fit (level_most r) rs) (rules_fit r most (k.each 0 (suc-le-suc zero-le)) (k.first (suc-le-suc zero-le)))
    (keep_fit (level_most r) rs (record {
      each = λ i h. k.each (suc i) (suc-le-suc h);
      first = λ h. k.next 0 (suc-le-suc h);
      next = λ i h. k.next (suc i) (suc-le-suc h);
    }))

most_next : (b r : TypeRow) → r.level ≤ level_most b → NextLevel b r
most_next b r h = go (eqb b.kind struct) (leb r.level b.level) refl refl h
  where
    go : (s c : Bool) → eqb b.kind struct ≡ s → leb r.level b.level ≡ c → r.level ≤ pick s (suc b.level) b.level → NextLevel b r
    go s true es ec k = inl (leb-true r.level b.level ec)
    go true false es ec k = inr (eqb-true b.kind struct es, omega (arith, leb-false r.level b.level ec))
    go false false es ec k = inl k

next_most : (b r : TypeRow) → NextLevel b r → r.level ≤ level_most b
next_most b r (inl h) = go (eqb b.kind struct)
  where
    go : (s : Bool) → r.level ≤ pick s (suc b.level) b.level
    go true = omega arith
    go false = h
next_most b r (inr h) = rw (eq-eqb b.kind struct h.0) (omega (arith, h.1))

width_one : (w : ℕ) → width_fits w ≡ true → (w ≡ 1) ⊎ (w ≡ 2) ⊎ (w ≡ 4)
width_one w e = go (eqb w 1) (eqb w 2) refl refl e
  where
    go : (a b : Bool) → eqb w 1 ≡ a → eqb w 2 ≡ b → pick a true (pick b true (eqb w 4)) ≡ true → (w ≡ 1) ⊎ (w ≡ 2) ⊎ (w ≡ 4)
    go true b ea eb t = inl (eqb-true w 1 ea)
    go false true ea eb t = inr (inl (eqb-true w 2 eb))
    go false false ea eb t = inr (inr (eqb-true w 4 t))

one_width : (w : ℕ) → (w ≡ 1) ⊎ (w ≡ 2) ⊎ (w ≡ 4) → width_fits w ≡ true
one_width w (inl e) = rw e
one_width w (inr (inl e)) = rw e
one_width w (inr (inr e)) = rw e

-- ---- the whole table, whose array has 64 rows

module _ (t : Table) (all : length t.rows ≡ 64) where
  count_rows : t.count ≤ 64 → length (type_rows t) ≡ t.count
  count_rows h = length-take-le t.count t.rows (omega arith)

  -- A table that passes the tests keeps the rules.
  pub fits_keeps : table_fits t ≡ true → TableRules t
  fits_keeps e =
      let k = fits_tests t e in
      let n = count_rows k.few in
      let f = fit_keep 1 (type_rows t) k.rows in
      let one = f.each 0 (omega (arith, k.some)) in
      record {
        count_least = k.some;
        count_most = k.few;
        width_is = width_one t.width k.width;
        each_row = λ i h. f.each i (omega arith);
        first_level = omega (arith, f.first (omega (arith, k.some)), one.level_least);
        next_level = λ i h. most_next (row_at (type_rows t) i) (row_at (type_rows t) (suc i)) (f.next i (omega arith));
        idents_differ_lem = differ_beside (type_rows t) k.differ;
      }

  -- A table that keeps the rules passes the tests.
  pub keeps_fits : TableRules t → table_fits t ≡ true
  keeps_fits k =
      let n = count_rows k.count_most in
      sym (fits_differ t k.count_least k.count_most (one_width t.width k.width_is)
      (keep_fit 1 (type_rows t) (record {
        each = λ i h. k.each_row i (omega arith);
        first = λ h. omega (arith, k.first_level);
        next = λ i h. next_most (row_at (type_rows t) i) (row_at (type_rows t) (suc i)) (k.next_level i (omega arith));
      })))
      ∙ beside_differ (type_rows t) k.idents_differ_lem
