-- In a table that keeps the rules each row has one path.
-- Assumes nothing.
use mathlib.Core.Path.{◌≡◌, refl, sym, ap, ap₂, ◌∙◌}
use Prim.Native.Nat.{ℕ, zero, suc, ◌+◌, ◌-◌, ◌≤◌, ◌<◌}
use native.Mathlib.Omega.{arith}
use native.Mathlib.Decide.{dec_le}
use mathlib.Core.Bool.{Bool, true, false}
use mathlib.Core.Logic.{◌⊎◌, inl, inr}
use mathlib.Core.Option.{some}
use mathlib.Core.List.{List, [], ◌∷◌}
use lib.ListN.{length, drop}
use lib.Dec.{eqb}
use borrow.Author.Tests.{eqb-true, eqb-false}
use Rattle.payload.specs.declared.table.TypeRow.{TypeRow}
use Rattle.payload.specs.Table.{find, idents_differ, row_at, NextLevel}
use Rattle.payload.specs.Paths.{path_row}
use Rattle.payload.proofs.Trees.Level.{none_some, InLevel, below_apart, below_out}
use Rattle.payload.proofs.Rules.TableLaws.{row_found}
use Rattle.payload.proofs.Paths.PathLaws.{path_one, path_more, Leads, path_leads}

module _ (types : List TypeRow) where
  -- of the rows from `first` to j, the last one of level l
  record Last (l first j : ℕ) : Type 0 where
    at : ℕ
    after : first ≤ at
    before : at ≤ j
    level_is : (row_at types at).level ≡ l
    deeper : (m : ℕ) → at < m → m ≤ j → l < (row_at types m).level

  last_own : (l first d : ℕ) → (row_at types first).level ≡ l → ((m : ℕ) → first ≤ m → m ≤ first + d → l ≤ (row_at types m).level)
      → Last l first (first + d)
  last_own l first zero e h = record {
    at = first;
    after = omega arith;
    before = omega arith;
    level_is = e;
    deeper = λ m a b. absurd (omega arith);
  }
  last_own l first (suc d) e h =
      go (dec_le (row_at types (first + suc d)).level l) (last_own l first d e (λ m a b. h m a (omega arith)))
    where
      go : Dec ((row_at types (first + suc d)).level ≤ l) → Last l first (first + d) → Last l first (first + suc d)
      go (yes le) i = record {
        at = first + suc d;
        after = omega arith;
        before = omega arith;
        level_is = omega (arith, h (first + suc d) (omega arith) (omega arith));
        deeper = λ m a b. absurd (omega arith);
      }
      go (no gt) i = record {
        at = i.at;
        after = i.after;
        before = omega (arith, i.before);
        level_is = i.level_is;
        deeper = λ m a b. past m a b (dec_le m (first + d));
      }
        where
          past : (m : ℕ) → i.at < m → m ≤ first + suc d → Dec (m ≤ first + d) → l < (row_at types m).level
          past m a b (yes c) = i.deeper m a c
          past m a b (no c) =
              let z : m ≡ first + suc d = omega arith in
              rw z (omega arith)

  -- a path from a level on that leads to row j
  pub record PathTo (l first j : ℕ) : Type 0 where
    pub head : ℕ
    pub path : List ℕ
    pub leads : path_row types l first (head ∷ path) ≡ some j

  module _ (d : idents_differ types ≡ true) (next : (i : ℕ) → suc i < length types → NextLevel (row_at types i) (row_at types (suc i))) where
    one_deeper : (i l : ℕ) → (row_at types i).level ≡ l → l < (row_at types (suc i)).level → NextLevel (row_at types i) (row_at types (suc i))
        → (row_at types (suc i)).level ≡ suc l
    one_deeper i l e h (inl n) = absurd (omega arith)
    one_deeper i l e h (inr n) = n.1 ∙ ap suc e

    pub path_to : (turns l first j : ℕ) → j - first < turns → first ≤ j → j < length types → (row_at types first).level ≡ l
        → ((m : ℕ) → first ≤ m → m ≤ j → l ≤ (row_at types m).level) → PathTo l first j
    path_to zero l first j t a b e h = absurd (omega arith)
    path_to (suc turns) l first j t a b e h =
        let z : first + (j - first) ≡ j = omega arith in
        let i : Last l first j = rw z at (last_own l first (j - first) e (λ m m1 m2. h m m1 (omega arith))) in
        go i (dec_le j i.at) (λ l2 first2 t2. path_to turns l2 first2 j t2)
      where
        go : (i : Last l first j) → Dec (j ≤ i.at)
            → ((l2 first2 : ℕ) → j - first2 < turns → first2 ≤ j → j < length types → (row_at types first2).level ≡ l2
            → ((m : ℕ) → first2 ≤ m → m ≤ j → l2 ≤ (row_at types m).level) → PathTo l2 first2 j)
            → PathTo l first j
        go i dec ih =
            let k : ℕ = i.at - first in
            let z : first + k ≡ i.at = omega (arith, i.after) in
            at k z dec (row_found types l first (row_at types i.at).ident d k (record {
              after = omega arith;
              inside = omega (arith, i.before);
              level_is = rw z i.level_is;
              ident_is = ap (λ (n : ℕ). (row_at types n).ident) z;
              deep = λ m m1 m2. h m m1 (omega (arith, i.before));
            }))
          where
            join : (k : ℕ) → first + k ≡ i.at → find l (row_at types i.at).ident (drop first types) ≡ some k
                → PathTo (suc l) (suc i.at) j → PathTo l first j
            join k z f inner = record {
              head = (row_at types i.at).ident;
              path = inner.head ∷ inner.path;
              leads =
                  path_more types l first (row_at types i.at).ident k inner.head inner.path f
                  ∙ ap (λ (n : ℕ). path_row types (suc l) (suc n) (inner.head ∷ inner.path)) z ∙ inner.leads;
            }

            at : (k : ℕ) → first + k ≡ i.at → Dec (j ≤ i.at) → find l (row_at types i.at).ident (drop first types) ≡ some k → PathTo l first j
            at k z (yes c) f =
                let e2 : first + k ≡ j = omega (arith, i.before) in
                record { head = (row_at types i.at).ident; path = []; leads = path_one types l first (row_at types i.at).ident k f ∙ ap some e2 }
            at k z (no c) f =
                let deep = i.deeper (suc i.at) (omega arith) (omega arith) in
                join k z f
                (ih (suc l) (suc i.at) (omega (arith, i.after)) (omega arith) b
                (one_deeper i.at l i.level_is deep (next i.at (omega arith))) (λ m m1 m2. i.deeper m m1 m2))

-- ---- two paths to one row are the same

module _ (types : List TypeRow) (l first x y j : ℕ) (a : Leads types l first x j) (b : Leads types l first y j) where
  -- the row is the second head's own, or stands below it
  own_below : Dec (j ≤ first + b.head) → (j ≡ first + b.head) ⊎ InLevel types (suc l) (suc (first + b.head)) j
  own_below (yes h) = inl (omega (arith, b.below.after))
  own_below (no h) = inr (record { after = omega arith; above = λ m m1 m2. b.below.deeper m m1 m2 })

  one_head : x ≡ y
  one_head = go (eqb x y) refl
    where
      go : (c : Bool) → eqb x y ≡ c → x ≡ y
      go true e = eqb-true x y e
      go false e = at (own_below (dec_le j (first + b.head)))
        where
          at : (j ≡ first + b.head) ⊎ InLevel types (suc l) (suc (first + b.head)) j → x ≡ y
          at (inl z) = absurd (below_apart types l first x y a.head b.head a.found b.found (eqb-false x y e) j a.below z)
          at (inr i) = absurd (below_out types l first x y a.head b.head a.found b.found (eqb-false x y e) j a.below i)

module _ (types : List TypeRow) where
  -- a path that goes on ends below its head
  further : (l first x y : ℕ) (path : List ℕ) (j k : ℕ) → find l x (drop first types) ≡ some k → path_row types l first (x ∷ y ∷ path) ≡ some j
      → first + k < j
  further l first x y path j k f e =
      let d = path_leads types (suc l) (suc (first + k)) y path j (sym (path_more types l first x k y path f) ∙ e) in
      omega (arith, d.below.after)

  pub one_path : (l first : ℕ) (path path2 : List ℕ) (j : ℕ) → path_row types l first path ≡ some j → path_row types l first path2 ≡ some j
      → path ≡ path2
  unfolding path_row
  one_path l first [] path2 j e e2 = none_some e
  one_path l first (x ∷ path) [] j e e2 = none_some e2
  one_path l first (x ∷ path) (y ∷ path2) j e e2 =
      let a = path_leads types l first x path j e in
      let z : y ≡ x = sym (one_head types l first x y j a (path_leads types l first y path2 j e2)) in
      ap₂ ◌∷◌ (sym z) (go path path2 a.head a.found e (rw z at e2) (λ i. one_path (suc l) i path path2 j))
    where
      ends : (y2 : ℕ) (rest : List ℕ) (k : ℕ) → find l x (drop first types) ≡ some k → path_row types l first (x ∷ []) ≡ some j
          → path_row types l first (x ∷ y2 ∷ rest) ≡ some j → ⊥
      ends y2 rest k f h h2 =
          let o = path_one types l first x k f in
          let z : first + k ≡ j = cc in
          omega (arith, further l first x y2 rest j k f h2)

      go : (path path2 : List ℕ) (k : ℕ) → find l x (drop first types) ≡ some k
          → path_row types l first (x ∷ path) ≡ some j → path_row types l first (x ∷ path2) ≡ some j
          → ((i : ℕ) → path_row types (suc l) i path ≡ some j → path_row types (suc l) i path2 ≡ some j → path ≡ path2)
          → path ≡ path2
      go [] [] k f h h2 ih = refl
      go [] (y2 ∷ path2) k f h h2 ih = absurd (ends y2 path2 k f h h2)
      go (y1 ∷ path) [] k f h h2 ih = absurd (ends y1 path k f h2 h)
      go (y1 ∷ path) (y2 ∷ path2) k f h h2 ih =
          ih (suc (first + k)) (sym (path_more types l first x k y1 path f) ∙ h) (sym (path_more types l first x k y2 path2 f) ∙ h2)
