-- The rows of a level: which one has a Data ID, and which rows stand below it.
-- Assumes nothing.
use mathlib.Core.Path.{◌≡◌, refl, sym, ap, ◌∙◌}
use Prim.Native.Nat.{ℕ, zero, suc, ◌+◌, ◌-◌, ◌≤◌, ◌<◌, zero-le, suc-le-suc}
use native.Mathlib.Omega.{arith}
use native.Mathlib.Nat.{le_of_suc-le-suc}
use native.Mathlib.Decide.{dec_le}
use mathlib.Core.Bool.{Bool, true, false}
use mathlib.Core.Option.{Option, none, some}
use mathlib.Core.List.{List, [], ◌∷◌}
use lib.ListN.{length, drop, length-drop}
use lib.Seq.{get_or-drop}
use lib.Dec.{ltb, eqb}
use borrow.Author.Tests.{ltb-false, le-ltb, eqb-true, eq-eqb}
use Rattle.wire.specs.Choose.{pick, and}
use Rattle.payload.specs.declared.table.TypeRow.{TypeRow}
use Rattle.payload.specs.Table.{later, find, is_none, idents_differ, no_row, row_at}

pub none_some {ℓ} : {X : Type ℓ} {k : ℕ} → none ≡ some k → X
none_some e = let z : ◌≡◌ {A = ℕ} 0 1 = cc in absurd (omega arith)

pub true_false {ℓ} : {X : Type ℓ} → true ≡ false → X
true_false e = let z : ◌≡◌ {A = ℕ} 0 1 = cc in absurd (omega arith)

pub and_left : (a b : Bool) → and a b ≡ true → a ≡ true
and_left true b e = refl
and_left false b e = e

pub and_right : (a b : Bool) → and a b ≡ true → b ≡ true
and_right true b e = e
and_right false b e = true_false (sym e)

-- ---- the row of a Data ID

pub record Found (l x : ℕ) (rs : List TypeRow) (k : ℕ) : Type 0 where
  pub inside : k < length rs
  pub deep : (i : ℕ) → i ≤ k → l ≤ (row_at rs i).level
  pub level_is : (row_at rs k).level ≡ l
  pub ident_is : (row_at rs k).ident ≡ x

found_here : (l x : ℕ) (r : TypeRow) (rs : List TypeRow) → l ≤ r.level → r.level ≡ l → r.ident ≡ x → Found l x (r ∷ rs) 0
found_here l x r rs d e h = record { inside = suc-le-suc zero-le; deep = deep; level_is = e; ident_is = h }
  where
    deep : (i : ℕ) → i ≤ 0 → l ≤ (row_at (r ∷ rs) i).level
    deep zero k = d
    deep (suc i) k = absurd (omega arith)

found_later : (l x : ℕ) (r : TypeRow) (rs : List TypeRow) (k : ℕ) → l ≤ r.level → Found l x rs k → Found l x (r ∷ rs) (suc k)
found_later l x r rs k d f =
    record { inside = suc-le-suc f.inside; deep = deep; level_is = f.level_is; ident_is = f.ident_is }
  where
    deep : (i : ℕ) → i ≤ suc k → l ≤ (row_at (r ∷ rs) i).level
    deep zero h = d
    deep (suc i) h = f.deep i (le_of_suc-le-suc h)

find_go : (l x : ℕ) (r : TypeRow) (rs : List TypeRow) (k : ℕ) → ((i : ℕ) → find l x rs ≡ some i → Found l x rs i)
    → (a b : Bool) (o : Option ℕ) → ltb r.level l ≡ a → and (eqb r.level l) (eqb r.ident x) ≡ b → find l x rs ≡ o
    → pick a none (pick b (some 0) (later o)) ≡ some k → Found l x (r ∷ rs) k
unfolding later
find_go l x r rs k ih true b o ea eb eo e = none_some e
find_go l x r rs k ih false true o ea eb eo e =
    let z : 0 ≡ k = cc in
    rw (← z)
    (found_here l x r rs (ltb-false _ _ ea) (eqb-true _ _ (and_left (eqb r.level l) (eqb r.ident x) eb))
    (eqb-true _ _ (and_right (eqb r.level l) (eqb r.ident x) eb)))
find_go l x r rs k ih false false none ea eb eo e = none_some e
find_go l x r rs k ih false false (some i) ea eb eo e =
    let z : suc i ≡ k = cc in
    rw (← z) (found_later l x r rs i (ltb-false _ _ ea) (ih i eo))

find_found : (l x : ℕ) (rs : List TypeRow) (k : ℕ) → find l x rs ≡ some k → Found l x rs k
unfolding find
find_found l x [] k e = none_some e
find_found l x (r ∷ rs) k e = find_go l x r rs k (find_found l x rs) _ _ _ refl refl refl e

-- what `find` says of the whole table's rows
module _ (types : List TypeRow) (l first x k : ℕ) (e : find l x (drop first types) ≡ some k) where
  f : Found l x (drop first types) k
  f = find_found l x (drop first types) k e

  pub found_inside : first + k < length types
  found_inside = omega (arith, f.inside, length-drop first types)

  pub found_level : (row_at types (first + k)).level ≡ l
  found_level = ap (λ (r : TypeRow). r.level) (sym (get_or-drop first types k no_row)) ∙ f.level_is

  pub found_ident : (row_at types (first + k)).ident ≡ x
  found_ident = ap (λ (r : TypeRow). r.ident) (sym (get_or-drop first types k no_row)) ∙ f.ident_is

  pub found_above : (m : ℕ) → first ≤ m → m ≤ first + k → l ≤ (row_at types m).level
  found_above m h1 h2 =
      let e : first + (m - first) ≡ m = omega arith in
      let d : l ≤ (row_at (drop first types) (m - first)).level = f.deep (m - first) (omega arith) in
      rw (get_or-drop first types (m - first) no_row, e) at d

-- ---- Data IDs differ: a row of the level is found by its own

pub find_own : (l : ℕ) (rs : List TypeRow) (i : ℕ) → idents_differ rs ≡ true → i < length rs → (row_at rs i).level ≡ l
    → ((m : ℕ) → m ≤ i → l ≤ (row_at rs m).level) → find l (row_at rs i).ident rs ≡ some i
unfolding find idents_differ later
find_own l [] i d h e deep = absurd (omega arith)
find_own l (r ∷ rs) zero d h e deep =
    rw (le-ltb r.level l (deep 0 zero-le), eq-eqb r.level l e, eq-eqb r.ident r.ident refl)
find_own l (r ∷ rs) (suc i) d h e deep =
    let ih = find_own l rs i (and_right (is_none (find r.level r.ident rs)) (idents_differ rs) d) (le_of_suc-le-suc h) e (λ m q. deep (suc m) (suc-le-suc q)) in
    rw (le-ltb r.level l (deep 0 zero-le), ih) (go (eqb r.level l) (eqb r.ident (row_at rs i).ident) refl refl ih)
  where
    clash : (o : Option ℕ) → is_none o ≡ true → o ≡ some i → ⊥
    clash none p q = none_some q
    clash (some j) p q = true_false (sym p)

    go : (a b : Bool) → eqb r.level l ≡ a → eqb r.ident (row_at rs i).ident ≡ b → find l (row_at rs i).ident rs ≡ some i
        → pick (and a b) (some 0) (some (suc i)) ≡ some (suc i)
    go true true ea eb ih =
        absurd (clash (find r.level r.ident rs) (and_left (is_none (find r.level r.ident rs)) (idents_differ rs) d)
        (rw (eqb-true r.level l ea, eqb-true r.ident (row_at rs i).ident eb) ih))
    go true false ea eb ih = refl
    go false b ea eb ih = refl

pub differ_drop : (n : ℕ) (rs : List TypeRow) → idents_differ rs ≡ true → idents_differ (drop n rs) ≡ true
unfolding idents_differ
differ_drop zero rs d = d
differ_drop (suc n) [] d = d
differ_drop (suc n) (r ∷ rs) d = differ_drop n rs (and_right (is_none (find r.level r.ident rs)) (idents_differ rs) d)

-- ---- a level's rows, and those below one of them

-- row j stands in the level that begins at row `first`, or below it
pub record InLevel (types : List TypeRow) (l first j : ℕ) : Type 0 where
  pub after : first ≤ j
  pub above : (m : ℕ) → first ≤ m → m ≤ j → l ≤ (row_at types m).level

-- row j is row i of level l, or stands below it
pub record Below (types : List TypeRow) (l i j : ℕ) : Type 0 where
  pub after : i ≤ j
  pub deeper : (m : ℕ) → i < m → m ≤ j → l < (row_at types m).level

pub below_self : (types : List TypeRow) (l i : ℕ) → Below types l i i
below_self types l i = record { after = omega arith; deeper = λ m h1 h2. absurd (omega arith) }

module _ (types : List TypeRow) (l first : ℕ) where
  pub in_found : (x k : ℕ) → find l x (drop first types) ≡ some k → InLevel types l first (first + k)
  in_found x k e = record { after = omega arith; above = found_above types l first x k e }

  -- the level inside a struct's row
  pub in_inner : (x k : ℕ) → find l x (drop first types) ≡ some k → (j : ℕ) → InLevel types (suc l) (suc (first + k)) j → InLevel types l first j
  in_inner x k e j i = record { after = omega (arith, i.after); above = λ m h1 h2. go m h1 h2 (dec_le m (first + k)) }
    where
      go : (m : ℕ) → first ≤ m → m ≤ j → Dec (m ≤ first + k) → l ≤ (row_at types m).level
      go m h1 h2 (yes d) = found_above types l first x k e m h1 d
      go m h1 h2 (no d) = omega (arith, i.above m (omega arith) h2)

  -- what is below a row of the inner level is below the struct
  pub below_inner : (x k : ℕ) → find l x (drop first types) ≡ some k → (y i j : ℕ) → find (suc l) y (drop (suc (first + k)) types) ≡ some i
      → Below types (suc l) (suc (first + k) + i) j → Below types l (first + k) j
  below_inner x k e y i j e2 b = record { after = omega (arith, b.after); deeper = λ m h1 h2. go m h1 h2 (dec_le m (suc (first + k) + i)) }
    where
      go : (m : ℕ) → first + k < m → m ≤ j → Dec (m ≤ suc (first + k) + i) → l < (row_at types m).level
      go m h1 h2 (yes d) = found_above types (suc l) (suc (first + k)) y i e2 m h1 d
      go m h1 h2 (no d) = omega (arith, b.deeper m (omega arith) h2)

  -- rows of two Data IDs have nothing below them in common
  module _ (x y k i : ℕ) (ex : find l x (drop first types) ≡ some k) (ey : find l y (drop first types) ≡ some i) (ne : x ≡ y → ⊥) where
    apart : first + k ≡ first + i → ⊥
    apart z = ne (sym (found_ident types l first x k ex) ∙ ap (λ (m : ℕ). (row_at types m).ident) z ∙ found_ident types l first y i ey)

    pub below_apart : (j : ℕ) → Below types l (first + k) j → j ≡ first + i → ⊥
    below_apart j b z = go (dec_le (first + i) (first + k))
      where
        go : Dec (first + i ≤ first + k) → ⊥
        go (yes p) = apart (omega (arith, b.after))
        go (no p) = omega (arith, b.deeper (first + i) (omega arith) (omega arith), found_level types l first y i ey)

    pub below_out : (j : ℕ) → Below types l (first + k) j → InLevel types (suc l) (suc (first + i)) j → ⊥
    below_out j b n = go (dec_le (first + i) (first + k)) (dec_le (first + k) (first + i))
      where
        go : Dec (first + i ≤ first + k) → Dec (first + k ≤ first + i) → ⊥
        go (yes p) (yes q) = apart (omega arith)
        go (no p) d = omega (arith, b.deeper (first + i) (omega arith) (omega (arith, n.after)), found_level types l first y i ey)
        go (yes p) (no q) = omega (arith, n.above (first + k) (omega arith) b.after, found_level types l first x k ex)
