-- The test of a row and the rules of a row say the same.
-- Assumes nothing.
use mathlib.Core.Path.{◌≡◌, refl, sym, ◌∙◌}
use Prim.Native.Nat.{ℕ, suc, ◌≤◌, ◌<◌}
use native.Mathlib.Omega.{arith}
use mathlib.Core.Bool.{Bool, true, false}
use lib.Dec.{leb, eqb}
use borrow.Author.Tests.{eq-eqb, le-leb, leb-true, eqb-true, eqb-false}
use Rattle.wire.specs.Choose.{pick, and}
use Rattle.wire.specs.Kind.{array, struct}
use Rattle.payload.specs.declared.table.TypeRow.{TypeRow}
use Rattle.payload.specs.Table.{in_range, elem_fits, struct_fits, row_fits, level_most, width_fits, RowRules}
use Rattle.payload.specs.Cells.{FineRow}
use Rattle.payload.proofs.Joined.{and_left, and_right, and_both}

pub range_in : (a b x : ℕ) → in_range a b x ≡ true → (a ≤ x) × (x ≤ b)
range_in a b x e = (leb-true a x (and_left (leb a x) (leb x b) e), leb-true x b (and_right (leb a x) (leb x b) e))

pub in_range_lem : (a b x : ℕ) → a ≤ x → x ≤ b → in_range a b x ≡ true
in_range_lem a b x h k = and_both (leb a x) (leb x b) (le-leb a x h) (le-leb x b k)

module _ (r : TypeRow) where
  elem_rule : elem_fits r ≡ true → (r.kind ≡ array → (1 ≤ r.elem) × (r.elem ≤ 11)) × ((r.kind ≡ array → ⊥) → r.elem ≡ 0)
  elem_rule e = go (eqb r.kind array) refl e
    where
      go : (b : Bool) → eqb r.kind array ≡ b → pick b (in_range 1 11 r.elem) (eqb r.elem 0) ≡ true
          → (r.kind ≡ array → (1 ≤ r.elem) × (r.elem ≤ 11)) × ((r.kind ≡ array → ⊥) → r.elem ≡ 0)
      go true x d = (λ k. range_in 1 11 r.elem d, λ ne. absurd (ne (eqb-true r.kind array x)))
      go false x d = (λ k. absurd (eqb-false r.kind array x k), λ ne. eqb-true r.elem 0 d)

  struct_rule : struct_fits r ≡ true → r.kind ≡ struct → r.level ≤ 3
  struct_rule e k = leb-true r.level 3 (rw (eq-eqb r.kind struct k) at e)

  elem_keeps : RowRules r → elem_fits r ≡ true
  elem_keeps k = go (eqb r.kind array) refl
    where
      go : (b : Bool) → eqb r.kind array ≡ b → pick b (in_range 1 11 r.elem) (eqb r.elem 0) ≡ true
      go true x = let d = k.array_elem (eqb-true r.kind array x) in in_range_lem 1 11 r.elem d.0 d.1
      go false x = eq-eqb r.elem 0 (k.other_elem (eqb-false r.kind array x))

  struct_keeps : RowRules r → struct_fits r ≡ true
  struct_keeps k = go (eqb r.kind struct) refl
    where
      go : (b : Bool) → eqb r.kind struct ≡ b → pick b (leb r.level 3) true ≡ true
      go true x = le-leb r.level 3 (k.struct_level (eqb-true r.kind struct x))
      go false x = refl

  module _ (most : ℕ) where
    -- a row that fits keeps its rules, and its level is at most `most`
    pub fits_rules : row_fits most r ≡ true → RowRules r × (r.level ≤ most)
    unfolding row_fits
    fits_rules e =
        let e1 = and_right (in_range 1 4 r.level) _ e in
        let e2 = and_right (leb r.level most) _ e1 in
        let e3 = and_right (leb r.ident 4095) _ e2 in
        let e4 = and_right (in_range 1 14 r.kind) _ e3 in
        let l = range_in 1 4 r.level (and_left (in_range 1 4 r.level) _ e) in
        let k = range_in 1 14 r.kind (and_left (in_range 1 14 r.kind) _ e3) in
        let x = elem_rule (and_left (elem_fits r) (struct_fits r) e4) in (
          record {
            level_least = l.0;
            level_most_lem = l.1;
            ident_most = leb-true r.ident 4095 (and_left (leb r.ident 4095) _ e2);
            kind_least = k.0;
            kind_most = k.1;
            array_elem = x.0;
            other_elem = x.1;
            struct_level = struct_rule (and_right (elem_fits r) (struct_fits r) e4);
          },
          leb-true r.level most (and_left (leb r.level most) _ e1),
        )

    -- a row whose level, Data ID and kind are in range fits if its element kind does, and a struct's level
    pub row_elem : 1 ≤ r.level → r.level ≤ 4 → r.level ≤ most → r.ident ≤ 4095 → 1 ≤ r.kind → r.kind ≤ 14
        → and (elem_fits r) (struct_fits r) ≡ row_fits most r
    unfolding row_fits
    row_elem a b c d e f = rw (in_range_lem 1 4 r.level a b, le-leb r.level most c, le-leb r.ident 4095 d, in_range_lem 1 14 r.kind e f)

    pub rules_fit : RowRules r → r.level ≤ most → row_fits most r ≡ true
    rules_fit k h =
        sym (row_elem k.level_least k.level_most_lem h k.ident_most k.kind_least k.kind_most)
        ∙ and_both (elem_fits r) (struct_fits r) (elem_keeps k) (struct_keeps k)

  -- ---- what the code needs of a row

  pub fine_row : RowRules r → FineRow r
  fine_row k = record {
    kind_some = omega (arith, k.kind_least);
    kind_in_lem = omega (arith, k.kind_most);
    level_some = k.level_least;
    level_in_lem = k.level_most_lem;
    ident_in_lem = omega (arith, k.ident_most);
    elem_in_lem = few (eqb r.kind array) refl;
    array_in = λ e. omega (arith, k.array_elem e);
  }
    where
      few : (b : Bool) → eqb r.kind array ≡ b → r.elem < 12
      few true x = omega (arith, k.array_elem (eqb-true r.kind array x))
      few false x = omega (arith, k.other_elem (eqb-false r.kind array x))

  -- the next row's level is at most 4
  pub most_in : RowRules r → level_most r ≤ 4
  most_in k = go (eqb r.kind struct) refl
    where
      go : (b : Bool) → eqb r.kind struct ≡ b → pick b (suc r.level) r.level ≤ 4
      go true x = omega (arith, k.struct_level (eqb-true r.kind struct x))
      go false x = k.level_most_lem

pub width_small : (w : ℕ) → width_fits w ≡ true → w ≤ 4
width_small w e = go (eqb w 1) (eqb w 2) refl refl e
  where
    go : (a b : Bool) → eqb w 1 ≡ a → eqb w 2 ≡ b → pick a true (pick b true (eqb w 4)) ≡ true → w ≤ 4
    go true b ea eb t = omega (arith, eqb-true w 1 ea)
    go false true ea eb t = omega (arith, eqb-true w 2 eb)
    go false false ea eb t = omega (arith, eqb-true w 4 t)
