-- Where Data IDs rise among the direct members of each struct and among the rows of level 1, they differ. One pass sees that they rise: it
-- keeps, for each level, one more than the last Data ID of the struct that is open there.
-- Assumes nothing.
use mathlib.Core.Path.{◌≡◌, refl, sym, ap, ◌∙◌}
use Prim.Native.Nat.{ℕ, ◌+◌, ◌≤◌, ◌<◌}
use native.Mathlib.Omega.{arith}
use mathlib.Core.Bool.{Bool, true, false}
use mathlib.Core.Option.{none, some}
use mathlib.Core.List.{List, [], ◌∷◌}
use lib.ListN.{length, get_or, set, length-set}
use lib.Seq.{get_or-set_same, get_or-set_other}
use lib.Dec.{leb, ltb, eqb}
use borrow.Author.Tests.{ltb-false, ne_eqb, eqb-true, eqb-false, leb-true}
use Rattle.wire.specs.Choose.{pick, and}
use Rattle.payload.specs.declared.table.TypeRow.{TypeRow}
use Rattle.payload.specs.Table.{row_fits, level_most, rows_fit, later, find, idents_differ, RowRules}
use Rattle.payload.proofs.Joined.{and_left, and_right}
use Rattle.payload.proofs.Rules.RowLaws.{fits_rules}

-- a row's Data ID is the last of its level, and the level below starts anew
abbrev pub marked : List ℕ → ℕ → ℕ → List ℕ
marked lasts l x = set (set lasts l (x + 1)) (l + 1) 0

unfoldable pub ascends : List ℕ → List TypeRow → Bool
ascends lasts [] = true
ascends lasts (r ∷ rs) = and (leb (get_or lasts r.level 0) r.ident) (ascends (marked lasts r.level r.ident) rs)

pub marked_long : (lasts : List ℕ) (l x : ℕ) → length (marked lasts l x) ≡ length lasts
marked_long lasts l x = length-set (set lasts l (x + 1)) (l + 1) 0 ∙ length-set lasts l (x + 1)

marked_own : (lasts : List ℕ) (l x : ℕ) → l < length lasts → get_or (marked lasts l x) l 0 ≡ x + 1
marked_own lasts l x h =
    get_or-set_other (set lasts l (x + 1)) (l + 1) l 0 0 (λ e. omega arith) ∙ get_or-set_same lasts l (x + 1) 0 h

marked_above : (lasts : List ℕ) (l m x : ℕ) → m < l → get_or (marked lasts l x) m 0 ≡ get_or lasts m 0
marked_above lasts l m x h =
    get_or-set_other (set lasts l (x + 1)) (l + 1) m 0 0 (λ e. omega arith) ∙ get_or-set_other lasts l m (x + 1) 0 (λ e. omega arith)

-- no row beside has a Data ID below the mark of its level
below_none : (most : ℕ) (lasts : List ℕ) (rs : List TypeRow) → rows_fit most rs ≡ true → length lasts ≡ 6 → ascends lasts rs ≡ true
    → (l x : ℕ) → x < get_or lasts l 0 → find l x rs ≡ none
unfolding rows_fit ascends find later
below_none most lasts [] f e a l x h = refl
below_none most lasts (r ∷ rs) f e a l x h =
    go
    (below_none (level_most r) (marked lasts r.level r.ident) rs (and_right (row_fits most r) (rows_fit (level_most r) rs) f) (marked_long lasts r.level r.ident ∙ e)
    (and_right (leb (get_or lasts r.level 0) r.ident) (ascends (marked lasts r.level r.ident) rs) a) l x)
    (ltb r.level l) refl
  where
    rules : RowRules r × (r.level ≤ most)
    rules = fits_rules r most (and_left (row_fits most r) (rows_fit (level_most r) rs) f)

    up : get_or lasts r.level 0 ≤ r.ident
    up = leb-true (get_or lasts r.level 0) r.ident (and_left (leb (get_or lasts r.level 0) r.ident) (ascends (marked lasts r.level r.ident) rs) a)

    beside : (x < get_or (marked lasts r.level r.ident) l 0 → find l x rs ≡ none) → (b : Bool) → eqb r.level l ≡ b → l ≤ r.level → pick (and b (eqb r.ident x)) (some 0) (later (find l x rs)) ≡ none
    beside rest true d k =
        let q : r.level ≡ l = eqb-true r.level l d in
        let w : get_or lasts l 0 ≤ r.ident = rw q at up in
        let v : get_or (marked lasts r.level r.ident) l 0 ≡ r.ident + 1 =
        ap (λ (m : ℕ). get_or (marked lasts r.level r.ident) m 0) (sym q) ∙ marked_own lasts r.level r.ident (omega (arith, rules.0.level_most_lem)) in
        rw (ne_eqb r.ident x (λ z. omega arith), rest (omega arith))
    beside rest false d k =
        let ne : r.level ≡ l → ⊥ = eqb-false r.level l d in
        let v : get_or (marked lasts r.level r.ident) l 0 ≡ get_or lasts l 0 = marked_above lasts r.level l r.ident (omega arith) in
        rw (rest (omega arith))

    go : (x < get_or (marked lasts r.level r.ident) l 0 → find l x rs ≡ none) → (b : Bool) → ltb r.level l ≡ b
        → pick b none (pick (and (eqb r.level l) (eqb r.ident x)) (some 0) (later (find l x rs))) ≡ none
    go rest true d = refl
    go rest false d = beside rest (eqb r.level l) refl (ltb-false r.level l d)

-- Data IDs that rise differ.
pub ascends_differ : (most : ℕ) (lasts : List ℕ) (rs : List TypeRow) → rows_fit most rs ≡ true → length lasts ≡ 6 → ascends lasts rs ≡ true
    → idents_differ rs ≡ true
unfolding rows_fit ascends idents_differ
ascends_differ most lasts [] f e a = refl
ascends_differ most lasts (r ∷ rs) f e a =
    let rules = fits_rules r most (and_left (row_fits most r) (rows_fit (level_most r) rs) f) in
    let f2 = and_right (row_fits most r) (rows_fit (level_most r) rs) f in
    let a2 = and_right (leb (get_or lasts r.level 0) r.ident) (ascends (marked lasts r.level r.ident) rs) a in
    let e2 = marked_long lasts r.level r.ident ∙ e in
    let v = marked_own lasts r.level r.ident (omega (arith, rules.0.level_most_lem)) in
    rw (below_none (level_most r) (marked lasts r.level r.ident) rs f2 e2 a2 r.level r.ident (omega arith))
    (ascends_differ (level_most r) (marked lasts r.level r.ident) rs f2 e2 a2)
