-- Where the last six bits of the Data IDs differ among the direct members of each struct and among the rows of level 1, the Data IDs differ.
-- One pass sees it: each row leaves the number of its struct at the place of its level and its six bits, where no other row of the struct
-- left it.
-- Assumes nothing.
use mathlib.Core.Path.{◌≡◌, refl, sym, ap, ◌∙◌}
use Prim.Native.Nat.{ℕ, ◌+◌, ◌*◌, ◌%◌, ◌≤◌, ◌<◌}
use native.Mathlib.Omega.{arith}
use native.Mathlib.Numerals.{add-one}
use mathlib.Core.Bool.{Bool, true, false, not}
use mathlib.Core.Option.{none, some}
use mathlib.Core.List.{List, [], ◌∷◌}
use lib.ListN.{length, drop, get_or, set, length-set}
use lib.Seq.{get_or-set_same, get_or-set_other}
use lib.Dec.{leb, ltb, eqb}
use borrow.Author.Tests.{ltb-false, ne_eqb, eqb-true, eqb-false, leb-true, le-leb, eq-eqb}
use Rattle.wire.specs.Choose.{pick, and}
use Rattle.payload.specs.declared.table.TypeRow.{TypeRow}
use Rattle.payload.specs.Table.{later, find, idents_differ}
use Rattle.payload.specs.Cells.{level_in, ident_in, table_in}
use Rattle.payload.proofs.Joined.{clash, and_left, and_right}
use Rattle.payload.proofs.Rules.CellLaws.{rows_here, rows_end}

-- the place of a level and a Data ID's last six bits
abbrev pub place_of : ℕ → ℕ → ℕ
place_of l x = l * 64 + x % 64

unfoldable pub apart : List ℕ → List ℕ → ℕ → List TypeRow → Bool
apart marks owners i [] = true
apart marks owners i (r ∷ rs) =
    and (leb r.level 4)
    (and (not (eqb (get_or marks (place_of r.level r.ident) 0) (get_or owners r.level 0)))
    (apart (set marks (place_of r.level r.ident) (get_or owners r.level 0)) (set owners (r.level + 1) (i + 2)) (i + 1) rs))

-- what a row that passes shows
record Step (marks owners : List ℕ) (i : ℕ) (r : TypeRow) (rs : List TypeRow) : Type 0 where
  pub low : r.level ≤ 4
  pub new : get_or marks (place_of r.level r.ident) 0 ≡ get_or owners r.level 0 → ⊥
  pub rest : apart (set marks (place_of r.level r.ident) (get_or owners r.level 0)) (set owners (r.level + 1) (i + 2)) (i + 1) rs ≡ true

step : (marks owners : List ℕ) (i : ℕ) (r : TypeRow) (rs : List TypeRow) → apart marks owners i (r ∷ rs) ≡ true → Step marks owners i r rs
unfolding apart
step marks owners i r rs e =
    let e1 = and_right (leb r.level 4) _ e in
    record {
      low = leb-true r.level 4 (and_left (leb r.level 4) _ e);
      new = λ q. differs q (and_left (not (eqb (get_or marks (place_of r.level r.ident) 0) (get_or owners r.level 0))) _ e1);
      rest = and_right (not (eqb (get_or marks (place_of r.level r.ident) 0) (get_or owners r.level 0))) _ e1;
    }
  where
    differs : get_or marks (place_of r.level r.ident) 0 ≡ get_or owners r.level 0
        → not (eqb (get_or marks (place_of r.level r.ident) 0) (get_or owners r.level 0)) ≡ true → ⊥
    differs q d = clash (rw (eq-eqb (get_or marks (place_of r.level r.ident) 0) (get_or owners r.level 0) q) at d)

-- no row beside has a Data ID whose place is taken by its struct
taken_none : (marks owners : List ℕ) (i : ℕ) (rs : List TypeRow) → length marks ≡ 320 → apart marks owners i rs ≡ true
    → (l x : ℕ) → get_or marks (place_of l x) 0 ≡ get_or owners l 0 → find l x rs ≡ none
unfolding find later
taken_none marks owners i [] e a l x h = refl
taken_none marks owners i (r ∷ rs) e a l x h =
    let s = step marks owners i r rs a in
    go s
    (taken_none (set marks (place_of r.level r.ident) (get_or owners r.level 0)) (set owners (r.level + 1) (i + 2)) (i + 1) rs
    (length-set marks (place_of r.level r.ident) (get_or owners r.level 0) ∙ e) s.rest l x)
    (ltb r.level l) refl
  where
    -- the place and the owner are as they were, where the row's place is another and the row isn't above the level
    same : (place_of l x ≡ place_of r.level r.ident → ⊥) → l ≤ r.level
        → get_or (set marks (place_of r.level r.ident) (get_or owners r.level 0)) (place_of l x) 0 ≡ get_or (set owners (r.level + 1) (i + 2)) l 0
    same ne k =
        get_or-set_other marks (place_of r.level r.ident) (place_of l x) (get_or owners r.level 0) 0 ne
        ∙ h
        ∙ sym (get_or-set_other owners (r.level + 1) l (i + 2) 0 (λ z. omega arith))

    beside : Step marks owners i r rs
        → (get_or (set marks (place_of r.level r.ident) (get_or owners r.level 0)) (place_of l x) 0 ≡ get_or (set owners (r.level + 1) (i + 2)) l 0 → find l x rs ≡ none)
        → (b : Bool) → eqb r.level l ≡ b → l ≤ r.level → pick (and b (eqb r.ident x)) (some 0) (later (find l x rs)) ≡ none
    beside s ih true d k =
        let q : r.level ≡ l = eqb-true r.level l d in
        let ne : place_of l x ≡ place_of r.level r.ident → ⊥ = λ z. s.new (ap (λ (m : ℕ). get_or marks m 0) (sym z) ∙ h ∙ ap (λ (m : ℕ). get_or owners m 0) (sym q)) in
        let other : r.ident ≡ x → ⊥ = λ z. ne (ap (λ (m : ℕ). m * 64 + x % 64) (sym q) ∙ ap (λ (m : ℕ). r.level * 64 + m % 64) (sym z)) in
        rw (ne_eqb r.ident x other, ih (same ne k))
    beside s ih false d k =
        let ne : r.level ≡ l → ⊥ = eqb-false r.level l d in
        rw (ih (same (λ z. omega arith) k))

    go : Step marks owners i r rs
        → (get_or (set marks (place_of r.level r.ident) (get_or owners r.level 0)) (place_of l x) 0 ≡ get_or (set owners (r.level + 1) (i + 2)) l 0 → find l x rs ≡ none)
        → (b : Bool) → ltb r.level l ≡ b → pick b none (pick (and (eqb r.level l) (eqb r.ident x)) (some 0) (later (find l x rs))) ≡ none
    go s ih true d = refl
    go s ih false d = beside s ih (eqb r.level l) refl (ltb-false r.level l d)

-- Data IDs that are apart differ.
pub apart_differ : (marks owners : List ℕ) (i : ℕ) (rs : List TypeRow) → length marks ≡ 320 → apart marks owners i rs ≡ true → idents_differ rs ≡ true
unfolding idents_differ
apart_differ marks owners i [] e a = refl
apart_differ marks owners i (r ∷ rs) e a =
    let s = step marks owners i r rs a in
    let e2 = length-set marks (place_of r.level r.ident) (get_or owners r.level 0) ∙ e in
    let own : get_or (set marks (place_of r.level r.ident) (get_or owners r.level 0)) (place_of r.level r.ident) 0 ≡ get_or (set owners (r.level + 1) (i + 2)) r.level 0 =
    get_or-set_same marks (place_of r.level r.ident) (get_or owners r.level 0) 0 (omega (arith, s.low))
    ∙ sym (get_or-set_other owners (r.level + 1) r.level (i + 2) 0 (λ z. omega arith)) in
    rw (taken_none (set marks (place_of r.level r.ident) (get_or owners r.level 0)) (set owners (r.level + 1) (i + 2)) (i + 1) rs e2 s.rest r.level r.ident own)
    (apart_differ (set marks (place_of r.level r.ident) (get_or owners r.level 0)) (set owners (r.level + 1) (i + 2)) (i + 1) rs e2 s.rest)

-- ---- over the cells

module _ (cells marks owners : List ℕ) (n i : ℕ) where
  pub apart_next : i < n → level_in (get_or cells i 0) ≤ 4 → (l p o : ℕ) → l ≡ level_in (get_or cells i 0) → p ≡ place_of l (ident_in (get_or cells i 0)) → o ≡ get_or owners l 0
      → (get_or marks p 0 ≡ o → ⊥)
      → apart marks owners i (drop i (table_in n cells)) ≡ apart (set marks p o) (set owners (l + 1) (i + 2)) (i + 1) (drop (i + 1) (table_in n cells))
  unfolding apart
  apart_next h low l p o el ep eo ne =
      let q : get_or marks (place_of (level_in (get_or cells i 0)) (ident_in (get_or cells i 0))) 0 ≡ get_or owners (level_in (get_or cells i 0)) 0 → ⊥ =
      λ z. ne (ap (λ (m : ℕ). get_or marks m 0) (ep ∙ ap (λ (m : ℕ). place_of m (ident_in (get_or cells i 0))) el) ∙ z ∙ ap (λ (m : ℕ). get_or owners m 0) (sym el) ∙ sym eo) in
      rw (rows_here cells n i h, le-leb (level_in (get_or cells i 0)) 4 low, ne_eqb (get_or marks (place_of (level_in (get_or cells i 0)) (ident_in (get_or cells i 0))) 0) (get_or owners (level_in (get_or cells i 0)) 0) q, eo, ep, el)
      (ap (λ (m : ℕ). apart (set marks (place_of (level_in (get_or cells i 0)) (ident_in (get_or cells i 0))) (get_or owners (level_in (get_or cells i 0)) 0)) (set owners (level_in (get_or cells i 0) + 1) (i + 2)) (i + 1) (drop m (table_in n cells))) (sym (add-one i)))

  pub apart_end : n ≤ i → apart marks owners i (drop i (table_in n cells)) ≡ true
  unfolding apart
  apart_end h = rw (rows_end cells n i h)
