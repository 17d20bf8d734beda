-- The rows that cells stand for, one at a time, as the code goes over them: a row's cell gives the row back, and a search goes row by row.
-- Assumes nothing.
use mathlib.Core.Path.{◌≡◌, refl, sym, ap, ◌∙◌}
use Prim.Native.Nat.{ℕ, zero, suc, ◌+◌, ◌-◌, ◌*◌, ◌/◌, ◌%◌, ◌≤◌, ◌<◌}
use native.Mathlib.Omega.{arith}
use mathlib.Core.Bool.{Bool, true, false}
use mathlib.Core.Option.{Option as Place, none, some}
use Rattle.std.specs.Prelude.{Option, Some, None, is_some, not}
use mathlib.Core.List.{List, [], ◌∷◌}
use lib.ListN.{length, take, drop, get_or, length-drop}
use lib.Seq.{drop-nil, get_or-take, get_or-drop, take_all, length-take-le}
use Rattle.std.proofs.lemmas.List.{length-take}
use lib.Dec.{ltb, eqb}
use borrow.Author.Tests.{lt-ltb, le-ltb, eq-eqb, eqb-true, eqb-false, ltb-true, ltb-false}
use Rattle.wire.specs.Choose.{pick, and}
use Rattle.payload.specs.declared.table.TypeRow.{TypeRow}
use Rattle.payload.specs.Table.{later, find, is_none, idents_differ}
use Rattle.payload.specs.Cells.{bit_of, cell_of, ident_in, level_in, row_in, rows_in, table_in, FineRow, found_at, search_at, Within, Stops}

-- ---- the cell of a row

module _ (i l k e b : ℕ) (hl : l ≤ 4) (hk : k < 15) (he : e < 12) (hb : b < 2) where
  level_back : (((i * 16 + l) * 16 + k) * 32 + e * 2 + b) / 512 % 16 ≡ l
  level_back = omega arith

  ident_back : (((i * 16 + l) * 16 + k) * 32 + e * 2 + b) / 8192 ≡ i
  ident_back = omega arith

  kind_back : (((i * 16 + l) * 16 + k) * 32 + e * 2 + b) / 32 % 16 ≡ k
  kind_back = omega arith

  elem_back : (((i * 16 + l) * 16 + k) * 32 + e * 2 + b) / 2 % 16 ≡ e
  elem_back = omega arith

  bit_back : (((i * 16 + l) * 16 + k) * 32 + e * 2 + b) % 2 ≡ b
  bit_back = omega arith

pub bit_small : (q : Bool) → bit_of q < 2
bit_small true = omega arith
bit_small false = omega arith

bit_test : (q : Bool) → eqb (bit_of q) 1 ≡ q
bit_test true = refl
bit_test false = refl

pub cell_row : (r : TypeRow) → FineRow r → row_in (cell_of r) ≡ r
cell_row r s =
    rw (
      level_back r.ident r.level r.kind r.elem (bit_of r.required) s.level_in_lem s.kind_in_lem s.elem_in_lem (bit_small r.required),
      ident_back r.ident r.level r.kind r.elem (bit_of r.required) s.level_in_lem s.kind_in_lem s.elem_in_lem (bit_small r.required),
      kind_back r.ident r.level r.kind r.elem (bit_of r.required) s.level_in_lem s.kind_in_lem s.elem_in_lem (bit_small r.required),
      elem_back r.ident r.level r.kind r.elem (bit_of r.required) s.level_in_lem s.kind_in_lem s.elem_in_lem (bit_small r.required),
      bit_back r.ident r.level r.kind r.elem (bit_of r.required) s.level_in_lem s.kind_in_lem s.elem_in_lem (bit_small r.required),
      bit_test r.required,
    )

-- ---- the rows of the cells

rows_drop : (n j i : ℕ) (cells : List ℕ) → i < n → drop i (rows_in n j cells) ≡ row_in (get_or cells (j + i) 0) ∷ drop (suc i) (rows_in n j cells)
unfolding rows_in
rows_drop zero j i cells h = absurd (omega arith)
rows_drop (suc n) j zero cells h = let e : j + 0 ≡ j = omega arith in rw e
rows_drop (suc n) j (suc i) cells h =
    let e : suc j + i ≡ j + suc i = omega arith in
    rows_drop n (suc j) i cells (omega arith) ∙ ap (λ (k : ℕ). row_in (get_or cells k 0) ∷ drop (suc i) (rows_in n (suc j) cells)) e

rows_none : (n j i : ℕ) (cells : List ℕ) → n ≤ i → drop i (rows_in n j cells) ≡ []
unfolding rows_in
rows_none zero j i cells h = drop-nil i
rows_none (suc n) j zero cells h = absurd (omega arith)
rows_none (suc n) j (suc i) cells h = rows_none n (suc j) i cells (omega arith)

rows_length : (n j : ℕ) (cells : List ℕ) → length (rows_in n j cells) ≡ n
unfolding rows_in
rows_length zero j cells = refl
rows_length (suc n) j cells = ap suc (rows_length n (suc j) cells)

-- a table has as many rows as cells
pub table_length : (n : ℕ) (cells : List ℕ) → length (table_in n cells) ≡ n
unfolding table_in
table_length n cells = rows_length n 0 cells

-- behind the row that was found
later_at : (i : ℕ) (o : Place ℕ) → found_at i (later o) ≡ found_at (suc i) o
unfolding later
later_at i none = refl
later_at i (some k) = let e : i + suc k ≡ suc i + k = omega arith in ap Some e

none_found : (i : ℕ) (o : Place ℕ) → not (is_some (found_at i o)) ≡ is_none o
none_found i none = refl
none_found i (some k) = refl

module _ (cells : List ℕ) (n i : ℕ) where
  pub rows_end : n ≤ i → drop i (table_in n cells) ≡ []
  unfolding table_in
  rows_end h = rows_none n 0 i cells h

  pub rows_here : i < n → drop i (table_in n cells) ≡ row_in (get_or cells i 0) ∷ drop (suc i) (table_in n cells)
  unfolding table_in
  rows_here h = let e : 0 + i ≡ i = omega arith in rows_drop n 0 i cells h ∙ ap (λ (k : ℕ). row_in (get_or cells k 0) ∷ drop (suc i) (rows_in n 0 cells)) e

  -- the row at an index
  pub row_at_lem : (d : TypeRow) → i < n → get_or (table_in n cells) i d ≡ row_in (get_or cells i 0)
  row_at_lem d h =
      let e : i + 0 ≡ i = omega arith in
      ap (λ (k : ℕ). get_or (table_in n cells) k d) (sym e) ∙ sym (get_or-drop i (table_in n cells) 0 d) ∙ ap (λ (t : List TypeRow). get_or t 0 d) (rows_here h)

  -- ---- a search

  module _ (l x : ℕ) where
    pub find_end : n ≤ i → found_at i (find l x (drop i (table_in n cells))) ≡ None
    unfolding find
    find_end h = rw (rows_end h)

    module _ (h : i < n) (small : l < 16) where
      pub find_this : get_or cells i 0 / 512 ≡ x * 16 + l → found_at i (find l x (drop i (table_in n cells))) ≡ Some i
      unfolding find
      find_this e =
          let a : level_in (get_or cells i 0) ≡ l = omega arith in
          let b : ident_in (get_or cells i 0) ≡ x = omega arith in
          let z : i + 0 ≡ i = omega arith in
          rw (rows_here h, le-ltb (level_in (get_or cells i 0)) l (omega arith), eq-eqb (level_in (get_or cells i 0)) l a, eq-eqb (ident_in (get_or cells i 0)) x b, z)

      pub find_above : level_in (get_or cells i 0) < l → found_at i (find l x (drop i (table_in n cells))) ≡ None
      unfolding find
      find_above e = rw (rows_here h, lt-ltb (level_in (get_or cells i 0)) l e)

      pub find_next : (get_or cells i 0 / 512 ≡ x * 16 + l → ⊥) → l ≤ level_in (get_or cells i 0)
          → found_at i (find l x (drop i (table_in n cells))) ≡ found_at (suc i) (find l x (drop (suc i) (table_in n cells)))
      unfolding find
      find_next ne e =
          rw (rows_here h, le-ltb (level_in (get_or cells i 0)) l e)
          (go (eqb (level_in (get_or cells i 0)) l) (eqb (ident_in (get_or cells i 0)) x) refl refl)
        where
          go : (a b : Bool) → eqb (level_in (get_or cells i 0)) l ≡ a → eqb (ident_in (get_or cells i 0)) x ≡ b
              → found_at i (pick (and a b) (some 0) (later (find l x (drop (suc i) (table_in n cells))))) ≡ found_at (suc i) (find l x (drop (suc i) (table_in n cells)))
          go true true ea eb = absurd (ne (omega (arith, eqb-true (level_in (get_or cells i 0)) l ea, eqb-true (ident_in (get_or cells i 0)) x eb)))
          go true false ea eb = later_at i (find l x (drop (suc i) (table_in n cells)))
          go false b ea eb = later_at i (find l x (drop (suc i) (table_in n cells)))

-- ---- a search over several rows

-- rows that do not have the key are passed
pub search_skips : (cells : List ℕ) (n l x : ℕ) → l < 16 → (m i : ℕ) → i + m ≤ n → ((k : ℕ) → k < m → get_or cells (i + k) 0 / 512 ≡ x * 16 + l → ⊥)
    → ((k : ℕ) → k < m → l ≤ level_in (get_or cells (i + k) 0)) → search_at n cells l x i ≡ search_at n cells l x (i + m)
search_skips cells n l x small zero i h ne deep = let z : i + 0 ≡ i = omega arith in rw z
search_skips cells n l x small (suc m) i h ne deep =
    let z : suc i + m ≡ i + suc m = omega arith in
    find_next cells n i l x (omega arith) small (rw z0 at (ne 0 (omega arith))) (rw z0 at (deep 0 (omega arith)))
    ∙ search_skips cells n l x small m (suc i) (omega arith) (λ k b. rw (next k) (ne (suc k) (omega arith))) (λ k b. rw (next k) (deep (suc k) (omega arith)))
    ∙ ap (search_at n cells l x) z
  where
    z0 : i + 0 ≡ i
    z0 = omega arith

    next : (k : ℕ) → suc i + k ≡ i + suc k
    next k = omega arith

-- where a level's rows stop nothing is found
pub search_stops : (cells : List ℕ) (first stop n l x : ℕ) → l < 16 → Stops cells first stop n l → search_at n cells l x stop ≡ None
search_stops cells first stop n l x small s = go (ltb stop n) refl
  where
    go : (b : Bool) → ltb stop n ≡ b → search_at n cells l x stop ≡ None
    go true e = find_above cells n stop l x (ltb-true stop n e) small (s.shut (ltb-true stop n e))
    go false e = find_end cells n stop l x (ltb-false stop n e)

-- the rows of a level are enough
module _ (cells : List ℕ) (first stop count l x : ℕ) (small : l < 16) (s : Stops cells first stop count l) where
  rows_enough : (k i : ℕ) → i + k ≡ stop → first ≤ i → search_at stop cells l x i ≡ search_at count cells l x i
  rows_enough zero i e a =
      let z : i ≡ stop = omega arith in
      rw z (find_end cells stop stop l x (omega arith) ∙ sym (search_stops cells first stop count l x small s))
  rows_enough (suc k) i e a = go (eqb (get_or cells i 0 / 512) (x * 16 + l)) refl (rows_enough k (suc i) (omega arith) (omega arith))
    where
      go : (b : Bool) → eqb (get_or cells i 0 / 512) (x * 16 + l) ≡ b → search_at stop cells l x (suc i) ≡ search_at count cells l x (suc i)
          → search_at stop cells l x i ≡ search_at count cells l x i
      go true d later =
          let hit = eqb-true (get_or cells i 0 / 512) (x * 16 + l) d in
          find_this cells stop i l x (omega arith) small hit ∙ sym (find_this cells count i l x (omega (arith, s.to)) small hit)
      go false d later =
          let ne = eqb-false (get_or cells i 0 / 512) (x * 16 + l) d in
          let lev = s.deep i a (omega arith) in
          find_next cells stop i l x (omega arith) small ne lev ∙ later ∙ sym (find_next cells count i l x (omega (arith, s.to)) small ne lev)

  pub level_search : search_at stop cells l x first ≡ search_at count cells l x first
  level_search = rows_enough (stop - first) first (omega (arith, s.from)) (omega arith)

  pub level_within : (f : Option ℕ) → Within cells first stop l f → Within cells first count l f
  level_within (Some i) w = (w.0, omega (arith, w.1, s.to), w.2)
  level_within None w = tt

-- ---- parts of the cells

-- a cell of a part
pub part_cell : (cells : List ℕ) (a m k : ℕ) → k < m → get_or (take m (drop a cells)) k 0 ≡ get_or cells (a + k) 0
part_cell cells a m k h = get_or-take m (drop a cells) k 0 h ∙ get_or-drop a cells k 0

-- a search of a part
module _ (cells : List ℕ) (n l x key at q : ℕ) (small : l < 16) (e : key ≡ x * 16 + l) (h : at + q ≤ n)
    (deep : (i : ℕ) → at ≤ i → i < at + q → l ≤ level_in (get_or cells i 0)) where
  pub part_miss : at + q ≤ length cells → ((k : ℕ) → k < length (take q (drop at cells)) → get_or (take q (drop at cells)) k 0 / 512 ≡ key → ⊥)
      → search_at n cells l x at ≡ search_at n cells l x (at + q)
  part_miss room ne =
      let long : length (take q (drop at cells)) ≡ q = length-take-le q (drop at cells) (simp length-drop (omega arith)) in
      search_skips cells n l x small q at h (λ k b d. ne k (omega arith) (rw (part_cell cells at q k b) (d ∙ sym e))) (λ k b. deep (at + k) (omega arith) (omega arith))

  pub part_hit : (i : ℕ) → i < length (take q (drop at cells)) → get_or (take q (drop at cells)) i 0 / 512 ≡ key
      → ((k : ℕ) → k < i → get_or (take q (drop at cells)) k 0 / 512 ≡ key → ⊥) → search_at n cells l x at ≡ Some (at + i)
  part_hit i b hit ne =
      let short = length-take q (drop at cells) in
      search_skips cells n l x small i at (omega arith) (λ k p d. ne k p (rw (part_cell cells at q k (omega arith)) (d ∙ sym e))) (λ k p. deep (at + k) (omega arith) (omega arith))
      ∙ find_this cells n (at + i) l x (omega arith) small (rw (part_cell cells at q i (omega arith)) at hit ∙ e)

rows_first : (k j n : ℕ) (cells : List ℕ) → j + k ≤ n → rows_in k j (take n cells) ≡ rows_in k j cells
unfolding rows_in
rows_first zero j n cells h = refl
rows_first (suc k) j n cells h = rw (get_or-take n cells j 0 (omega arith), rows_first k (suc j) n cells (omega arith))

-- the rows of the first n cells
pub table_first : (n : ℕ) (cells : List ℕ) → table_in n (take n cells) ≡ table_in n cells
unfolding table_in
table_first n cells = rows_first n 0 n cells (omega arith)

rows_shift : (k i j : ℕ) (cells : List ℕ) → rows_in k j (drop i cells) ≡ rows_in k (i + j) cells
unfolding rows_in
rows_shift zero i j cells = refl
rows_shift (suc k) i j cells =
    let e : i + suc j ≡ suc (i + j) = omega arith in
    rw (get_or-drop i cells j 0, rows_shift k i (suc j) cells, e)

rows_behind : (n j i : ℕ) (cells : List ℕ) → drop i (rows_in n j cells) ≡ rows_in (n - i) (j + i) cells
unfolding rows_in
rows_behind zero j i cells = let e : 0 - i ≡ 0 = omega arith in rw e (drop-nil i)
rows_behind (suc n) j zero cells =
    let e : j + 0 ≡ j = omega arith in
    let d : suc n - 0 ≡ suc n = omega arith in
    rw (e, d)
rows_behind (suc n) j (suc i) cells =
    let e : suc n - suc i ≡ n - i = omega arith in
    let d : j + suc i ≡ suc j + i = omega arith in
    rw (e, d) (rows_behind n (suc j) i cells)

-- the rows of the cells from an index on
pub table_behind : (n i : ℕ) (cells : List ℕ) → table_in (n - i) (drop i cells) ≡ drop i (table_in n cells)
unfolding table_in
table_behind n i cells =
    let a : i + 0 ≡ i = omega arith in
    let b : 0 + i ≡ i = omega arith in
    rows_shift (n - i) i 0 cells ∙ ap (λ (k : ℕ). rows_in (n - i) k cells) (a ∙ sym b) ∙ sym (rows_behind n 0 i cells)

-- ---- whether Data IDs differ, from row i on

module _ (cells : List ℕ) (i : ℕ) where
  abbrev pub rows_after : List TypeRow
  rows_after = drop i (table_in (length cells) cells)

  -- the cells behind it
  abbrev pub behind : List ℕ
  behind = take (length cells - (i + 1)) (drop (i + 1) cells)

  behind_is : behind ≡ drop (suc i) cells
  behind_is = let z : i + 1 ≡ suc i = omega arith in rw z (take_all (length cells - suc i) (drop (suc i) cells) (simp length-drop (omega arith)))

  module _ (h : i < length cells) (again : Bool)
      (e : again ≡ is_some (search_at (length behind) behind (level_in (get_or cells i 0)) (ident_in (get_or cells i 0)) 0)) where
    behind_none : not again ≡ is_none (find (level_in (get_or cells i 0)) (ident_in (get_or cells i 0)) (drop (suc i) (table_in (length cells) cells)))
    behind_none =
        rw (
          e,
          behind_is,
          none_found 0 (find (level_in (get_or cells i 0)) (ident_in (get_or cells i 0)) (table_in (length (drop (suc i) cells)) (drop (suc i) cells))),
          length-drop (suc i) cells,
          table_behind (length cells) (suc i) cells,
        )

    pub differ_stop : again ≡ true → idents_differ rows_after ≡ false
    unfolding idents_differ
    differ_stop a = rw (rows_here cells (length cells) i h, sym behind_none ∙ ap not a)

    pub differ_next : again ≡ false → idents_differ rows_after ≡ idents_differ (drop (suc i) (table_in (length cells) cells))
    unfolding idents_differ
    differ_next a = rw (rows_here cells (length cells) i h, sym behind_none ∙ ap not a)

  pub differ_end : length cells ≤ i → idents_differ rows_after ≡ true
  unfolding idents_differ
  differ_end h = rw (rows_end cells (length cells) i h)
