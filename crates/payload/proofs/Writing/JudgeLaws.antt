-- The judging of rows: its start, one turn of it, and its end.
-- Assumes nothing.
use mathlib.Core.Path.{◌≡◌, refl, ap}
use mathlib.Core.Bool.{true, false}
use mathlib.Core.List.{List, [], ◌∷◌, map}
use mathlib.Core.Logic.{◌⊎◌, inl, inr}
use Prim.Native.Nat.{ℕ, zero, suc, ◌+◌, ◌≤◌, ◌<◌}
use native.Mathlib.Omega.{arith}
use lib.ListN.{length, get_or, take, drop}
use lib.Seq.{drop-cons}
use Rattle.payload.specs.declared.row.Row.{Row}
use Rattle.payload.specs.declared.table.TypeRow.{TypeRow}
use Rattle.payload.specs.Cells.{row_in, rows_in, table_in, FineRow, FineTable}
use Rattle.payload.specs.Judging.{outside, row_fine, up_after, Fine, Outside, Unfit, judged_from, judged_of}

rows_map : (k i : ℕ) (cells : List ℕ) → i + k ≤ length cells → rows_in k i cells ≡ map row_in (take k (drop i cells))
unfolding rows_in
rows_map zero i cells h = refl
rows_map (suc k) i cells h = rw (drop-cons cells i 0 (omega arith)) (ap (λ (t : List TypeRow). row_in (get_or cells i 0) ∷ t) (rows_map k (suc i) cells (omega arith)))

-- the rows of a table are those of its cells, one by one
pub table_map : (n : ℕ) (cells : List ℕ) → n ≤ length cells → table_in n cells ≡ map row_in (take n cells)
unfolding table_in
table_map n cells h = rows_map n 0 cells (omega arith)

get_take : (n k : ℕ) (cells : List ℕ) → k < n → get_or (take n cells) k 0 ≡ get_or cells k 0
get_take zero k cells h = absurd (omega arith)
get_take (suc n) k [] h = refl
get_take (suc n) zero (x ∷ cells) h = refl
get_take (suc n) (suc k) (x ∷ cells) h = get_take n k cells (omega arith)

length_take : (n : ℕ) (cells : List ℕ) → length (take n cells) ≤ n
length_take zero cells = omega arith
length_take (suc n) [] = omega arith
length_take (suc n) (x ∷ cells) = omega (arith, length_take n cells)

pub fine_start : (n : ℕ) (cells : List ℕ) → FineTable n cells → (k : ℕ) → k < length (take n cells) → FineRow (row_in (get_or (take n cells) k 0))
fine_start n cells f k h = let q : k < n = omega (arith, length_take n cells) in rw (get_take n k cells q) (f.each k q)

pub judged_start : (buf : List ℕ) (n : ℕ) (cells : List ℕ) (rows : List Row) → n ≤ length cells
    → judged_from buf 1 (map row_in (take n cells)) rows ≡ judged_of buf (table_in n cells) rows
unfolding judged_of
judged_start buf n cells rows h = rw (table_map n cells h)

-- ---- one turn

module _ (buf : List ℕ) (upto : ℕ) (r : TypeRow) (rs : List TypeRow) (v : Row) (vs : List Row) where
  pub judged_outside : outside (length buf) v.value ≡ true → judged_from buf upto (r ∷ rs) (v ∷ vs) ≡ Outside
  unfolding judged_from
  judged_outside o = rw o

  module _ (o : outside (length buf) v.value ≡ false) where
    pub judged_unfit : row_fine buf upto r v ≡ false → judged_from buf upto (r ∷ rs) (v ∷ vs) ≡ Unfit
    unfolding judged_from
    judged_unfit f = rw (o, f)

    pub judged_next : row_fine buf upto r v ≡ true → judged_from buf upto (r ∷ rs) (v ∷ vs) ≡ judged_from buf (up_after upto r v) rs vs
    unfolding judged_from
    judged_next f = rw (o, f)

pub judged_end : (buf : List ℕ) (upto : ℕ) (cells : List ℕ) (vs : List Row) → (length vs ≡ 0) ⊎ (length cells ≡ 0)
    → judged_from buf upto (map row_in cells) vs ≡ Fine
unfolding judged_from
judged_end buf upto [] vs h = refl
judged_end buf upto (r ∷ rs) [] h = refl
judged_end buf upto (r ∷ rs) (v ∷ vs) (inl e) = absurd (omega arith)
judged_end buf upto (r ∷ rs) (v ∷ vs) (inr e) = absurd (omega arith)
