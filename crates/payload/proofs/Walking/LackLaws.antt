-- The required rows of a level, one at a time, as the code goes over the cells.
-- Assumes nothing.
use mathlib.Core.Path.{◌≡◌, refl, ap, ◌∙◌}
use Prim.Native.Nat.{ℕ, suc, ◌≤◌, ◌<◌}
use native.Mathlib.Omega.{arith}
use mathlib.Core.Bool.{Bool, true, false}
use mathlib.Core.List.{List, ◌∷◌}
use lib.ListN.{length, take, drop, get_or, set}
use lib.Seq.{drop-cons, get_or-take, length-take-le}
use lib.Dec.{ltb, eqb}
use borrow.Author.Tests.{lt-ltb, le-ltb, eq-eqb, eqb-true, ltb-true, ltb-false}
use Rattle.std.proofs.lemmas.List.{set-get_or}
use Rattle.wire.specs.Choose.{and, or}
use Rattle.payload.specs.declared.row.Row.{Row}
use Rattle.payload.specs.declared.row.Value.TheVariants.{Absent}
use Rattle.payload.specs.declared.read.Walker.{Walker}
use Rattle.payload.specs.Cells.{level_in, required_in, table_in}
use Rattle.payload.specs.Row.{absent_row, is_absent}
use Rattle.payload.specs.Reading.{lacks}
use Rattle.payload.proofs.Rules.CellLaws.{rows_end, rows_here}
use Rattle.payload.proofs.Writing.Nesting.{absent_value_lem}

-- a row that is absent shows that already, and a walker that has it shown so is as it was
absent_shown : (r : Row) → is_absent r ≡ true → record r { value = Absent } ≡ r
absent_shown r e = rw (← absent_value_lem r e)

pub shown_absent : (w : Walker) (i : ℕ) → is_absent (get_or w.rows i absent_row) ≡ true
    → record w { rows = set w.rows i (record (get_or w.rows i absent_row) { value = Absent }) } ≡ w
shown_absent w i e = rw (absent_shown (get_or w.rows i absent_row) e, set-get_or w.rows i absent_row)

module _ (cells : List ℕ) (rows : List Row) (n l : ℕ) (long : n ≤ length rows) where
  -- from row i on a required row of the level is missing
  abbrev pub lacks_at : ℕ → Bool
  lacks_at i = lacks l (drop i (table_in n cells)) (drop i (take n rows))

  module _ (i : ℕ) where
    lacks_end : n ≤ i → lacks_at i ≡ false
    unfolding lacks
    lacks_end h = rw (rows_end cells n i h)

    module _ (h : i < n) where
      abbrev cell : ℕ
      cell = get_or cells i 0

      row_here : drop i (take n rows) ≡ get_or rows i absent_row ∷ drop (suc i) (take n rows)
      row_here =
          let k = length-take-le n rows long in
          drop-cons (take n rows) i absent_row (omega arith)
          ∙ ap (◌∷ drop (suc i) (take n rows)) (get_or-take n rows i absent_row h)

      lacks_above : level_in cell < l → lacks_at i ≡ false
      unfolding lacks
      lacks_above e = rw (rows_here cells n i h, row_here, lt-ltb (level_in cell) l e)

      pub lacks_this : level_in cell ≡ l → required_in cell ≡ true → is_absent (get_or rows i absent_row) ≡ true → lacks_at i ≡ true
      unfolding lacks
      lacks_this e r z =
          rw (
            rows_here cells n i h,
            row_here,
            le-ltb (level_in cell) l (omega arith),
            eq-eqb (level_in cell) l e,
            r,
            z,
          )

      pub lacks_next : l ≤ level_in cell → (level_in cell ≡ l → required_in cell ≡ true → is_absent (get_or rows i absent_row) ≡ true → ⊥)
          → lacks_at i ≡ lacks_at (suc i)
      unfolding lacks
      lacks_next e ne =
          rw (
            rows_here cells n i h,
            row_here,
            le-ltb (level_in cell) l e,
          )
          (go (eqb (level_in cell) l) (required_in cell) (is_absent (get_or rows i absent_row)) refl refl refl)
        where
          go : (a b d : Bool) → eqb (level_in cell) l ≡ a → required_in cell ≡ b → is_absent (get_or rows i absent_row) ≡ d
              → or (and a (and b d)) (lacks_at (suc i)) ≡ lacks_at (suc i)
          go true true true ea eb ed = absurd (ne (eqb-true (level_in cell) l ea) eb ed)
          go true true false ea eb ed = refl
          go true false d ea eb ed = refl
          go false b d ea eb ed = refl

  -- where the level's rows stop
  pub lacks_stop : (stop : ℕ) → (stop < n → level_in (get_or cells stop 0) < l) → lacks_at stop ≡ false
  lacks_stop stop shut = go (ltb stop n) refl
    where
      go : (b : Bool) → ltb stop n ≡ b → lacks_at stop ≡ false
      go true e = lacks_above stop (ltb-true stop n e) (shut (ltb-true stop n e))
      go false e = lacks_end stop (ltb-false stop n e)
