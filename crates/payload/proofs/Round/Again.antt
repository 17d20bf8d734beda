-- Rows that show the same values over another buffer are judged fine and make the same tree.
-- Assumes nothing.
use mathlib.Core.Path.{◌≡◌, refl, ap}
use Prim.Native.Nat.{ℕ, zero, suc, ◌+◌, ◌<◌}
use native.Mathlib.Omega.{arith}
use mathlib.Core.Bool.{false}
use mathlib.Core.List.{List, [], ◌∷◌, ◌++◌}
use lib.ListN.{length, get_or}
use borrow.Author.Tests.{le-ltb}
use Rattle.payload.specs.declared.table.TypeRow.{TypeRow}
use Rattle.payload.specs.declared.row.Row.{Row}
use Rattle.payload.specs.declared.row.Value.{Value}
use Rattle.payload.specs.Judging.{Fine}
use Rattle.payload.specs.Row.{absent_row, is_absent}
use Rattle.payload.specs.Judging.{outside, run_fits, row_fine, up_after, judged_from}
use Rattle.payload.specs.Writing.{put_of, parts_of}
use Rattle.payload.specs.Demand2.{SameAs, Same, same_absent, same_unsigned, same_signed, same_float32, same_float64, same_run, same_members}
use Rattle.payload.proofs.Round.Judgings.{Passed, no_rows, a_row, first_judged}
use Rattle.payload.proofs.Round.OwnTable.{Showing, show_none, show_end, show_row}

-- ---- a row

module _ (buf p : List ℕ) (r : TypeRow) where
  -- a run that is shown is inside the payload
  same_inside : {bits : ℕ} {y : Value} {x : Row} → SameAs buf p bits y x → outside (length p) x.value ≡ false
  same_inside same_absent = refl
  same_inside same_unsigned = refl
  same_inside same_signed = refl
  same_inside same_float32 = refl
  same_inside same_float64 = refl
  same_inside (same_run {place2 = place2} {len = len} e h) = le-ltb (length p) (place2 + len) h
  same_inside same_members = refl

  same_fine : (upto : ℕ) {bits : ℕ} {y : Value} {x : Row} → SameAs buf p bits y x
      → row_fine p upto r x ≡ row_fine buf upto r (record { value = y; bits = bits })
  unfolding row_fine is_absent run_fits
  same_fine upto same_absent = refl
  same_fine upto same_unsigned = refl
  same_fine upto same_signed = refl
  same_fine upto same_float32 = refl
  same_fine upto same_float64 = refl
  same_fine upto (same_run e h) = rw e
  same_fine upto same_members = refl

  same_up : (upto : ℕ) {bits : ℕ} {y : Value} {x : Row} → SameAs buf p bits y x
      → up_after upto r x ≡ up_after upto r (record { value = y; bits = bits })
  unfolding up_after
  same_up upto same_absent = refl
  same_up upto same_unsigned = refl
  same_up upto same_signed = refl
  same_up upto same_float32 = refl
  same_up upto same_float64 = refl
  same_up upto (same_run e h) = refl
  same_up upto same_members = refl

  same_put : {bits : ℕ} {y : Value} {x : Row} → SameAs buf p bits y x → put_of p r x.value x.bits ≡ put_of buf r y bits
  unfolding put_of
  same_put same_absent = refl
  same_put same_unsigned = refl
  same_put same_signed = refl
  same_put same_float32 = refl
  same_put same_float64 = refl
  same_put (same_run e h) = rw e
  same_put same_members = refl

-- ---- the rows

-- rows that show the same values, one for each type row, and any rows behind them
pub data AllSame (buf p : List ℕ) : List TypeRow → List Row → List Row → Type 0 where
  all_none : {vs xs : List Row} → AllSame buf p [] vs xs
  all_more : {r : TypeRow} {rs : List TypeRow} {v : Row} {vs : List Row} {x : Row} {xs : List Row} → Same buf p v x → AllSame buf p rs vs xs
      → AllSame buf p (r ∷ rs) (v ∷ vs) (x ∷ xs)

module _ (buf p : List ℕ) where
  -- at level 1 every row shows its value
  pub showing_all : {upto : ℕ} {rs : List TypeRow} {vs xs : List Row} → Passed buf upto rs vs → Showing buf p 1 rs vs xs
      → AllSame buf p rs vs xs × (length xs ≡ length rs)
  showing_all no_rows show_none = (all_none, refl)
  showing_all (a_row rules e s rest) (show_end h a) = absurd (omega (arith, rules.level_least))
  showing_all (a_row rules e s rest) (show_row h q w) = let ih = showing_all rest w in (all_more q ih.0, ap suc ih.1)

  pub all_longer : {rs : List TypeRow} {vs xs : List Row} → AllSame buf p rs vs xs → (more : List Row) → AllSame buf p rs vs (xs ++ more)
  all_longer all_none more = all_none
  all_longer (all_more s a) more = all_more s (all_longer a more)

  pub all_at : {rs : List TypeRow} {vs xs : List Row} → AllSame buf p rs vs xs → (i : ℕ) → i < length rs
      → Same buf p (get_or vs i absent_row) (get_or xs i absent_row)
  all_at all_none i h = absurd (omega arith)
  all_at (all_more s a) zero h = s
  all_at (all_more s a) (suc i) h = all_at a i (omega arith)

  pub judged_again : {rs : List TypeRow} {vs xs : List Row} → AllSame buf p rs vs xs → (upto : ℕ) → judged_from buf upto rs vs ≡ Fine
      → judged_from p upto rs xs ≡ Fine
  unfolding judged_from
  judged_again all_none upto e = refl
  judged_again (all_more {r = r} {rs = rs} {v = v} {vs = vs} s a) upto e =
      let d = first_judged buf upto r rs v vs e in
      rw (same_inside buf p r s, same_fine buf p r upto s, d.fine, same_up buf p r upto s) (judged_again a (up_after upto r v) d.rest)

  pub parts_again : (ws : ℕ) {rs : List TypeRow} {vs xs : List Row} → AllSame buf p rs vs xs → parts_of ws p rs xs ≡ parts_of ws buf rs vs
  unfolding parts_of
  parts_again ws all_none = refl
  parts_again ws (all_more {r = r} s a) = rw (same_put buf p r s, parts_again ws a)
