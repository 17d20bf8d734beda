-- The writer's answers: the members one after the other, as the passes have them, are what the tree says.
-- Assumes nothing.
use mathlib.Core.Path.{◌≡◌, refl, sym, ◌∙◌}
use mathlib.Core.Bool.{Bool, true, false}
use mathlib.Core.List.{◌∷◌}
use Prim.Native.Nat.{ℕ, ◌≤◌, ◌<◌}
use lib.ListN.{length}
use Rattle.std.proofs.Common.{Result, Ok, Err}
use Rattle.wire.specs.declared.verdict.Verdict.{Verdict}
use Rattle.wire.specs.declared.verdict.Verdict.TheVariants.{Room, Wide, Heavy}
use Rattle.payload.specs.declared.fine.FineRows.{FineRows}
use Rattle.payload.specs.Cells.{row_in, table_in}
use Rattle.payload.specs.Reading.{payload_most}
use Rattle.payload.specs.Tree.{bytes_of}
use Rattle.payload.specs.Judging.{judged_of}
use Rattle.payload.specs.Writing.{part_of, nested, some_wide, refused, done}
use Rattle.payload.specs.Parts.{wide_under}
use Rattle.payload.specs.Sizes.{measured_is, fitted_of}
use Rattle.payload.specs.Fine.{cell_at, value_at, parts_at, bytes_at, fine_outcome}
use Rattle.payload.proofs.Writing.Flat.{Shaped, flat_bytes, flat_wide}
use Rattle.payload.proofs.Writing.Nesting.{judged_shaped}
use Rattle.payload.proofs.Writing.FineLaws.{judged_fine, parts_more}
use Rattle.payload.proofs.Writing.OutcomeLaws.{fitted_heavy, fitted_room, fitted_done, sized_wide, sized_narrow}

module _ (f : FineRows) where
  -- the first row has level 1, so that the members one after the other are the tree's
  heads : parts_at f 0 ≡ part_of f.wire f.content.now (row_in (cell_at f 0)) (value_at f 0) ∷ parts_at f 1
  heads = parts_more f 0 f.some

  shaped : Shaped (part_of f.wire f.content.now (row_in (cell_at f 0)) (value_at f 0) ∷ parts_at f 1)
  unfolding judged_of
  shaped = rw heads at (judged_shaped f.content.now f.wire 1 (table_in f.table.now.count f.table.now.cells) f.rows.now (judged_fine f))

  tree_bytes : bytes_at f 0 ≡ bytes_of f.table.now.width (nested 1 (parts_at f 0))
  tree_bytes = rw heads (flat_bytes f.table.now.width _ _ f.first shaped)

  tree_wide : wide_under f.table.now.width 1 (parts_at f 0) ≡ some_wide f.table.now.width (nested 1 (parts_at f 0))
  tree_wide = rw heads (flat_wide f.table.now.width _ _ f.first shaped)

  outcome_wide : (space : ℕ) → wide_under f.table.now.width 1 (parts_at f 0) ≡ true → fine_outcome f space ≡ refused Wide
  outcome_wide space e = sized_wide f.table.now.width (nested 1 (parts_at f 0)) space (sym tree_wide ∙ e)

  outcome_narrow : (space : ℕ) → wide_under f.table.now.width 1 (parts_at f 0) ≡ false
      → fine_outcome f space ≡ fitted_of (bytes_at f 0) space
  outcome_narrow space e = sized_narrow f.table.now.width (nested 1 (parts_at f 0)) space (sym tree_wide ∙ e) ∙ rw tree_bytes

  -- ---- what measuring and the tests after it say of the outcome

  abbrev measured : Result ℕ Verdict
  measured = measured_is (wide_under f.table.now.width 1 (parts_at f 0)) (length (bytes_at f 0))

  module _ (space : ℕ) where
    pub ends_wide : (v : Verdict) → Err v ≡ measured → fine_outcome f space ≡ refused v
    ends_wide v e = go (wide_under f.table.now.width 1 (parts_at f 0)) refl e
      where
        go : (b : Bool) → wide_under f.table.now.width 1 (parts_at f 0) ≡ b → Err v ≡ measured_is b (length (bytes_at f 0)) → fine_outcome f space ≡ refused v
        go true eb e = let z : v ≡ Wide = cc in rw z (outcome_wide space eb)
        go false eb e = absurd (cc)

    narrow : (total : ℕ) → Ok total ≡ measured → (wide_under f.table.now.width 1 (parts_at f 0) ≡ false) × (total ≡ length (bytes_at f 0))
    narrow total e = go (wide_under f.table.now.width 1 (parts_at f 0)) e
      where
        go : (b : Bool) → Ok total ≡ measured_is b (length (bytes_at f 0)) → (b ≡ false) × (total ≡ length (bytes_at f 0))
        go true e = absurd (cc)
        go false e = (refl, cc)

    module _ (total : ℕ) (e : Ok total ≡ measured) where
      fitted : fine_outcome f space ≡ fitted_of (bytes_at f 0) space
      fitted = outcome_narrow space (narrow total e).0

      pub total_is : total ≡ length (bytes_at f 0)
      total_is = (narrow total e).1

      pub ends_heavy : payload_most < total → fine_outcome f space ≡ refused Heavy
      ends_heavy h = fitted ∙ fitted_heavy (bytes_at f 0) space (rw total_is at h)

      pub ends_room : total ≤ payload_most → space < total → fine_outcome f space ≡ refused Room
      ends_room h k = fitted ∙ fitted_room (bytes_at f 0) space (rw total_is at h) (rw total_is at k)

      pub ends_done : total ≤ payload_most → total ≤ space → fine_outcome f space ≡ done (bytes_at f 0)
      ends_done h k = fitted ∙ fitted_done (bytes_at f 0) space (rw total_is at h) (rw total_is at k)
