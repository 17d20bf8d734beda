-- Reading by paths: a payload whose tree fits a table's rows is accepted with rows by path, or refused as Missing.
-- Assumes nothing.
use mathlib.Core.Path.{◌≡◌, sym, ap, ◌∙◌}
use Prim.Native.Nat.{ℕ, suc}
use native.Mathlib.Omega.{arith}
use native.Mathlib.Nat.{add-zero}
use mathlib.Core.List.{List}
use lib.ListN.{length, replicate, length-replicate}
use borrow.Author.Tests.{le-ltb}
use Rattle.wire.specs.declared.verdict.Verdict.TheVariants.{Missing}
use Rattle.payload.specs.declared.table.TypeRow.{TypeRow}
use Rattle.payload.specs.declared.table.Table.{Table}
use Rattle.payload.specs.declared.row.Row.{Row}
use Rattle.payload.specs.Table.{type_rows}
use Rattle.payload.specs.Row.{absent_row}
use Rattle.payload.specs.Reading.{payload_most, refused, walked, walked_of, cleared, answer_of, checked_of, reading_of}
use Rattle.payload.specs.Tree.{Members, bytes_of}
use Rattle.payload.specs.Formed.{unknowns}
use Rattle.payload.specs.Outcome.{Walks}
use Rattle.payload.specs.Paths.{Fits, TreeRead, all_there, one_missing, ReadByPaths}
use Rattle.payload.proofs.Trees.Level.{true_false}
use Rattle.payload.proofs.Trees.Seen.{met_first}
use Rattle.payload.proofs.Trees.Accepted.{fits_differ, walked_reading}
use Rattle.payload.proofs.Round.Lying.{lies_whole}
use Rattle.payload.proofs.Paths.Fitting.{Ends, none_lacks, some_lacks, fits_ends}
use Rattle.payload.proofs.Paths.Lacking.{fits_lacks, lacks_fits}

refused_reading : (p : List ℕ) (t : Table) (room : ℕ) → Walks p t room → (place : ℕ) → walked_of t.width (type_rows t) p ≡ refused Missing place
    → reading_of p t room ≡ cleared t.count Missing place
unfolding reading_of checked_of answer_of
refused_reading p t room h place e =
    rw (h.table_fits_lem, le-ltb room t.count h.room_fits, le-ltb payload_most (length p) h.size_fits, e)

module _ (t : Table) (room : ℕ) (m : Members) (walks : Walks (bytes_of t.width m) t room) (fits : Fits t.width (type_rows t) 1 0 m) where
  abbrev types : List TypeRow
  types = type_rows t

  abbrev payload : List ℕ
  payload = bytes_of t.width m

  abbrev start : List Row
  start = replicate (length types) absent_row

  by_ends : Ends t.width types (fits_differ t walks.table_fits_lem) payload 1 0 0 m start → TreeRead t payload m (reading_of payload t room)
  unfolding walked_of
  by_ends (none_lacks q rows w fill) =
      let e : walked_of t.width types payload ≡ walked rows (unknowns types 1 0 m) =
      w (suc (length payload)) 0 (omega arith) ∙ ap (walked rows) (add-zero (unknowns types 1 0 m)) in
      rw (walked_reading payload t room walks rows (unknowns types 1 0 m) e)
      (all_there rows (λ above h. true_false (sym (lacks_fits t.width types (fits_differ t walks.table_fits_lem) fits above h) ∙ q))
      (fill.kept.size ∙ length-replicate (length types) absent_row) fill.by_path)
  by_ends (some_lacks q r) =
      let l = fits_lacks t.width types (fits_differ t walks.table_fits_lem) fits q in
      rw (refused_reading payload t room walks r.place_is (r.walk_is (suc (length payload)) 0 (omega arith))) (one_missing l.lacks_at_lem)

  tree_read : TreeRead t payload m (reading_of payload t room)
  tree_read =
      by_ends (fits_ends t.width types (fits_differ t walks.table_fits_lem) payload 1 0 0 m start fits (met_first types 1 0) (lies_whole payload))

pub read_by_paths : ReadByPaths
read_by_paths t room p m e walks fits = rw e (tree_read t room m (rw e at walks) fits)
