-- What a walk may show and refuse: nothing past the end of its level (document 01, Verdicts).
use Rattle.std.specs.Prelude.{◌≡◌, ℕ, ◌+◌, ◌≤◌, true, List, ◌++◌, length, get_or}
use Rattle.wire.specs.Verdict.{verdict_number}
use Rattle.wire.specs.declared.verdict.Verdict.{Verdict}
use Rattle.payload.specs.declared.table.TypeRow.{TypeRow}
use Rattle.payload.specs.declared.row.Row.{Row}
use Rattle.payload.specs.declared.row.Value.TheVariants.{Bytes}
use Rattle.payload.specs.Table.{in_range}
use Rattle.payload.specs.Row.{absent_row}
use Rattle.payload.specs.Reading.{enter, step_of, Walked, refused, walked}

-- one of the verdicts of a walk, 20 to 27
abbrev pub ByWalk : Verdict → Type 0
ByWalk v = in_range 20 27 (verdict_number v) ≡ true

-- a run of bytes that a row shows lies between two places
abbrev pub RunIn : ℕ → ℕ → Row → Type 0
RunIn from to r = (place len : ℕ) → r.value ≡ Bytes place len → (from ≤ place) × (place + len ≤ to)

-- a row is as it was, or shows nothing beyond two places
pub data Changed (from to : ℕ) (old new : Row) : Type 0 where
  kept : new ≡ old → Changed from to old new
  shown : RunIn from to new → Changed from to old new

-- A walk of the bytes between two places: a refusal is there; each row that the walk sets shows bytes there.
pub data Bounded (from to : ℕ) (rows : List Row) : Walked → Type 0 where
  refused_in : {v : Verdict} {place : ℕ} → ByWalk v → from ≤ place → place ≤ to → Bounded from to rows (refused v place)
  walked_in : {rows2 : List Row} {n : ℕ} → length rows2 ≡ length rows
      → ((j : ℕ) → Changed from to (get_or rows j absent_row) (get_or rows2 j absent_row))
      → Bounded from to rows (walked rows2 n)

-- A struct that is entered: its content is a part of the level's bytes, and with other bytes behind it the same content is entered.
pub record Entered (width : ℕ) (types : List TypeRow) (l first place : ℕ) (bytes : List ℕ) (rows : List Row) (i p : ℕ) (c : List ℕ) (next : ℕ)
    (y : List ℕ) : Type 0 where
  pub head : List ℕ
  pub bytes_are : bytes ≡ head ++ (c ++ y)
  pub content_at_lem : p ≡ place + length head
  pub next_at : next ≡ p + length c
  pub others : (y2 : List ℕ) → step_of width types l first place (head ++ (c ++ y2)) rows ≡ enter i p c next y2
