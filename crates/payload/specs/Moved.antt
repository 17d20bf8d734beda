-- The same level at a place further on: what it shows and refuses moves with it.
use Rattle.std.specs.Prelude.{◌≡◌, ℕ, ◌+◌, List, length, get_or}
use Rattle.wire.specs.declared.verdict.Verdict.{Verdict}
use Rattle.payload.specs.declared.row.Row.{Row}
use Rattle.payload.specs.declared.row.Value.{Value}
use Rattle.payload.specs.declared.row.Value.TheVariants.{Absent, Unsigned, Signed, Float32, Float64, Bytes, Members}
use Rattle.payload.specs.Row.{absent_row, is_absent}
use Rattle.payload.specs.Reading.{Walked, refused, walked}

-- a run of bytes q further on
abbrev move_value : ℕ → Value → Value
move_value q Absent = Absent
move_value q (Unsigned n) = Unsigned n
move_value q (Signed z) = Signed z
move_value q (Float32 x) = Float32 x
move_value q (Float64 x) = Float64 x
move_value q (Bytes place len) = Bytes (q + place) len
move_value q Members = Members

unfoldable pub move_row : ℕ → Row → Row
move_row q r = record { value = move_value q r.value; bits = r.bits }

-- rows of which the same are absent
pub record AbsentAlike (rows moved : List Row) : Type 0 where
  pub size : length moved ≡ length rows
  pub absent : (j : ℕ) → is_absent (get_or moved j absent_row) ≡ is_absent (get_or rows j absent_row)

-- A row before and after two walks, the second of which is q further on: both leave it, or the second shows what the first shows, q further on.
pub data Shifted (q : ℕ) (a a2 b b2 : Row) : Type 0 where
  both_kept : a2 ≡ a → b2 ≡ b → Shifted q a a2 b b2
  both_set : b2 ≡ move_row q a2 → Shifted q a a2 b b2

-- Two walks, the second of which is q further on: both refuse, the second q further on; or both give rows that are so, and the same count.
pub data Alike (q : ℕ) (rows moved : List Row) : Walked → Walked → Type 0 where
  alike_refused : {v : Verdict} {p : ℕ} → Alike q rows moved (refused v p) (refused v (q + p))
  alike_walked : {rows2 moved2 : List Row} {n : ℕ} → length rows2 ≡ length rows → length moved2 ≡ length moved
      → ((j : ℕ) → Shifted q (get_or rows j absent_row) (get_or rows2 j absent_row) (get_or moved j absent_row) (get_or moved2 j absent_row))
      → Alike q rows moved (walked rows2 n) (walked moved2 n)
