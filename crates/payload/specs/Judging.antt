-- What the writer asks of each value row: verdicts 31 and 30 (document 01, Value rows and Verdicts).
use Rattle.std.specs.Prelude.{ℕ, suc, ◌+◌, ◌-◌, ◌%◌, ◌^◌, Bool, true, false, not, List, [], ◌∷◌, length, ℤ, pos, negsuc, leb, ltb, eqb, Result, Ok, Err}
use Rattle.wire.specs.Choose.{pick, and}
use Rattle.wire.specs.Number.{half}
use Rattle.wire.specs.Kind.{size_of, string, array, struct}
use Rattle.wire.specs.Text.{text_fits}
use Rattle.wire.specs.Part.{run_of}
use Rattle.wire.specs.declared.verdict.Verdict.{Verdict}
use Rattle.wire.specs.declared.verdict.Verdict.TheVariants.{Value as NoValue, Outside as Past}
use Rattle.payload.specs.declared.table.TypeRow.{TypeRow}
use Rattle.payload.specs.declared.row.Row.{Row}
use Rattle.payload.specs.declared.row.Value.{Value}
use Rattle.payload.specs.declared.row.Value.TheVariants.{Absent, Unsigned, Signed, Float32, Float64, Bytes, Members}
use Rattle.payload.specs.Table.{in_range}
use Rattle.payload.specs.Row.{is_absent}

-- ---- 31

-- Run of bytes past the content buffer, which has `room` bytes, whatever the row's kind or parent. Over whole numbers: an empty run beyond
-- the buffer is outside.
abbrev pub outside : ℕ → Value → Bool
outside room Absent = false
outside room (Unsigned n) = false
outside room (Signed z) = false
outside room (Float32 x) = false
outside room (Float64 x) = false
outside room (Bytes place len) = ltb room (place + len)
outside room Members = false

-- ---- 30: a value is of its row's kind and range

-- Booleans and unsigned kinds are unsigned values 0 to the kind's largest, booleans 0 or 1.
unfoldable pub unsigned_fits : ℕ → ℕ → Bool
unsigned_fits k n = pick (eqb k 1) (ltb n 2) (and (in_range 2 5 k) (ltb n (256 ^ size_of k)))

-- a signed number is in the range of w bytes
abbrev pub signed_in : ℕ → ℤ → Bool
signed_in w (pos n) = ltb n (half w)
signed_in w (negsuc n) = ltb n (half w)

unfoldable pub signed_fits : ℕ → ℤ → Bool
signed_fits k z = and (in_range 6 9 k) (signed_in (size_of k) z)

-- A float row's bits decide, below 2^32 for a float32.
unfoldable pub float_fits : ℕ → ℕ → ℕ → Bool
float_fits own k bits = and (eqb k own) (ltb bits (256 ^ size_of k))

-- A string's text is well formed, an array's length a multiple of its element size.
unfoldable pub run_fits : List ℕ → TypeRow → ℕ → ℕ → Bool
run_fits buf r place len =
    pick (eqb r.kind string) (text_fits (run_of buf place len))
    (and (eqb r.kind array) (eqb (len % size_of r.elem) 0))

abbrev pub value_fits : List ℕ → TypeRow → Value → ℕ → Bool
value_fits buf r Absent bits = true
value_fits buf r (Unsigned n) bits = unsigned_fits r.kind n
value_fits buf r (Signed z) bits = signed_fits r.kind z
value_fits buf r (Float32 x) bits = float_fits 10 r.kind bits
value_fits buf r (Float64 x) bits = float_fits 11 r.kind bits
value_fits buf r (Bytes place len) bits = run_fits buf r place len
value_fits buf r Members bits = eqb r.kind struct

-- ---- 30: where rows may be absent

-- The levels up to `upto` are present, and so is a row's if it is at most `upto`. There a required row that is absent does not fit; elsewhere
-- a row that is present does not, since it stands under an absent struct.
unfoldable pub row_fine : List ℕ → ℕ → TypeRow → Row → Bool
row_fine buf upto r v =
    pick (is_absent v) (not (and r.required (leb r.level upto)))
    (and (leb r.level upto) (value_fits buf r v.value v.bits))

abbrev pub is_members : Value → Bool
is_members Absent = false
is_members (Unsigned n) = false
is_members (Signed z) = false
is_members (Float32 x) = false
is_members (Float64 x) = false
is_members (Bytes place len) = false
is_members Members = true

-- The levels that are present at the next row: one more below a present struct; up to the row's own after any other; and after a row under
-- an absent struct, those of before.
unfoldable pub up_after : ℕ → TypeRow → Row → ℕ
up_after upto r v = pick (ltb upto r.level) upto (pick (is_members v.value) (suc r.level) r.level)

-- n, of the two's complement in eight bytes of n or of -1 - n
abbrev pub flip_of : ℕ → ℕ
flip_of num = pick (ltb num 9223372036854775808) num (18446744073709551615 - num)

-- ---- row by row, 31 before 30: the first row that is not fine decides

-- All are fine, a run lies outside the content buffer, or a value does not fit.
pub data Judged : Type 0 where
  Fine : Judged
  Outside : Judged
  Unfit : Judged

unfoldable pub judged_from : List ℕ → ℕ → List TypeRow → List Row → Judged
judged_from buf upto [] vs = Fine
judged_from buf upto (r ∷ rs) [] = Fine
judged_from buf upto (r ∷ rs) (v ∷ vs) =
    pick (outside (length buf) v.value) Outside
    (pick (row_fine buf upto r v) (judged_from buf (up_after upto r v) rs vs)
    Unfit)

-- Level 1 is present.
unfoldable pub judged_of : List ℕ → List TypeRow → List Row → Judged
judged_of buf types rows = judged_from buf 1 types rows

abbrev pub is_fine : Judged → Bool
is_fine Fine = true
is_fine Outside = false
is_fine Unfit = false

-- what the judging answers
abbrev pub judging_is : Judged → Result (Unit {0}) Verdict
judging_is Fine = Ok tt
judging_is Outside = Err Past
judging_is Unfit = Err NoValue
