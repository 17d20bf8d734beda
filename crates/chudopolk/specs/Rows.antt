-- Value rows as numbers (document 01, Value rows). Four numbers to a row: what the value is, its number, and the place and the length of a
-- run of bytes. A number that a row's value doesn't use is 0.
use Rattle.std.specs.Prelude.{ℕ, zero, suc, ◌+◌, ◌*◌, ◌/◌, ◌%◌, List, [], ◌∷◌, ◌++◌, length, get_or, set, replicate, ltb, eqb}
use Rattle.std.specs.Float.{binary32, binary64}
use Rattle.std.specs.Float.Ieee.{of_bits}
use Rattle.wire.specs.Choose.{pick}
use Rattle.wire.specs.Number.{twos_of, signed_of}
use Rattle.payload.specs.Row.{plain, absent_row, members_row}
use Rattle.payload.specs.declared.row.Row.{Row}
use Rattle.payload.specs.declared.row.Value.{Value}
use Rattle.payload.specs.declared.row.Value.TheVariants.{Absent, Unsigned, Signed, Float32, Float64, Bytes, Members}
use Rattle.chudopolk.specs.declared.rows.Numbers.{Numbers}

-- ---- of a reading

abbrev pub numbered : ℕ → ℕ → Numbers
numbered what number = record { what = what; number = number; place = 0; len = 0 }

-- 0 absent, 1 unsigned, 2 signed in two's complement, 3 and 4 a float by its bits, 5 a run of bytes, 6 members
abbrev pub numbers_of : Value → ℕ → Numbers
numbers_of Absent bits = numbered 0 0
numbers_of (Unsigned n) bits = numbered 1 n
numbers_of (Signed z) bits = numbered 2 (twos_of 8 z)
numbers_of (Float32 x) bits = numbered 3 bits
numbers_of (Float64 x) bits = numbered 4 bits
numbers_of (Bytes place len) bits = record { what = 5; number = 0; place = place; len = len }
numbers_of Members bits = numbered 6 0

abbrev pub listed : Numbers → List ℕ
listed n = n.what ∷ n.number ∷ n.place ∷ n.len ∷ []

-- the four numbers of a row
abbrev pub four_of : Row → List ℕ
four_of r = listed (numbers_of r.value r.bits)

-- the numbers of rows, one row behind the other
unfoldable pub flat : List Row → List ℕ
flat [] = []
flat (r ∷ rows) = four_of r ++ flat rows

-- ---- for a writing

-- A float's value is that of its bits. A float32 whose bits are 2^32 or more is of no kind: it gets verdict 30.
abbrev pub float32_row : ℕ → Row
float32_row bits = record { value = Float32 (of_bits binary32 (bits % 4294967296)); bits = bits }

abbrev pub float64_row : ℕ → Row
float64_row bits = record { value = Float64 (of_bits binary64 bits); bits = bits }

-- the row of a first number that says no value: of no kind
abbrev pub odd_row : Row
odd_row = float32_row 4294967296

-- The numbers are those of a reading, and numbers that the value doesn't use are ignored.
unfoldable pub row_of : ℕ → ℕ → ℕ → ℕ → Row
row_of what number place len =
    pick (eqb what 0) absent_row
    (pick (eqb what 1) (plain (Unsigned number))
    (pick (eqb what 2) (plain (Signed (signed_of 8 number)))
    (pick (eqb what 3) (float32_row number)
    (pick (eqb what 4) (float64_row number)
    (pick (eqb what 5) (plain (Bytes place len))
    (pick (eqb what 6) members_row
    odd_row))))))

-- the row of the four numbers at 4 · i
abbrev pub row_at : List ℕ → ℕ → Row
row_at values i = row_of (get_or values (4 * i) 0) (get_or values (4 * i + 1) 0) (get_or values (4 * i + 2) 0) (get_or values (4 * i + 3) 0)

-- the first n rows, and behind them absent ones
unfoldable pub rows_up_to : ℕ → List ℕ → List Row
rows_up_to zero values = replicate 64 absent_row
rows_up_to (suc n) values = set (rows_up_to n values) n (row_at values n)

-- how many rows so many numbers lend, 64 at most
unfoldable pub lent_of : ℕ → ℕ
lent_of len = pick (ltb 64 (len / 4)) 64 (len / 4)

unfoldable pub rows_of : List ℕ → List Row
rows_of values = rows_up_to (lent_of (length values)) values
