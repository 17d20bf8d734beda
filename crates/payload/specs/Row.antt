-- Value rows (document 01, Value rows): what a row shows of its member's content.
use Rattle.std.specs.Prelude.{ℕ, ◌+◌, ◌-◌, ◌%◌, Bool, true, false, List, length, ltb, eqb}
use Rattle.std.specs.Float.{binary32, binary64}
use Rattle.std.specs.Float.Ieee.{of_bits}
use Rattle.wire.specs.Choose.{pick}
use Rattle.wire.specs.Number.{big, number_of, signed_of}
use Rattle.wire.specs.Kind.{size_of, string, array}
use Rattle.payload.specs.declared.table.TypeRow.{TypeRow}
use Rattle.payload.specs.declared.row.Row.{Row}
use Rattle.payload.specs.declared.row.Value.{Value}
use Rattle.payload.specs.declared.row.Value.TheVariants.{Absent, Unsigned, Signed, Float32, Float64, Bytes, Members}

-- a row whose value has no bits beside it
abbrev pub plain : Value → Row
plain v = record { value = v; bits = 0 }

abbrev pub absent_row : Row
absent_row = plain Absent

abbrev pub members_row : Row
members_row = plain Members

abbrev absent_value : Value → Bool
absent_value Absent = true
absent_value (Unsigned n) = false
absent_value (Signed z) = false
absent_value (Float32 x) = false
absent_value (Float64 x) = false
absent_value (Bytes place len) = false
absent_value Members = false

unfoldable pub is_absent : Row → Bool
is_absent r = absent_value r.value

-- The row of a number of a kind 1 to 11: a boolean is its byte's lowest bit; a float row also holds the float's bits.
unfoldable pub number_row : ℕ → ℕ → Row
number_row k v =
    pick (eqb k 1) (plain (Unsigned (v % 2)))
    (pick (ltb k 6) (plain (Unsigned v))
    (pick (ltb k 10) (plain (Signed (signed_of (size_of k) v)))
    (pick (eqb k 10) (record { value = Float32 (of_bits binary32 v); bits = v })
    (record { value = Float64 (of_bits binary64 v); bits = v }))))

-- The row of a content that begins at a place. A run of a string covers the text alone.
unfoldable pub shown_of : TypeRow → ℕ → List ℕ → Row
shown_of r place c =
    pick (ltb r.kind string) (number_row r.kind (number_of big c))
    (pick (eqb r.kind string) (plain (Bytes (place + 3) (length c - 4)))
    (pick (eqb r.kind array) (plain (Bytes place (length c)))
    members_row))
