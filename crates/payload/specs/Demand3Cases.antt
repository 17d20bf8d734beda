-- Demand 3 isn't empty: two different tables, members that both have, one that only the writer has, one that only the reader requires, and a
-- message whose members are put in another order, inside the struct too. One reading is accepted, one refused as Missing.
use Rattle.std.specs.Prelude.{◌≡◌, ℕ, Bool, true, false, List, [], ◌∷◌, ◌++◌, replicate, negsuc}
use Rattle.wire.specs.declared.verdict.Verdict.TheVariants.{Missing}
use Rattle.payload.specs.declared.table.TypeRow.{TypeRow}
use Rattle.payload.specs.declared.table.Table.{Table}
use Rattle.payload.specs.declared.row.Row.{Row}
use Rattle.payload.specs.declared.row.Value.TheVariants.{Unsigned, Signed}
use Rattle.payload.specs.Table.{no_row}
use Rattle.payload.specs.Row.{plain, absent_row, members_row}
use Rattle.payload.specs.Reading.{full, cleared, reading_of}
use Rattle.payload.specs.Tree.{Members, stop, mem, bytes_of}
use Rattle.payload.specs.Outcome.{accepted}
use Rattle.payload.specs.Demand3.{Sent}

abbrev row : ℕ → ℕ → ℕ → Bool → TypeRow
row level ident kind required = record { level = level; ident = ident; kind = kind; elem = 0; required = required }

-- The writer's table, width told in the tag.
unfoldable pub writer_table : Table
writer_table = record { rows = rows ++ replicate 58 no_row; count = 6; width = 1; fixed = false }
  where
    rows : List TypeRow
    rows =
        row 1 1 4 false  -- 1/1/uint32 optional (time)
        ∷ row 1 2 7 true  -- 1/2/sint16 required
        ∷ row 1 5 14 false  -- 1/5/struct optional
        ∷ row 2 1 3 true  -- 2/1/uint16 required
        ∷ row 2 3 2 false  -- 2/3/uint8 optional
        ∷ row 1 9 2 false  -- 1/9/uint8 optional, which the reader's table has not
        ∷ []

-- The reader's table, in another order, with the static wire type and other required marks. The string, which the writer's table has not, is
-- required or optional.
unfoldable pub reader_table : Bool → Table
reader_table required = record { rows = rows ++ replicate 58 no_row; count = 6; width = 1; fixed = true }
  where
    rows : List TypeRow
    rows =
        row 1 5 14 true  -- 1/5/struct required
        ∷ row 2 3 2 false  -- 2/3/uint8 optional
        ∷ row 2 1 3 false  -- 2/1/uint16 optional
        ∷ row 1 7 12 required  -- 1/7/string
        ∷ row 1 2 7 true  -- 1/2/sint16 required
        ∷ row 1 1 4 false  -- 1/1/uint32 optional (time)
        ∷ []

-- −125
abbrev minus125 : Row
minus125 = plain (Signed (negsuc 124))

-- The time is left out.
unfoldable pub written_rows : List Row
written_rows = full (absent_row ∷ minus125 ∷ members_row ∷ plain (Unsigned 2900) ∷ plain (Unsigned 7) ∷ plain (Unsigned 42) ∷ [])

-- The writer's members, the last of them first, and inside the struct the second first.
unfoldable pub other_order : Members
other_order =
    mem 0x0009 false (42 ∷ []) stop
    (mem 0x5005 true [] (mem 0x0003 false (7 ∷ []) stop (mem 0x1001 false (0x0B ∷ 0x54 ∷ []) stop stop))
    (mem 0x1002 false (0xFF ∷ 0x83 ∷ []) stop stop))

unfoldable pub other_bytes : List ℕ
other_bytes =
    0x00 ∷ 0x09 ∷ 42  -- 1/9, unknown to the reader
    ∷ 0x50 ∷ 0x05 ∷ 7  -- 1/5
    ∷ 0x00 ∷ 0x03 ∷ 7  -- 2/3
    ∷ 0x10 ∷ 0x01 ∷ 0x0B ∷ 0x54  -- 2/1
    ∷ 0x10 ∷ 0x02 ∷ 0xFF ∷ 0x83  -- 1/2
    ∷ []

-- what the reader shows; time and string are absent
abbrev read_rows : List Row
read_rows = members_row ∷ plain (Unsigned 7) ∷ plain (Unsigned 2900) ∷ absent_row ∷ minus125 ∷ absent_row ∷ []

pub record Demand3Shown : Type 0 where
  pub sent : (required : Bool) → Sent writer_table (reader_table required) written_rows [] other_order
  pub bytes_are : bytes_of 1 other_order ≡ other_bytes
  pub reads : reading_of other_bytes (reader_table false) 6 ≡ accepted 6 read_rows 1
  pub lacks : reading_of other_bytes (reader_table true) 6 ≡ cleared 6 Missing 17
