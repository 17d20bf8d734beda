-- Table W and its cases a to n (document 01, Table W and its examples): whole answers, under one statement.
use Rattle.std.specs.Prelude.{◌≡◌, ℕ, Bool, true, false, List, [], ◌∷◌, ◌++◌, map, replicate, negsuc}
use Rattle.wire.specs.declared.verdict.Verdict.{Verdict}
use Rattle.wire.specs.declared.verdict.Verdict.TheVariants.{Accepted, TagCut, Wire, Twice, FieldCut, Overrun, Text, Missing}
use Rattle.payload.specs.declared.table.TypeRow.{TypeRow}
use Rattle.payload.specs.declared.table.Table.{Table}
use Rattle.payload.specs.declared.row.Row.{Row}
use Rattle.payload.specs.declared.row.Value.TheVariants.{Unsigned, Signed, Bytes, Members}
use Rattle.payload.specs.declared.read.Reading.{Reading}
use Rattle.payload.specs.Table.{no_row}
use Rattle.payload.specs.Row.{plain, absent_row}
use Rattle.payload.specs.Reading.{full, cleared, reading_of}

abbrev row : ℕ → ℕ → ℕ → Bool → TypeRow
row level ident kind required = record { level = level; ident = ident; kind = kind; elem = 0; required = required }

-- width 1 told in the tag
unfoldable pub table_w : Table
table_w = record { rows = rows_w ++ replicate 59 no_row; count = 5; width = 1; fixed = false }
  where
    rows_w : List TypeRow
    rows_w =
        row 1 1 4 false  -- 1/1/uint32 optional (time)
        ∷ row 1 2 7 true  -- 1/2/sint16 required
        ∷ row 1 5 14 false  -- 1/5/struct optional
        ∷ row 2 1 3 true  -- 2/1/uint16 required
        ∷ row 1 7 12 false  -- 1/7/string optional
        ∷ []

pub record Case : Type 0 where
  pub bytes : List ℕ
  pub answer : Reading

abbrev accepts : List ℕ → List Row → ℕ → Case
accepts p rows skipped = record { bytes = p; answer = record { verdict = Accepted; place = 0; skipped = skipped; filled = 5; rows = full rows } }

abbrev refuses : List ℕ → Verdict → ℕ → Case
refuses p v place = record { bytes = p; answer = cleared 5 v place }

-- −125
abbrev minus125 : Row
minus125 = plain (Signed (negsuc 124))

abbrev pub values_a : List Row
values_a = absent_row ∷ minus125 ∷ plain Members ∷ plain (Unsigned 2900) ∷ absent_row ∷ []

abbrev pub values_c : List Row
values_c = absent_row ∷ minus125 ∷ absent_row ∷ absent_row ∷ absent_row ∷ []

unfoldable pub cases : List Case
cases =
    accepts (0x10 ∷ 0x02 ∷ 0xFF ∷ 0x83 ∷ 0x50 ∷ 0x05 ∷ 0x04 ∷ 0x10 ∷ 0x01 ∷ 0x0B ∷ 0x54 ∷ 0x00 ∷ 0x09 ∷ 0x2A ∷ []) values_a 1  -- a
    ∷ refuses [] Missing 0  -- b
    ∷ accepts (0x10 ∷ 0x02 ∷ 0xFF ∷ 0x83 ∷ []) values_c 0  -- c
    ∷ refuses (0x10 ∷ 0x02 ∷ 0xFF ∷ 0x83 ∷ 0x10 ∷ 0x02 ∷ 0xFF ∷ 0x83 ∷ []) Twice 4  -- d
    ∷ refuses (0x20 ∷ 0x02 ∷ 0x00 ∷ 0x00 ∷ 0x00 ∷ 0x01 ∷ []) Wire 0  -- e
    ∷ refuses (0x10 ∷ 0x02 ∷ 0xFF ∷ []) Overrun 2  -- f
    ∷ refuses (0x10 ∷ 0x02 ∷ 0xFF ∷ 0x83 ∷ 0x50 ∷ []) TagCut 4  -- g
    ∷ refuses (0x10 ∷ 0x02 ∷ 0xFF ∷ 0x83 ∷ 0x50 ∷ 0x05 ∷ 0x00 ∷ []) Missing 7  -- h
    ∷ refuses (0x10 ∷ 0x02 ∷ 0xFF ∷ 0x83 ∷ 0x50 ∷ 0x05 ∷ 0x05 ∷ 0x10 ∷ 0x01 ∷ 0x0B ∷ 0x54 ∷ []) Overrun 7  -- i
    ∷ accepts (0x50 ∷ 0x05 ∷ 0x04 ∷ 0x10 ∷ 0x01 ∷ 0x0B ∷ 0x54 ∷ 0x00 ∷ 0x09 ∷ 0x2A ∷ 0x10 ∷ 0x02 ∷ 0xFF ∷ 0x83 ∷ []) values_a 1  -- j
    ∷ refuses (0x10 ∷ 0x02 ∷ 0xFF ∷ 0x83 ∷ 0x70 ∷ 0x09 ∷ 0x00 ∷ 0x00 ∷ []) FieldCut 6  -- k
    ∷ accepts (0x10 ∷ 0x02 ∷ 0xFF ∷ 0x83 ∷ 0x60 ∷ 0x05 ∷ 0x00 ∷ 0x04 ∷ 0x10 ∷ 0x01 ∷ 0x0B ∷ 0x54 ∷ []) values_a 0  -- l
    ∷ accepts (0x10 ∷ 0x02 ∷ 0xFF ∷ 0x83 ∷ 0x50 ∷ 0x07 ∷ 0x04 ∷ 0xEF ∷ 0xBB ∷ 0xBF ∷ 0x00 ∷ [])  -- m
    (absent_row ∷ minus125 ∷ absent_row ∷ absent_row ∷ plain (Bytes 10 0) ∷ []) 0
    ∷ refuses (0x10 ∷ 0x02 ∷ 0xFF ∷ 0x83 ∷ 0x50 ∷ 0x07 ∷ 0x03 ∷ 0xEF ∷ 0xBB ∷ 0xBF ∷ []) Text 7  -- n
    ∷ []

-- each payload, read under table W with five lent rows, gives its answer
abbrev pub CasesHold : Type 0
CasesHold = map (λ (c : Case). reading_of c.bytes table_w 5) cases ≡ map (λ (c : Case). c.answer) cases
