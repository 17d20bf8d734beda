-- What stands where in the input of 4,096 bytes (bench/workloads.py). Numbers are big-endian.
use Rattle.std.specs.Prelude.{ℕ, zero, suc, ◌+◌, ◌*◌, List, get_or, set, replicate, ltb, eqb}
use Rattle.wire.specs.Choose.{pick}
use Rattle.payload.specs.declared.table.TypeRow.{TypeRow}
use Rattle.payload.specs.declared.table.Table.{Table}
use Rattle.message.specs.declared.header.Header.{Header}
use Rattle.message.specs.declared.read.Expected.{Expected}

-- the number of the two bytes at a place
abbrev pub pair_at : ℕ → List ℕ → ℕ
pair_at at b = get_or b at 0 * 256 + get_or b (at + 1) 0

-- the number of type rows, and of lent rows: 64 at most
abbrev pub count_in : List ℕ → ℕ
count_in b = pick (ltb (get_or b 1 0) 64) (get_or b 1 0) 64

-- a type row: level, Data ID, kind, element kind, and 1 for required
abbrev pub type_row_at : ℕ → List ℕ → TypeRow
type_row_at at b =
    record {
      level = get_or b at 0;
      ident = pair_at (at + 1) b;
      kind = get_or b (at + 3) 0;
      elem = get_or b (at + 4) 0;
      required = eqb (get_or b (at + 5) 0) 1;
    }

-- the first n type rows, from the 24th byte on, six bytes each
unfoldable pub type_rows_in : ℕ → List ℕ → List TypeRow
type_rows_in zero b = replicate 64 (type_row_at 24 b)
type_rows_in (suc n) b = set (type_rows_in n b) n (type_row_at (24 + 6 * n) b)

abbrev pub table_in : List ℕ → Table
table_in b = record { rows = type_rows_in 64 b; count = count_in b; width = get_or b 2 0; fixed = eqb (get_or b 3 0) 1 }

-- what is expected of the message to read
abbrev pub expected_in : List ℕ → Expected
expected_in b =
    record {
      service = record { 0 = pair_at 4 b };
      method = record { 0 = pair_at 6 b };
      interface = get_or b 12 0;
      kind = record { 0 = get_or b 13 0 };
    }

-- the header of the message to write
abbrev pub header_in : List ℕ → Header
header_in b =
    record {
      service = record { 0 = pair_at 4 b };
      method = record { 0 = pair_at 6 b };
      client = record { 0 = pair_at 8 b };
      session = record { 0 = pair_at 10 b };
      interface = get_or b 12 0;
      kind = record { 0 = get_or b 13 0 };
      code = get_or b 14 0;
    }
