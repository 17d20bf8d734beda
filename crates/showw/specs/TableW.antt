-- What table W's messages have in their headers (document 01, Table W and its examples). The table itself is the payload crate's `table_w`.
use Rattle.std.specs.Prelude.{ℕ, Bool}
use Rattle.payload.specs.declared.table.TypeRow.{TypeRow}
use Rattle.message.specs.declared.read.Expected.{Expected}
use Rattle.message.specs.MessageType.{notification}

-- a type row that is no array's
abbrev pub row : ℕ → ℕ → ℕ → Bool → TypeRow
row level ident kind required = record { level = level; ident = ident; kind = kind; elem = 0; required = required }

abbrev pub row_count : ℕ
row_count = 5

-- Service 0x4A01, Method 0x8001, interface 1, NOTIFICATION
abbrev pub expected_w : Expected
expected_w = record { service = record { 0 = 0x4A01 }; method = record { 0 = 0x8001 }; interface = 1; kind = record { 0 = notification } }
