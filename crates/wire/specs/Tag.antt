-- Tags and length fields (document 01, Members; source 001, 5.1.3.3).
use Rattle.std.specs.Prelude.{ℕ, ◌+◌, ◌*◌, ◌/◌, ◌%◌, List, eqb}
use Rattle.wire.specs.Choose.{pick}
use Rattle.wire.specs.Number.{big, number_bytes}

-- A tag is two bytes, big-endian: bit 15 reserved, bits 14 to 12 wire type, bits 11 to 0 Data ID.
abbrev pub reserved_of : ℕ → ℕ
reserved_of tag = tag / 32768

abbrev pub wire_of : ℕ → ℕ
wire_of tag = tag / 4096 % 8

abbrev pub ident_of : ℕ → ℕ
ident_of tag = tag % 4096

abbrev pub tag_of : ℕ → ℕ → ℕ → ℕ
tag_of reserved wire ident = reserved * 32768 + wire * 4096 + ident

-- The writer sets bit 15 to 0.
unfoldable pub tag_bytes : ℕ → ℕ → List ℕ
tag_bytes wire ident = number_bytes big 2 (tag_of 0 wire ident)

-- Wire types 0 to 3: 1, 2, 4, 8 bytes follow.
abbrev pub fixed_size : ℕ → ℕ
fixed_size wire = pick (eqb wire 0) 1 (pick (eqb wire 1) 2 (pick (eqb wire 2) 4 8))

-- Wire type 4: a length field of the table's width. Wire types 5, 6, 7: one of 1, 2, 4 bytes, whatever the table's width.
abbrev pub field_width : ℕ → ℕ → ℕ
field_width width wire = pick (eqb wire 4) width (pick (eqb wire 5) 1 (pick (eqb wire 6) 2 4))
