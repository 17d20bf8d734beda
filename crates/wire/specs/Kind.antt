-- The fourteen kinds (document 01, Type table).
use Rattle.std.specs.Prelude.{ℕ, Bool, List, [], ◌∷◌, get_or, leb, ltb, eqb}
use Rattle.wire.specs.Choose.{pick}
use Rattle.wire.specs.declared.kind.Kind.{Kind}

abbrev kind : ℕ → ℕ → Kind
kind s w = record { size = s; wire = w }

-- Bytes and wire type of each, from kind 0, which no row has. A string, an array and a struct have a length field: wire types 4 to 7.
abbrev pub kinds : List Kind
kinds =
    kind 0 8
    ∷ kind 1 0 ∷ kind 1 0 ∷ kind 2 1 ∷ kind 4 2 ∷ kind 8 3  -- boolean, uint8, uint16, uint32, uint64
    ∷ kind 1 0 ∷ kind 2 1 ∷ kind 4 2 ∷ kind 8 3  -- sint8, sint16, sint32, sint64
    ∷ kind 4 2 ∷ kind 8 3  -- float32, float64
    ∷ kind 0 4 ∷ kind 0 4 ∷ kind 0 4  -- string, array, struct
    ∷ []

abbrev pub kind_at : ℕ → Kind
kind_at k = get_or kinds k (kind 0 8)

abbrev pub size_of : ℕ → ℕ
size_of k = (kind_at k).size

-- a number's wire type is its kind's; what has a length field comes with any of 4 to 7
abbrev pub wire_fits : ℕ → ℕ → Bool
wire_fits k wire = pick (ltb (kind_at k).wire 4) (eqb wire (kind_at k).wire) (leb 4 wire)

abbrev pub string : ℕ
string = 12

abbrev pub array : ℕ
array = 13

abbrev pub struct : ℕ
struct = 14
