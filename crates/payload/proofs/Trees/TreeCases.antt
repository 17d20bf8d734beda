-- Case a's payload has a tree that table W reads, by computing; and so it is accepted, by the tree law.
-- Assumes nothing.
use mathlib.Core.Path.{◌≡◌, refl}
use Prim.Native.Nat.{ℕ, ◌<◌}
use native.Mathlib.Omega.{arith}
use mathlib.Core.Bool.{true, false}
use mathlib.Core.List.{List, [], ◌∷◌}
use lib.IntN.{negsuc}
use Rattle.wire.specs.Number.{AreBytes, number_of, number_bytes, signed_of}
use Rattle.payload.specs.declared.row.Row.{Row}
use Rattle.payload.specs.declared.row.Value.TheVariants.{Unsigned, Signed}
use Rattle.payload.specs.Table.{type_rows, later, find, idents_differ}
use Rattle.payload.specs.Row.{plain, absent_row, members_row, number_row, shown_of}
use Rattle.payload.specs.Reading.{content_fits, walked, walked_of}
use Rattle.payload.specs.Tree.{Members, stop, mem, field_bytes, member_bytes, bytes_of}
use Rattle.payload.specs.Formed.{for_row, field_size, unknowns, filled, has, misses, length_fits, each_stop, each_unknown, each_leaf, each_struct, TreeOf}
use Rattle.payload.specs.Cases.{table_w}
use Rattle.wire.proofs.NumberLaws.{bytes_nil, bytes_cons}
use Rattle.payload.proofs.Trees.TreeLaws.{tree_law}

abbrev payload_a : List ℕ
payload_a = 0x10 ∷ 0x02 ∷ 0xFF ∷ 0x83 ∷ 0x50 ∷ 0x05 ∷ 0x04 ∷ 0x10 ∷ 0x01 ∷ 0x0B ∷ 0x54 ∷ 0x00 ∷ 0x09 ∷ 0x2A ∷ []

abbrev rows_a : List Row
rows_a = absent_row ∷ plain (Signed (negsuc 124)) ∷ members_row ∷ plain (Unsigned 2900) ∷ absent_row ∷ []

abbrev tree_a : Members
tree_a =
    mem 0x1002 false (0xFF ∷ 0x83 ∷ []) stop
    (mem 0x5005 true [] (mem 0x1001 false (0x0B ∷ 0x54 ∷ []) stop stop)
    (mem 0x0009 false (0x2A ∷ []) stop
    stop))

two : (x y : ℕ) → x < 256 → y < 256 → AreBytes (x ∷ y ∷ [])
two x y hx hy = bytes_cons x (y ∷ []) hx (bytes_cons y [] hy bytes_nil)

pub tree_a_lem : TreeOf 1 (type_rows table_w) payload_a rows_a 1
unfolding number_of number_bytes signed_of later find number_row shown_of content_fits field_bytes member_bytes bytes_of for_row field_size unknowns filled has misses length_fits table_w
tree_a_lem = record {
  tree = tree_a;
  formed = record {
    each =
        each_leaf {tag = 0x1002} {k = 1} {c = 0xFF ∷ 0x83 ∷ []} (record { tag_fits = omega arith; length_fits_lem = refl }) (two 0xFF 0x83 (omega arith) (omega arith)) (record { found = refl; wire_fits_lem = refl; once = refl }) refl refl
        (each_struct {tag = 0x5005} {k = 2} (record { tag_fits = omega arith; length_fits_lem = refl }) (record { found = refl; wire_fits_lem = refl; once = refl }) refl
        (each_leaf {tag = 0x1001} {k = 0} {c = 0x0B ∷ 0x54 ∷ []} (record { tag_fits = omega arith; length_fits_lem = refl }) (two 0x0B 0x54 (omega arith) (omega arith))
        (record { found = refl; wire_fits_lem = refl; once = refl }) refl refl each_stop)
        refl
        (each_unknown {tag = 0x0009} {c = 0x2A ∷ []} (record { tag_fits = omega arith; length_fits_lem = refl }) (bytes_cons 0x2A [] (omega arith) bytes_nil) refl
        each_stop));
    whole = refl;
  };
  bytes_are = refl;
  rows_are = refl;
  count_is = refl;
}

-- and so it is accepted
pub read_a : walked_of 1 (type_rows table_w) payload_a ≡ walked rows_a 1
unfolding later find idents_differ table_w
read_a = (tree_law 1 (type_rows table_w) payload_a rows_a 1 refl).tree_read tree_a_lem
