-- A payload as a tree of members, and its bytes (document 01, Members).
use Rattle.std.specs.Prelude.{ℕ, Bool, List, [], ◌++◌, length, ltb}
use Rattle.wire.specs.Choose.{pick}
use Rattle.wire.specs.Number.{big, number_bytes}
use Rattle.wire.specs.Tag.{wire_of, field_width}

-- The members of a level: the first one's tag, whether it is a struct, a leaf's content, a struct's members; and the members after it.
-- The tag has the wire type, and so the width of the length field that the member uses.
pub data Members : Type 0 where
  stop : Members
  mem : ℕ → Bool → List ℕ → Members → Members → Members

-- Wire types 0 to 3 have no length field. Length fields count the content only.
unfoldable pub field_bytes : ℕ → ℕ → ℕ → List ℕ
field_bytes width wire n = pick (ltb wire 4) [] (number_bytes big (field_width width wire) n)

-- tag, length field, content
unfoldable pub member_bytes : ℕ → ℕ → List ℕ → List ℕ
member_bytes width tag c = number_bytes big 2 tag ++ (field_bytes width (wire_of tag) (length c) ++ c)

unfoldable pub bytes_of : ℕ → Members → List ℕ
bytes_of width stop = []
bytes_of width (mem tag s c inner after) = member_bytes width tag (pick s (bytes_of width inner) c) ++ bytes_of width after
