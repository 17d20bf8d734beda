-- Sizes: of a value's content, of a row's own member, and what the writer's passes need to know of a table's width.
use Rattle.std.specs.Prelude.{ℕ, ◌+◌, ◌^◌, ◌≤◌, ◌<◌, ◌≡◌, Bool, List, length, ltb, eqb, Result, Ok, Err}
use Rattle.wire.specs.Choose.{pick}
use Rattle.wire.specs.Tag.{field_width}
use Rattle.wire.specs.Kind.{size_of, string}
use Rattle.wire.specs.declared.verdict.Verdict.{Verdict}
use Rattle.wire.specs.declared.verdict.Verdict.TheVariants.{Room, Wide, Heavy}
use Rattle.payload.specs.declared.row.Value.{Value}
use Rattle.payload.specs.declared.row.Value.TheVariants.{Absent, Unsigned, Signed, Float32, Float64, Bytes, Members}
use Rattle.payload.specs.Reading.{payload_most}
use Rattle.payload.specs.Writing.{Outcome, refused, done}

-- how many numbers a length field holds
abbrev pub field_top : ℕ → ℕ
field_top width = pick (eqb width 1) 256 (pick (eqb width 2) 65536 4294967296)

-- the bytes of a value's content in a row of kind k, where a struct holds n bytes
abbrev pub content_len : ℕ → Value → ℕ → ℕ
content_len k Absent n = 0
content_len k (Unsigned x) n = size_of k
content_len k (Signed z) n = size_of k
content_len k (Float32 x) n = size_of k
content_len k (Float64 x) n = size_of k
content_len k (Bytes place len) n = pick (eqb k string) (len + 4) len
content_len k Members n = n

-- the bytes before a value's content: a tag, and a length field but for a number
abbrev pub head_len : ℕ → Value → ℕ
head_len width Absent = 0
head_len width (Unsigned x) = 2
head_len width (Signed z) = 2
head_len width (Float32 x) = 2
head_len width (Float64 x) = 2
head_len width (Bytes place len) = width + 2
head_len width Members = width + 2

-- a run is no longer than a slice can be
abbrev pub ShortRun : Value → Type 0
ShortRun Absent = Unit {0}
ShortRun (Unsigned n) = Unit {0}
ShortRun (Signed z) = Unit {0}
ShortRun (Float32 x) = Unit {0}
ShortRun (Float64 x) = Unit {0}
ShortRun (Bytes place len) = len < 9223372036854775808
ShortRun Members = Unit {0}

-- the bytes of a row's own member, without what a struct holds
abbrev pub own_len : ℕ → ℕ → Value → ℕ
own_len width k v = head_len width v + content_len k v 0

-- the wire type of what has a length field, whose width it tells
pub record Wires (width ws : ℕ) : Type 0 where
  pub least : 4 ≤ ws
  pub most : ws < 8
  pub field : field_width width ws ≡ width
  pub few : width ≤ 4
  pub top : 256 ^ width ≡ field_top width

-- what measuring answers
abbrev pub measured_is : Bool → ℕ → Result ℕ Verdict
measured_is wide total = pick wide (Err Wide) (Ok total)

-- the outcome of bytes that are not too wide: 33, then 2 for the output
unfoldable pub fitted_of : List ℕ → ℕ → Outcome
fitted_of bytes space =
    pick (ltb payload_most (length bytes)) (refused Heavy)
    (pick (ltb space (length bytes)) (refused Room)
    (done bytes))
