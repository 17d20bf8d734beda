-- The header's layout (document 01, Header): 16 bytes, big-endian.
--
--      0       1       2       3       4       5       6       7
--    | Service ID    | Method ID     | Length                        |
--      8       9       10      11      12      13      14      15
--    | Client ID     | Session ID    | Version | Interf. | Type | Code |
--
-- Version is the Protocol Version, Interf. the Interface Version, Type the Message Type, Code the Return Code.
use Rattle.std.specs.Prelude.{ℕ, ◌+◌, List}
use Rattle.std.proofs.Math.Seq.{slice}
use Rattle.wire.specs.Number.{big, number_of}

abbrev pub service_at : ℕ
service_at = 0

abbrev pub method_at : ℕ
method_at = 2

abbrev pub length_at : ℕ
length_at = 4

abbrev pub client_at : ℕ
client_at = 8

abbrev pub session_at : ℕ
session_at = 10

abbrev pub version_at : ℕ
version_at = 12

abbrev pub interface_at : ℕ
interface_at = 13

abbrev pub type_at : ℕ
type_at = 14

abbrev pub code_at : ℕ
code_at = 15

abbrev pub header_len : ℕ
header_len = 16

-- Protocol Version is 1.
abbrev pub protocol_version : ℕ
protocol_version = 1

-- the number of the w bytes at a place
unfoldable pub field_at : ℕ → ℕ → List ℕ → ℕ
field_at at w d = number_of big (slice at (at + w) d)

abbrev pub service_of : List ℕ → ℕ
service_of d = field_at service_at 2 d

abbrev pub method_of : List ℕ → ℕ
method_of d = field_at method_at 2 d

abbrev pub length_of : List ℕ → ℕ
length_of d = field_at length_at 4 d

abbrev pub client_of : List ℕ → ℕ
client_of d = field_at client_at 2 d

abbrev pub session_of : List ℕ → ℕ
session_of d = field_at session_at 2 d

abbrev pub version_of : List ℕ → ℕ
version_of d = field_at version_at 1 d

abbrev pub interface_of : List ℕ → ℕ
interface_of d = field_at interface_at 1 d

abbrev pub type_of : List ℕ → ℕ
type_of d = field_at type_at 1 d

abbrev pub code_of : List ℕ → ℕ
code_of d = field_at code_at 1 d

-- Length counts from the Client ID to the end: the message ends at 8 + Length, which is a whole number and no 32-bit sum.
abbrev pub end_of : List ℕ → ℕ
end_of d = 8 + length_of d
