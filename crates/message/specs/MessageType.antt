-- The Message Types (document 01, Header), named once.
use Rattle.std.specs.Prelude.{ℕ, Bool, eqb}
use Rattle.wire.specs.Choose.{or}

abbrev pub request : ℕ
request = 0x00

abbrev pub request_no_return : ℕ
request_no_return = 0x01

abbrev pub notification : ℕ
notification = 0x02

abbrev pub response : ℕ
response = 0x80

abbrev pub error : ℕ
error = 0x81

-- a number is one of the five
unfoldable pub is_one : ℕ → Bool
is_one x = or (eqb x request) (or (eqb x request_no_return) (or (eqb x notification) (or (eqb x response) (eqb x error))))
