-- The form of an archive (document 02, Five): records, index entries in record order, the trailer. All numbers are big-endian.
use Rattle.std.specs.Prelude.{ℕ, ◌+◌, ◌-◌, ◌*◌, ◌≡◌, Bool, true, List, [], ◌∷◌, ◌++◌, length, leb, eqb}
use Rattle.std.proofs.Math.Option.{Option, none, some}
use Rattle.wire.specs.Choose.{pick, and}
use Rattle.wire.specs.Number.{big, number_bytes}
use Rattle.wire.specs.Header.{header_len, length_of, session_of}
use Rattle.archive.specs.declared.form.Form.{Form}
use Rattle.archive.specs.declared.form.Form.TheVariants.{One}

-- ---- what a form settles

-- the form number in the trailer
abbrev pub form_number : Form → ℕ
form_number One = 1

-- the form of such a number
abbrev pub form_of : ℕ → Option Form
form_of n = pick (eqb n 1) (some One) none

-- the bytes of a record's offset in an index entry
abbrev pub offset_width : Form → ℕ
offset_width One = 2

-- an index entry: a record's offset and a Session ID
abbrev pub entry_size : Form → ℕ
entry_size f = offset_width f + 2

-- the most bytes of a file
abbrev pub limit : Form → ℕ
limit One = 65535

-- the form in which files are closed
abbrev pub written : Form
written = One

-- ---- messages and records

-- A message is 16 to 65,535 bytes whose Length is its size less 8.
abbrev pub message_most : ℕ
message_most = 65535

unfoldable pub message_fits : List ℕ → Bool
message_fits m = and (leb header_len (length m)) (and (leb (length m) message_most) (eqb (length_of m) (length m - 8)))

-- each of a list is a message
abbrev pub AreMessages : List (List ℕ) → Type 0
AreMessages [] = Unit {0}
AreMessages (m ∷ ms) = (message_fits m ≡ true) × AreMessages ms

-- a record: two bytes of length, then the message
unfoldable pub record_bytes : List ℕ → List ℕ
record_bytes m = number_bytes big 2 (length m) ++ m

abbrev pub record_size : List ℕ → ℕ
record_size m = 2 + length m

unfoldable pub records_bytes : List (List ℕ) → List ℕ
records_bytes [] = []
records_bytes (m ∷ ms) = record_bytes m ++ records_bytes ms

-- ---- index, trailer, file

-- an index entry: the record's offset, then the Session ID
unfoldable pub entry_bytes : Form → ℕ → List ℕ → List ℕ
entry_bytes f at m = number_bytes big (offset_width f) at ++ number_bytes big 2 (session_of m)

-- the entries in record order, where the first record stands at `at`
unfoldable pub index_bytes : Form → ℕ → List (List ℕ) → List ℕ
index_bytes f at [] = []
index_bytes f at (m ∷ ms) = entry_bytes f at m ++ index_bytes f (at + record_size m) ms

abbrev pub trailer_len : ℕ
trailer_len = 8

-- the trailer: index offset, number of entries, form number
unfoldable pub trailer_bytes : Form → ℕ → ℕ → List ℕ
trailer_bytes f at n = number_bytes big 4 at ++ (number_bytes big 2 n ++ number_bytes big 2 (form_number f))

-- what closes the records: index and trailer
unfoldable pub closing_bytes : Form → List (List ℕ) → List ℕ
closing_bytes f ms = index_bytes f 0 ms ++ trailer_bytes f (length (records_bytes ms)) (length ms)

-- the file of messages
unfoldable pub file_of : Form → List (List ℕ) → List ℕ
file_of f ms = records_bytes ms ++ closing_bytes f ms

-- the size of a file whose n records have so many bytes
abbrev pub file_size : Form → ℕ → ℕ → ℕ
file_size f size n = size + entry_size f * n + trailer_len
