-- Reading the n-th message, and finding the first by Session ID (document 02, Five). Both refuse as opening does.
use Rattle.std.specs.Prelude.{ℕ, zero, suc, ◌+◌, List, [], ◌∷◌, length, take, get_or, ltb, eqb}
use Rattle.wire.specs.Choose.{pick}
use Rattle.wire.specs.Part.{part, no_part}
use Rattle.wire.specs.Header.{session_of}
use Rattle.archive.specs.declared.verdict.Verdict.{Verdict}
use Rattle.archive.specs.declared.verdict.Verdict.TheVariants.{Accepted, NoRecord}
use Rattle.archive.specs.declared.find.Found.{Found}
use Rattle.archive.specs.Form.{records_bytes}
use Rattle.archive.specs.Opening.{Archive, refused, holds}

-- the message that i messages precede
abbrev pub message_at : List (List ℕ) → ℕ → List ℕ
message_at ms i = get_or ms i []

-- the offset of its record
abbrev pub offset_at : List (List ℕ) → ℕ → ℕ
offset_at ms i = length (records_bytes (take i ms))

-- a refusal gives no number and no message
abbrev pub none_found : Verdict → Found
none_found v = record { verdict = v; number = 0; message = no_part }

-- The n-th message from 1, as a part of the file: it stands behind its record's two bytes of length. 54: no such record.
abbrev pub nth : List (List ℕ) → ℕ → Found
nth ms zero = none_found NoRecord
nth ms (suc i) =
    pick (ltb i (length ms))
    (record { verdict = Accepted; number = suc i; message = part (offset_at ms i + 2) (length (message_at ms i)) })
    (none_found NoRecord)

abbrev pub reading_by : ℕ → Archive → Found
reading_by n (refused v) = none_found v
reading_by n (holds f ms) = nth ms n

-- a number counted with one message more before it; 0 stays 0
abbrev pub counted : ℕ → ℕ
counted zero = zero
counted (suc n) = suc (suc n)

-- the number from 1 of the first message with a Session ID, 0 where no message has it
unfoldable pub first_of : ℕ → List (List ℕ) → ℕ
first_of session [] = 0
first_of session (m ∷ ms) = pick (eqb (session_of m) session) 1 (counted (first_of session ms))

abbrev pub first_in : ℕ → Archive → ℕ
first_in session (refused v) = 0
first_in session (holds f ms) = first_of session ms

-- Finding reads the message of that number.
abbrev pub finding_by : ℕ → Archive → Found
finding_by session a = reading_by (first_in session a) a
