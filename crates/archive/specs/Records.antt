-- Whole records of messages: bytes cut into records, one by one.
use Rattle.std.specs.Prelude.{ℕ, zero, suc, ◌+◌, Bool, List, [], ◌∷◌, length, take, drop, leb}
use Rattle.std.proofs.Math.Option.{Option, none, some}
use Rattle.wire.specs.Choose.{pick, and}
use Rattle.wire.specs.Part.{run_of}
use Rattle.wire.specs.Header.{field_at}
use Rattle.archive.specs.Form.{message_fits}

-- The length that bytes begin with, and the message of that length behind it.
abbrev pub length_in : List ℕ → ℕ
length_in bytes = field_at 0 2 bytes

abbrev pub message_in : List ℕ → List ℕ
message_in bytes = run_of bytes 2 (length_in bytes)

-- bytes begin with a record of a message
unfoldable pub record_fits : List ℕ → Bool
record_fits bytes = and (leb (2 + length_in bytes) (length bytes)) (message_fits (message_in bytes))

abbrev pub before : List ℕ → Option (List (List ℕ)) → Option (List (List ℕ))
before m none = none
before m (some ms) = some (m ∷ ms)

-- The messages of whole records; none where the bytes are not that. Each turn takes a record.
unfoldable pub cut_all : ℕ → List ℕ → Option (List (List ℕ))
cut_all zero [] = some []
cut_all zero (x ∷ xs) = none
cut_all (suc turns) [] = some []
cut_all (suc turns) (x ∷ xs) =
    pick (record_fits (x ∷ xs))
    (before (message_in (x ∷ xs)) (cut_all turns (drop (2 + length_in (x ∷ xs)) (x ∷ xs))))
    none

abbrev pub messages_in : List ℕ → Option (List (List ℕ))
messages_in bytes = cut_all (length bytes) bytes

-- The messages of the first `size` bytes of a file; none where these aren't whole records of messages in the file.
unfoldable pub messages_to : List ℕ → ℕ → Option (List (List ℕ))
messages_to file size = pick (leb size (length file)) (messages_in (take size file)) none
