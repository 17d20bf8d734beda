-- Adding a message, and closing (document 02, Five). Both are told the records' size so far.
use Rattle.std.specs.Prelude.{ℕ, suc, ◌+◌, Bool, List, length, ltb}
use Rattle.std.proofs.Math.Option.{Option, none, some}
use Rattle.std.proofs.lemmas.List.Edits.{sets}
use Rattle.wire.specs.Choose.{pick, or}
use Rattle.archive.specs.declared.verdict.Verdict.{Verdict}
use Rattle.archive.specs.declared.verdict.Verdict.TheVariants.{Accepted, Full, Records, NoMessage}
use Rattle.archive.specs.declared.form.Form.{Form}
use Rattle.archive.specs.declared.add.Kept.{Kept}
use Rattle.archive.specs.Form.{limit, written, message_fits, record_bytes, record_size, closing_bytes, file_size}
use Rattle.archive.specs.Records.{messages_to}

-- A call is refused, or stores bytes in the file from the told size on.
pub data Outcome : Type 0 where
  refused : Verdict → Outcome
  stores : List ℕ → Outcome

-- 50: records of `size` bytes, n entries and the trailer wouldn't fit the lent file, which has `room` bytes, or the form's limit
unfoldable pub is_full : Form → ℕ → ℕ → ℕ → Bool
is_full f room size n = or (ltb room (file_size f size n)) (ltb (limit f) (file_size f size n))

-- 52, then 53 for bytes that are no message, then 50
abbrev pub adding_to : List ℕ → ℕ → List ℕ → Option (List (List ℕ)) → Outcome
adding_to file told m none = refused Records
adding_to file told m (some ms) =
    pick (message_fits m)
    (pick (is_full written (length file) (told + record_size m) (suc (length ms))) (refused Full)
    (stores (record_bytes m)))
    (refused NoMessage)

unfoldable pub adding : List ℕ → ℕ → List ℕ → Outcome
adding file told m = adding_to file told m (messages_to file told)

-- 52, then 50
abbrev pub closing_to : List ℕ → ℕ → Option (List (List ℕ)) → Outcome
closing_to file told none = refused Records
closing_to file told (some ms) =
    pick (is_full written (length file) told (length ms)) (refused Full)
    (stores (closing_bytes written ms))

unfoldable pub closing : List ℕ → ℕ → Outcome
closing file told = closing_to file told (messages_to file told)

-- The answer is the verdict and the new size, 0 on refusal.
abbrev pub kept_by : ℕ → Outcome → Kept
kept_by told (refused v) = record { verdict = v; size = 0 }
kept_by told (stores xs) = record { verdict = Accepted; size = told + length xs }

-- A refused call changes nothing; adding writes the record alone, closing index and trailer alone.
abbrev pub file_by : List ℕ → ℕ → Outcome → List ℕ
file_by file told (refused v) = file
file_by file told (stores xs) = sets file told xs
