-- Opening a file from its trailer (document 02, Five).
use Rattle.std.specs.Prelude.{ℕ, ◌+◌, ◌-◌, ◌*◌, Bool, true, false, List, [], ◌∷◌, length, ltb, eqb}
use Rattle.std.proofs.Math.Option.{Option, none, some}
use Rattle.wire.specs.Choose.{pick, and, or}
use Rattle.wire.specs.Header.{field_at}
use Rattle.archive.specs.declared.verdict.Verdict.{Verdict}
use Rattle.archive.specs.declared.verdict.Verdict.TheVariants.{Accepted, Trailer, Records}
use Rattle.archive.specs.declared.form.Form.{Form}
use Rattle.archive.specs.declared.open.Opening.{Opening}
use Rattle.archive.specs.Form.{form_of, entry_size, limit, trailer_len, records_bytes, file_of}
use Rattle.archive.specs.Records.{messages_to}

-- ---- the trailer's fields

abbrev pub trailer_at : List ℕ → ℕ
trailer_at file = length file - trailer_len

abbrev pub index_at : List ℕ → ℕ
index_at file = field_at (trailer_at file) 4 file

abbrev pub entries_in : List ℕ → ℕ
entries_in file = field_at (trailer_at file + 4) 2 file

abbrev pub form_in : List ℕ → ℕ
form_in file = field_at (trailer_at file + 6) 2 file

-- ---- the verdicts

-- A file is refused, or holds messages in a form.
pub data Archive : Type 0 where
  refused : Verdict → Archive
  holds : Form → List (List ℕ) → Archive

-- the same bytes
unfoldable pub same : List ℕ → List ℕ → Bool
same [] [] = true
same [] (y ∷ ys) = false
same (x ∷ xs) [] = false
same (x ∷ xs) (y ∷ ys) = and (eqb x y) (same xs ys)

-- 52: some record is no message, or index and records don't agree and cover the file exactly: it isn't the file of its messages
abbrev pub checked : List ℕ → Form → Option (List (List ℕ)) → Archive
checked file f none = refused Records
checked file f (some ms) = pick (same file (file_of f ms)) (holds f ms) (refused Records)

-- over the form's limit, or an index ending past the trailer's start
unfoldable pub outgrows : List ℕ → Form → Bool
outgrows file f = or (ltb (limit f) (length file)) (ltb (trailer_at file) (index_at file + entry_size f * entries_in file))

abbrev pub open_as : List ℕ → Option Form → Archive
open_as file none = refused Trailer
open_as file (some f) = pick (outgrows file f) (refused Trailer) (checked file f (messages_to file (index_at file)))

-- 51: a file under 8 bytes, another form, over the limit, an index ending past the trailer's start. Then 52.
unfoldable pub archive_of : List ℕ → Archive
archive_of file = pick (ltb (length file) trailer_len) (refused Trailer) (open_as file (form_of (form_in file)))

-- Opening answers the records' size and the number of entries, both 0 on refusal.
abbrev pub opening_by : Archive → Opening
opening_by (refused v) = record { verdict = v; size = 0; entries = 0 }
opening_by (holds f ms) = record { verdict = Accepted; size = length (records_bytes ms); entries = length ms }
