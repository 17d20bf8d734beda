-- What the code's own state stands for: its walks go by places in the file.
use Rattle.std.specs.Prelude.{ℕ, ◌+◌, ◌*◌, ◌≤◌, ◌≡◌, Bool, true, false, List, [], length, eqb}
use Rattle.std.specs.Prelude.{Option as Answer, Some, None, Result, Ok, Err}
use Rattle.std.proofs.Math.Option.{Option, none, some}
use Rattle.wire.specs.Choose.{pick, and}
use Rattle.wire.specs.Part.{no_part}
use Rattle.wire.specs.Header.{field_at, session_at}
use Rattle.archive.specs.declared.verdict.Verdict.{Verdict}
use Rattle.archive.specs.declared.verdict.Verdict.TheVariants.{Accepted}
use Rattle.archive.specs.declared.form.Form.{Form}
use Rattle.archive.specs.declared.add.Kept.{Kept}
use Rattle.archive.specs.declared.open.Index.{Index}
use Rattle.archive.specs.declared.open.Opening.{Opening}
use Rattle.archive.specs.declared.find.Record.{Record}
use Rattle.archive.specs.declared.find.Found.{Found}
use Rattle.archive.specs.Form.{form_of, offset_width, entry_size, limit, records_bytes, trailer_len}
use Rattle.archive.specs.Records.{length_in, record_fits}
use Rattle.archive.specs.Opening.{index_at, entries_in, form_in, Archive, refused, holds, archive_of}

-- the size of the record that bytes begin with, 0 where they begin with none of a message
unfoldable pub cut_size : List ℕ → ℕ
cut_size bytes = pick (record_fits bytes) (2 + length_in bytes) 0

-- the same, where they begin with one of a message
unfoldable pub size_in : List ℕ → Answer ℕ
size_in bytes = pick (record_fits bytes) (Some (2 + length_in bytes)) None

-- how many records bytes were with n before them, if they were whole records
abbrev pub walked_from : ℕ → Option (List (List ℕ)) → Answer ℕ
walked_from n none = None
walked_from n (some ms) = Some (n + length ms)

abbrev pub is_whole : Option (List (List ℕ)) → Bool
is_whole none = false
is_whole (some ms) = true

-- the messages of whole records
abbrev pub listed : Option (List (List ℕ)) → List (List ℕ)
listed none = []
listed (some ms) = ms

-- the Session ID in the record at a place
abbrev pub session_in : List ℕ → ℕ → ℕ
session_in file at = field_at (at + 2 + session_at) 2 file

-- the index entry at `to` has the offset and the Session ID of the record at `at`
unfoldable pub entry_agrees : List ℕ → Form → ℕ → ℕ → Bool
entry_agrees file f to at = and (eqb (field_at to (offset_width f) file) at) (eqb (field_at (to + offset_width f) 2 file) (session_in file at))

-- the trailer at `end` is of a form, and says that n entries stand at `size`, which end before it
pub record Trailed (file : List ℕ) (f : Form) (size n end : ℕ) : Type 0 where
  pub whole : end + trailer_len ≡ length file
  pub size_is : size ≡ index_at file
  pub entries_are : n ≡ entries_in file
  pub form_is : form_of (form_in file) ≡ some f
  pub index_in : size + entry_size f * n ≤ end
  pub most : length file ≤ limit f

-- the file was opened: it holds n messages in a form, and their records have `size` bytes
pub record Opened (file : List ℕ) (f : Form) (size n : ℕ) : Type 0 where
  pub messages : List (List ℕ)
  pub are_held : archive_of file ≡ holds f messages
  pub size_is : size ≡ length (records_bytes messages)
  pub count_is : n ≡ length messages

-- ---- what the code hands on where it is not refused, and the answers that are made of it

-- the index of a file that was opened
abbrev pub opened_by : Archive → Result Index Verdict
opened_by (refused v) = Err v
opened_by (holds f ms) = Ok (record { at = length (records_bytes ms); entries = length ms })

abbrev pub opening_as : Result Index Verdict → Opening
opening_as (Ok i) = record { verdict = Accepted; size = i.at; entries = i.entries }
opening_as (Err v) = record { verdict = v; size = 0; entries = 0 }

abbrev pub kept_as : Result ℕ Verdict → Kept
kept_as (Ok n) = record { verdict = Accepted; size = n }
kept_as (Err v) = record { verdict = v; size = 0 }

abbrev pub found_as : Result Record Verdict → Found
found_as (Ok r) = record { verdict = Accepted; number = r.number; message = r.message }
found_as (Err v) = record { verdict = v; number = 0; message = no_part }
