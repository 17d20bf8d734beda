-- What this crate promises, a statement under each sentence. The proofs cite them in proofs/Promises.antt, in the same order.
-- `a ↔ b` is read: a exactly when b.
use Rattle.std.specs.Prelude.{◌≡◌, ℕ, suc, ◌+◌, ◌-◌, ◌*◌, ◌≤◌, ◌<◌, true, false, ◌↔◌, ◌⊎◌, List, [], ◌∷◌, ◌++◌, map, length, take, drop, get_or, replicate}
use Rattle.std.proofs.Math.Option.{some}
use Rattle.std.proofs.Math.Seq.{slice}
use Rattle.wire.specs.Number.{AreBytes}
use Rattle.wire.specs.Header.{session_of}
use Rattle.wire.specs.Part.{part, part_of}
use Rattle.archive.specs.declared.verdict.Verdict.{Verdict}
use Rattle.archive.specs.declared.verdict.Verdict.TheVariants.{Accepted, Full, Trailer, Records, NoMessage, NoRecord}
use Rattle.archive.specs.declared.form.Form.{Form}
use Rattle.archive.specs.declared.add.Kept.{Kept}
use Rattle.archive.specs.declared.open.Opening.{Opening}
use Rattle.archive.specs.declared.find.Found.{Found}
use Rattle.archive.specs.Verdict.{verdict_number}
use Rattle.archive.specs.Form.{limit, written, message_fits, AreMessages, record_bytes, record_size, records_bytes, file_of}
use Rattle.archive.specs.Records.{messages_in}
use Rattle.archive.specs.Adding.{Outcome, adding, closing, kept_by, file_by}
use Rattle.archive.specs.Added.{Added, add_all}
use Rattle.archive.specs.Opening.{index_at, entries_in, form_in, holds, archive_of, opening_by}
use Rattle.archive.specs.Finding.{message_at, offset_at, reading_by, finding_by}

-- ---- the verdicts

-- A1. The verdicts have the paper's numbers, and two verdicts have two.
abbrev pub VerdictNumbers : Type 0
VerdictNumbers = map verdict_number (Accepted ∷ Full ∷ Trailer ∷ Records ∷ NoMessage ∷ NoRecord ∷ []) ≡ 0 ∷ 50 ∷ 51 ∷ 52 ∷ 53 ∷ 54 ∷ []

abbrev pub VerdictsDiffer : Type 0
VerdictsDiffer = (v u : Verdict) → verdict_number v ≡ verdict_number u → v ≡ u

-- ---- messages and the trailer, by byte number

abbrev pub byte : List ℕ → ℕ → ℕ
byte d i = get_or d i 0

abbrev pub two : List ℕ → ℕ → ℕ
two d i = byte d i * 256 + byte d (i + 1)

abbrev pub four : List ℕ → ℕ → ℕ
four d i = two d i * 65536 + two d (i + 2)

-- A2. A message is 16 to 65,535 bytes whose Length is its size less 8. Its Session ID is bytes 10 and 11.
abbrev pub MessageExactly : Type 0
MessageExactly = (m : List ℕ) → message_fits m ≡ true ↔ (16 ≤ length m) × (length m ≤ 65535) × (four m 4 ≡ length m - 8)

abbrev pub SessionByByte : Type 0
SessionByByte = (m : List ℕ) → message_fits m ≡ true → session_of m ≡ two m 10

pub record TrailerLaw (file : List ℕ) : Type 0 where
  pub index_is : index_at file ≡ four file (length file - 8)
  pub entries_are : entries_in file ≡ two file (length file - 4)
  pub form_is : form_in file ≡ two file (length file - 2)

-- A3. The trailer is the last eight bytes: index offset, number of entries, form number.
abbrev pub TrailerByByte : Type 0
TrailerByByte = (file : List ℕ) → 8 ≤ length file → TrailerLaw file

-- ---- records and files

-- A4. Bytes are cut into messages exactly when they are the records of these messages.
abbrev pub WholeRecords : Type 0
WholeRecords = (bytes : List ℕ) (ms : List (List ℕ)) → AreBytes bytes
    → messages_in bytes ≡ some ms ↔ (bytes ≡ records_bytes ms) × AreMessages ms

-- A5. Records are those of one list of messages, and so is a file.
abbrev pub RecordsDiffer : Type 0
RecordsDiffer = (ms ns : List (List ℕ)) → AreMessages ms → AreMessages ns → records_bytes ms ≡ records_bytes ns → ms ≡ ns

abbrev pub FilesDiffer : Type 0
FilesDiffer = (f : Form) (ms ns : List (List ℕ)) → AreMessages ms → AreMessages ns → length (file_of f ms) ≤ limit f
    → file_of f ms ≡ file_of f ns → ms ≡ ns

-- ---- opening

-- A6. A file is accepted exactly when it is the file of messages, within the form's limit, and it holds these messages.
abbrev pub AcceptedExactly : Type 0
AcceptedExactly = (file : List ℕ) (f : Form) (ms : List (List ℕ))
    → archive_of file ≡ holds f ms ↔ (file ≡ file_of f ms) × AreMessages ms × (length file ≤ limit f)

-- when opening has each verdict: 51, then 52
module _ (file : List ℕ) where
  -- under 8 bytes, another form, over 65,535 bytes, or an index ending past the trailer's start
  abbrev pub NoTrailer : Type 0
  NoTrailer = (length file < 8) ⊎ (form_in file ≡ 1 → ⊥) ⊎ (65535 < length file) ⊎ (length file - 8 < index_at file + 4 * entries_in file)

  abbrev pub OpenedWhen : Verdict → Type 0
  OpenedWhen Accepted = (ms : List (List ℕ)) × (file ≡ file_of written ms) × AreMessages ms × (length file ≤ 65535)
  OpenedWhen Trailer = NoTrailer
  OpenedWhen Records = (NoTrailer → ⊥) × ((ms : List (List ℕ)) → AreMessages ms → file ≡ file_of written ms → ⊥)
  OpenedWhen Full = ⊥
  OpenedWhen NoMessage = ⊥
  OpenedWhen NoRecord = ⊥

-- A7. Opening has each verdict exactly when the paper says so.
abbrev pub OpenVerdicts : Type 0
OpenVerdicts = (file : List ℕ) (v : Verdict) → (opening_by (archive_of file)).verdict ≡ v ↔ OpenedWhen file v

pub record OpenLaw (file : List ℕ) : Type 0 where
  pub accepts : (f : Form) (ms : List (List ℕ)) → archive_of file ≡ holds f ms
      → opening_by (archive_of file) ≡ record { verdict = Accepted; size = length (records_bytes ms); entries = length ms }
  pub refuses : ((opening_by (archive_of file)).verdict ≡ Accepted → ⊥)
      → ((opening_by (archive_of file)).size ≡ 0) × ((opening_by (archive_of file)).entries ≡ 0)

-- A8. Opening answers the records' size and the number of entries, both 0 on refusal.
abbrev pub OpenAnswers : Type 0
OpenAnswers = (file : List ℕ) → OpenLaw file

-- where an accepted file has the record that i others precede, and its entry
pub record PlaceLaw (file : List ℕ) (ms : List (List ℕ)) (i : ℕ) : Type 0 where
  pub record_length : two file (offset_at ms i) ≡ length (message_at ms i)
  pub record_message : slice (offset_at ms i + 2) (offset_at ms i + 2 + length (message_at ms i)) file ≡ message_at ms i
  pub entry_offset : two file (index_at file + 4 * i) ≡ offset_at ms i
  pub entry_session : two file (index_at file + 4 * i + 2) ≡ session_of (message_at ms i)
  pub next_offset : offset_at ms (suc i) ≡ offset_at ms i + 2 + length (message_at ms i)

pub record HeldLaw (file : List ℕ) (ms : List (List ℕ)) : Type 0 where
  pub index_at_lem : index_at file ≡ length (records_bytes ms)
  pub entries_are : entries_in file ≡ length ms
  pub covered : index_at file + 4 * entries_in file + 8 ≡ length file
  pub places : (i : ℕ) → i < length ms → PlaceLaw file ms i

-- A9. In an accepted file each record is two bytes of length and the message, each entry that record's offset and Session ID; the trailer
-- says where the index begins and how many entries it has. Records, index and trailer follow each other and cover the file.
abbrev pub HeldByByte : Type 0
HeldByByte = (file : List ℕ) (ms : List (List ℕ)) → AreBytes file → archive_of file ≡ holds written ms → HeldLaw file ms

-- ---- adding and closing

-- the first `told` bytes of a file are the records of these messages
pub record RecordsTo (file : List ℕ) (told : ℕ) (ms : List (List ℕ)) : Type 0 where
  pub inside : told ≤ length file
  pub records : take told file ≡ records_bytes ms
  pub messages : AreMessages ms

-- records, index and trailer of these messages fit the lent file and 65,535 bytes
pub record Fits (file : List ℕ) (ms : List (List ℕ)) : Type 0 where
  pub in_file : length (file_of written ms) ≤ length file
  pub in_limit : length (file_of written ms) ≤ 65535

-- when adding and closing have each verdict: 52, then 53, then 50
module _ (file : List ℕ) (told : ℕ) where
  abbrev pub AddedWhen : List ℕ → Verdict → Type 0
  AddedWhen m Accepted = (ms : List (List ℕ)) × RecordsTo file told ms × (message_fits m ≡ true) × Fits file (ms ++ (m ∷ []))
  AddedWhen m Records = (ms : List (List ℕ)) → RecordsTo file told ms → ⊥
  AddedWhen m NoMessage = (ms : List (List ℕ)) × RecordsTo file told ms × (message_fits m ≡ false)
  AddedWhen m Full = (ms : List (List ℕ)) × RecordsTo file told ms × (message_fits m ≡ true) × (Fits file (ms ++ (m ∷ [])) → ⊥)
  AddedWhen m Trailer = ⊥
  AddedWhen m NoRecord = ⊥

  abbrev pub ClosedWhen : Verdict → Type 0
  ClosedWhen Accepted = (ms : List (List ℕ)) × RecordsTo file told ms × Fits file ms
  ClosedWhen Records = (ms : List (List ℕ)) → RecordsTo file told ms → ⊥
  ClosedWhen Full = (ms : List (List ℕ)) × RecordsTo file told ms × (Fits file ms → ⊥)
  ClosedWhen NoMessage = ⊥
  ClosedWhen Trailer = ⊥
  ClosedWhen NoRecord = ⊥

-- A10. Adding and closing have each verdict exactly when the paper says so.
abbrev pub AddVerdicts : Type 0
AddVerdicts = (file : List ℕ) (told : ℕ) (m : List ℕ) (v : Verdict) → AreBytes file
    → (kept_by told (adding file told m)).verdict ≡ v ↔ AddedWhen file told m v

abbrev pub CloseVerdicts : Type 0
CloseVerdicts = (file : List ℕ) (told : ℕ) (v : Verdict) → AreBytes file
    → (kept_by told (closing file told)).verdict ≡ v ↔ ClosedWhen file told v

-- A11. Adding writes the record alone and answers the records' new size.
abbrev pub AddWrites : Type 0
AddWrites = (file : List ℕ) (told : ℕ) (m : List ℕ) → (kept_by told (adding file told m)).verdict ≡ Accepted
    → ((kept_by told (adding file told m)).size ≡ told + record_size m)
    × (file_by file told (adding file told m) ≡ take told file ++ (record_bytes m ++ drop (told + record_size m) file))

-- A12. Closing makes the file of the messages and answers its size; the bytes behind it stay.
abbrev pub CloseWrites : Type 0
CloseWrites = (file : List ℕ) (told : ℕ) (ms : List (List ℕ)) → RecordsTo file told ms → (kept_by told (closing file told)).verdict ≡ Accepted
    → ((kept_by told (closing file told)).size ≡ length (file_of written ms))
    × (file_by file told (closing file told) ≡ file_of written ms ++ drop (length (file_of written ms)) file)

pub record ChangeLaw (file : List ℕ) (told : ℕ) (o : Outcome) : Type 0 where
  pub refuses : ((kept_by told o).verdict ≡ Accepted → ⊥) → ((kept_by told o).size ≡ 0) × (file_by file told o ≡ file)
  pub same_length : length (file_by file told o) ≡ length file
  pub front : take told (file_by file told o) ≡ take told file
  pub back : drop (kept_by told o).size (file_by file told o) ≡ drop (kept_by told o).size file

-- A13. A refused call changes nothing and answers 0; the bytes before the told size and from the new size on stay, and there are as many as
-- before.
abbrev pub AddChanges : Type 0
AddChanges = (file : List ℕ) (told : ℕ) (m : List ℕ) → ChangeLaw file told (adding file told m)

abbrev pub CloseChanges : Type 0
CloseChanges = (file : List ℕ) (told : ℕ) → ChangeLaw file told (closing file told)

-- ---- what was added is what opens

-- messages added behind the records of `old`, and the file closed; `all` are these and those
module _ (file : List ℕ) (told : ℕ) (old ms : List (List ℕ)) where
  abbrev all : List (List ℕ)
  all = old ++ ms

  abbrev added : Added
  added = add_all file told ms

  abbrev closed : Outcome
  closed = closing added.file added.size

  abbrev after : List ℕ
  after = file_by added.file added.size closed

  -- the archive: so many of the file's bytes as closing answers
  abbrev archive : List ℕ
  archive = take (kept_by added.size closed).size after

  pub record AddedLaw : Type 0 where
    pub all_accepted : added.verdicts ≡ replicate (length ms) Accepted
    pub records_size : added.size ≡ length (records_bytes all)
    pub closes : kept_by added.size closed ≡ record { verdict = Accepted; size = length (file_of written all) }
    pub file_after : after ≡ file_of written all ++ drop (length (file_of written all)) file
    pub opens : archive_of archive ≡ holds written all
    pub reads : (i : ℕ) → i < length all → part_of archive (reading_by (suc i) (archive_of archive)).message ≡ message_at all i

-- A14. A closed file opens to the messages added, in order, whatever stood in the lent file, whenever they fit it.
abbrev pub AddedOpens : Type 0
AddedOpens = (file : List ℕ) (ms : List (List ℕ)) → AreMessages ms → Fits file ms → AddedLaw file 0 [] ms

-- A15. And so it does behind records that stand there already.
abbrev pub AddedMore : Type 0
AddedMore = (file : List ℕ) (told : ℕ) (old ms : List (List ℕ)) → RecordsTo file told old → AreMessages ms → Fits file (old ++ ms)
    → AddedLaw file told old ms

-- A16. And so it does behind an accepted archive that begins the lent file: opening answers the size that adding is told.
abbrev pub OpenedMore : Type 0
OpenedMore = (file : List ℕ) (k told : ℕ) (f : Form) (old ms : List (List ℕ)) → archive_of (take k file) ≡ holds f old
    → told ≡ (opening_by (archive_of (take k file))).size → AreMessages ms → Fits file (old ++ ms) → AddedLaw file told old ms

-- A17. An accepted file closed again has the same bytes: opening answers the size that closing is told.
abbrev pub ClosedAgain : Type 0
ClosedAgain = (file : List ℕ) (told : ℕ) → (opening_by (archive_of file)).verdict ≡ Accepted → told ≡ (opening_by (archive_of file)).size
    → (kept_by told (closing file told) ≡ record { verdict = Accepted; size = length file }) × (file_by file told (closing file told) ≡ file)

-- ---- reading and finding

-- a refusal has number 0 and an empty part
abbrev pub refusal_of : Verdict → Found
refusal_of v = record { verdict = v; number = 0; message = part 0 0 }

pub record ReadLaw (file : List ℕ) (ms : List (List ℕ)) (n : ℕ) (r : Found) : Type 0 where
  pub given : r.verdict ≡ Accepted ↔ (0 < n) × (n ≤ length ms)
  pub none : r.verdict ≡ NoRecord ↔ (n ≡ 0) ⊎ (length ms < n)
  pub shows : r.verdict ≡ Accepted
      → (r.number ≡ n) × (r.message.at ≡ offset_at ms (n - 1) + 2) × (part_of file r.message ≡ message_at ms (n - 1))
  pub refuses : r.verdict ≡ NoRecord → r ≡ refusal_of NoRecord

-- A18. Reading gives the n-th message from 1, as a part of the file, and 54 exactly when there is none.
abbrev pub ReadsNth : Type 0
ReadsNth = (file : List ℕ) (f : Form) (ms : List (List ℕ)) (n : ℕ) → archive_of file ≡ holds f ms
    → ReadLaw file ms n (reading_by n (archive_of file))

-- the n-th message has the Session ID, and no earlier one
pub record FirstWith (session : ℕ) (ms : List (List ℕ)) (n : ℕ) : Type 0 where
  pub least : 0 < n
  pub most : n ≤ length ms
  pub has : session_of (message_at ms (n - 1)) ≡ session
  pub no_earlier : (i : ℕ) → i < n - 1 → session_of (message_at ms i) ≡ session → ⊥

pub record FindLaw (file : List ℕ) (ms : List (List ℕ)) (session : ℕ) (r : Found) : Type 0 where
  pub given : (n : ℕ) → (r.verdict ≡ Accepted) × (r.number ≡ n) ↔ FirstWith session ms n
  pub none : r.verdict ≡ NoRecord ↔ ((i : ℕ) → i < length ms → session_of (message_at ms i) ≡ session → ⊥)
  pub shows : r.verdict ≡ Accepted
      → (r.message.at ≡ offset_at ms (r.number - 1) + 2) × (part_of file r.message ≡ message_at ms (r.number - 1))
  pub refuses : r.verdict ≡ NoRecord → r ≡ refusal_of NoRecord

-- A19. Finding gives the first message with a Session ID, and 54 exactly when none has it.
abbrev pub FindsFirst : Type 0
FindsFirst = (file : List ℕ) (f : Form) (ms : List (List ℕ)) (session : ℕ) → archive_of file ≡ holds f ms
    → FindLaw file ms session (finding_by session (archive_of file))

-- A20. Reading and finding refuse as opening does, with number 0 and an empty part.
abbrev pub RefusesAsOpening : Type 0
RefusesAsOpening = (file : List ℕ) (v : Verdict) (n session : ℕ) → (opening_by (archive_of file)).verdict ≡ v → (v ≡ Accepted → ⊥)
    → (reading_by n (archive_of file) ≡ refusal_of v) × (finding_by session (archive_of file) ≡ refusal_of v)

-- ---- one answer

-- A21. Any two answers, with the files after, that meet the contract of adding are equal; so are those of closing.
abbrev pub OneAdding : Type 0
OneAdding = (file : List ℕ) (told : ℕ) (m : List ℕ) (r s : Kept) (x y : List ℕ)
    → (r ≡ kept_by told (adding file told m)) × (x ≡ file_by file told (adding file told m))
    → (s ≡ kept_by told (adding file told m)) × (y ≡ file_by file told (adding file told m))
    → (r ≡ s) × (x ≡ y)

abbrev pub OneClosing : Type 0
OneClosing = (file : List ℕ) (told : ℕ) (r s : Kept) (x y : List ℕ)
    → (r ≡ kept_by told (closing file told)) × (x ≡ file_by file told (closing file told))
    → (s ≡ kept_by told (closing file told)) × (y ≡ file_by file told (closing file told))
    → (r ≡ s) × (x ≡ y)

-- A22. Any two answers that meet the contract of opening are equal; so are those of reading and of finding, and the parts handed back.
abbrev pub OneOpening : Type 0
OneOpening = (file : List ℕ) (r s : Opening) → r ≡ opening_by (archive_of file) → s ≡ opening_by (archive_of file) → r ≡ s

abbrev pub OneReading : Type 0
OneReading = (file : List ℕ) (n : ℕ) (r s : Found) → r ≡ reading_by n (archive_of file) → s ≡ reading_by n (archive_of file) → r ≡ s

abbrev pub OneFinding : Type 0
OneFinding = (file : List ℕ) (session : ℕ) (r s : Found)
    → r ≡ finding_by session (archive_of file) → s ≡ finding_by session (archive_of file) → r ≡ s

abbrev pub OnePart : Type 0
OnePart = (file : List ℕ) (found : Found) (r s : List ℕ) → r ≡ part_of file found.message → s ≡ part_of file found.message → r ≡ s

-- A23. Not empty: three messages are added, closed, opened, read, found and closed again, and each refusal is met: CasesHold, in
-- specs/Cases.antt.
