-- Closed instances (document 02, Five): three messages added, closed, opened, read, found and closed again; one message, and each refusal.
use Rattle.std.specs.Prelude.{◌≡◌, ℕ, List, [], ◌∷◌, ◌++◌, map, take, replicate}
use Rattle.wire.specs.Part.{part, part_of}
use Rattle.archive.specs.declared.verdict.Verdict.{Verdict}
use Rattle.archive.specs.declared.verdict.Verdict.TheVariants.{Accepted, Full, Trailer, Records, NoMessage, NoRecord}
use Rattle.archive.specs.declared.add.Kept.{Kept}
use Rattle.archive.specs.declared.open.Opening.{Opening}
use Rattle.archive.specs.declared.find.Found.{Found}
use Rattle.archive.specs.Form.{written, file_of}
use Rattle.archive.specs.Adding.{adding, closing, kept_by, file_by}
use Rattle.archive.specs.Added.{add_all}
use Rattle.archive.specs.Opening.{holds, archive_of, opening_by}
use Rattle.archive.specs.Finding.{none_found, reading_by, finding_by}

-- ---- answers

abbrev kept : Verdict → ℕ → Kept
kept v size = record { verdict = v; size = size }

abbrev opens : Verdict → ℕ → ℕ → Opening
opens v size entries = record { verdict = v; size = size; entries = entries }

abbrev found : ℕ → ℕ → ℕ → Found
found n at len = record { verdict = Accepted; number = n; message = part at len }

-- ---- three messages

-- 16 bytes, Session ID 0x0001
unfoldable pub message_a : List ℕ
message_a = 0x4A ∷ 0x01 ∷ 0x80 ∷ 0x01 ∷ 0x00 ∷ 0x00 ∷ 0x00 ∷ 0x08 ∷ 0x00 ∷ 0x00 ∷ 0x00 ∷ 0x01 ∷ 0x01 ∷ 0x01 ∷ 0x02 ∷ 0x00 ∷ []

-- 17 bytes, Session ID 0x0102
unfoldable pub message_b : List ℕ
message_b = 0x4A ∷ 0x01 ∷ 0x80 ∷ 0x01 ∷ 0x00 ∷ 0x00 ∷ 0x00 ∷ 0x09 ∷ 0x00 ∷ 0x00 ∷ 0x01 ∷ 0x02 ∷ 0x01 ∷ 0x01 ∷ 0x02 ∷ 0x00 ∷ 0x2A ∷ []

-- 20 bytes, Session ID 0x0001 again
unfoldable pub message_c : List ℕ
message_c =
    0x4A ∷ 0x01 ∷ 0x80 ∷ 0x01 ∷ 0x00 ∷ 0x00 ∷ 0x00 ∷ 0x0C ∷ 0x00 ∷ 0x00 ∷ 0x00 ∷ 0x01 ∷ 0x01 ∷ 0x01 ∷ 0x02 ∷ 0x00
    ∷ 0x10 ∷ 0x02 ∷ 0xFF ∷ 0x83 ∷ []

abbrev pub three : List (List ℕ)
three = message_a ∷ message_b ∷ message_c ∷ []

-- their file, 79 bytes
unfoldable pub three_file : List ℕ
three_file =
    -- records
    0x00 ∷ 0x10 ∷ 0x4A ∷ 0x01 ∷ 0x80 ∷ 0x01 ∷ 0x00 ∷ 0x00 ∷ 0x00 ∷ 0x08 ∷ 0x00 ∷ 0x00 ∷ 0x00 ∷ 0x01 ∷ 0x01 ∷ 0x01 ∷ 0x02 ∷ 0x00
    ∷ 0x00 ∷ 0x11 ∷ 0x4A ∷ 0x01 ∷ 0x80 ∷ 0x01 ∷ 0x00 ∷ 0x00 ∷ 0x00 ∷ 0x09 ∷ 0x00 ∷ 0x00 ∷ 0x01 ∷ 0x02 ∷ 0x01 ∷ 0x01 ∷ 0x02 ∷ 0x00 ∷ 0x2A
    ∷ 0x00 ∷ 0x14 ∷ 0x4A ∷ 0x01 ∷ 0x80 ∷ 0x01 ∷ 0x00 ∷ 0x00 ∷ 0x00 ∷ 0x0C ∷ 0x00 ∷ 0x00 ∷ 0x00 ∷ 0x01 ∷ 0x01 ∷ 0x01 ∷ 0x02 ∷ 0x00
    ∷ 0x10 ∷ 0x02 ∷ 0xFF ∷ 0x83
    -- index
    ∷ 0x00 ∷ 0x00 ∷ 0x00 ∷ 0x01
    ∷ 0x00 ∷ 0x12 ∷ 0x01 ∷ 0x02
    ∷ 0x00 ∷ 0x25 ∷ 0x00 ∷ 0x01
    -- trailer
    ∷ 0x00 ∷ 0x00 ∷ 0x00 ∷ 0x3B ∷ 0x00 ∷ 0x03 ∷ 0x00 ∷ 0x01 ∷ []

-- their records in a lent file of 80 bytes that held FF
abbrev three_added : List ℕ
three_added = take 59 three_file ++ replicate 21 0xFF

pub record ThreeHold : Type 0 where
  pub added : add_all (replicate 80 0xFF) 0 three ≡ record { verdicts = replicate 3 Accepted; file = three_added; size = 59 }
  pub closed : (kept_by 59 (closing three_added 59) ≡ kept Accepted 79)
      × (file_by three_added 59 (closing three_added 59) ≡ three_file ++ (0xFF ∷ []))
  pub file_of_lem : file_of written three ≡ three_file
  pub opened : (archive_of three_file ≡ holds written three) × (opening_by (archive_of three_file) ≡ opens Accepted 59 3)
  -- the n-th of 0 to 4, and the bytes of 1 to 3
  pub read : map (λ (n : ℕ). reading_by n (archive_of three_file)) (0 ∷ 1 ∷ 2 ∷ 3 ∷ 4 ∷ [])
      ≡ none_found NoRecord ∷ found 1 2 16 ∷ found 2 20 17 ∷ found 3 39 20 ∷ none_found NoRecord ∷ []
  pub shown : map (λ (n : ℕ). part_of three_file (reading_by n (archive_of three_file)).message) (1 ∷ 2 ∷ 3 ∷ []) ≡ three
  -- the first of two, the only one, and none
  pub finds : map (λ (session : ℕ). finding_by session (archive_of three_file)) (0x0001 ∷ 0x0102 ∷ 0x0201 ∷ [])
      ≡ found 1 2 16 ∷ found 2 20 17 ∷ none_found NoRecord ∷ []
  pub again : (kept_by 59 (closing three_file 59) ≡ kept Accepted 79) × (file_by three_file 59 (closing three_file 59) ≡ three_file)

-- ---- one message, and each refusal

-- the record of message A, with an index and a trailer
abbrev ending : List ℕ → List ℕ
ending end = 0x00 ∷ 0x10 ∷ (message_a ++ end)

-- adding: the file, the told size, the message, the answer
pub record AddCase : Type 0 where
  pub file : List ℕ
  pub told : ℕ
  pub message : List ℕ
  pub answer : Kept

abbrev adds : List ℕ → ℕ → List ℕ → Kept → AddCase
adds file told m k = record { file = file; told = told; message = m; answer = k }

-- opening: the file and the answer
pub record OpenCase : Type 0 where
  pub file : List ℕ
  pub answer : Opening

abbrev is_open : List ℕ → Opening → OpenCase
is_open file o = record { file = file; answer = o }

-- The first and the second message: 50 for want of a byte, accepted with it. Then 53, also before 50, and 52 before 53: a size within a
-- record, a length past the told size, a size past the end of a file of whole records.
unfoldable pub add_cases : List AddCase
add_cases =
    adds (replicate 29 0) 0 message_a (kept Full 0)
    ∷ adds (replicate 30 0) 0 message_a (kept Accepted 18)
    ∷ adds (ending (replicate 33 0)) 18 message_a (kept Full 0)
    ∷ adds (ending (replicate 34 0)) 18 message_a (kept Accepted 36)
    ∷ adds (ending (replicate 34 0)) 18 (0x78 ∷ []) (kept NoMessage 0)
    ∷ adds [] 0 [] (kept NoMessage 0)
    ∷ adds (ending (replicate 34 0)) 17 [] (kept Records 0)
    ∷ adds (0x00 ∷ 0x11 ∷ (message_a ++ replicate 34 0)) 18 [] (kept Records 0)
    ∷ adds (ending []) 19 [] (kept Records 0)
    ∷ []

-- 51: nothing, 7 bytes, form number 2, an index that ends past the trailer's start, which a 32-bit sum would not see. 52: no entry, another
-- Session ID, another offset, a byte too many, a record that is no message.
unfoldable pub open_cases : List OpenCase
open_cases =
    is_open (ending (0x00 ∷ 0x00 ∷ 0x00 ∷ 0x01 ∷ 0x00 ∷ 0x00 ∷ 0x00 ∷ 0x12 ∷ 0x00 ∷ 0x01 ∷ 0x00 ∷ 0x01 ∷ [])) (opens Accepted 18 1)
    ∷ is_open (0x00 ∷ 0x00 ∷ 0x00 ∷ 0x00 ∷ 0x00 ∷ 0x00 ∷ 0x00 ∷ 0x01 ∷ []) (opens Accepted 0 0)
    ∷ is_open [] (opens Trailer 0 0)
    ∷ is_open (0x00 ∷ 0x00 ∷ 0x00 ∷ 0x00 ∷ 0x00 ∷ 0x00 ∷ 0x01 ∷ []) (opens Trailer 0 0)
    ∷ is_open (ending (0x00 ∷ 0x00 ∷ 0x00 ∷ 0x01 ∷ 0x00 ∷ 0x00 ∷ 0x00 ∷ 0x12 ∷ 0x00 ∷ 0x01 ∷ 0x00 ∷ 0x02 ∷ [])) (opens Trailer 0 0)
    ∷ is_open (ending (0x00 ∷ 0x00 ∷ 0x00 ∷ 0x01 ∷ 0xFF ∷ 0xFF ∷ 0xFF ∷ 0xFC ∷ 0x00 ∷ 0x01 ∷ 0x00 ∷ 0x01 ∷ [])) (opens Trailer 0 0)
    ∷ is_open (ending (0x00 ∷ 0x00 ∷ 0x00 ∷ 0x01 ∷ 0x00 ∷ 0x00 ∷ 0x00 ∷ 0x13 ∷ 0x00 ∷ 0x01 ∷ 0x00 ∷ 0x01 ∷ [])) (opens Trailer 0 0)
    ∷ is_open (ending (0x00 ∷ 0x00 ∷ 0x00 ∷ 0x01 ∷ 0x00 ∷ 0x00 ∷ 0x00 ∷ 0x12 ∷ 0x00 ∷ 0x00 ∷ 0x00 ∷ 0x01 ∷ [])) (opens Records 0 0)
    ∷ is_open (ending (0x00 ∷ 0x00 ∷ 0x00 ∷ 0x02 ∷ 0x00 ∷ 0x00 ∷ 0x00 ∷ 0x12 ∷ 0x00 ∷ 0x01 ∷ 0x00 ∷ 0x01 ∷ [])) (opens Records 0 0)
    ∷ is_open (ending (0x00 ∷ 0x01 ∷ 0x00 ∷ 0x01 ∷ 0x00 ∷ 0x00 ∷ 0x00 ∷ 0x12 ∷ 0x00 ∷ 0x01 ∷ 0x00 ∷ 0x01 ∷ [])) (opens Records 0 0)
    ∷ is_open (ending (0x00 ∷ 0x00 ∷ 0x00 ∷ 0x01 ∷ 0x00 ∷ 0x00 ∷ 0x00 ∷ 0x00 ∷ 0x12 ∷ 0x00 ∷ 0x01 ∷ 0x00 ∷ 0x01 ∷ [])) (opens Records 0 0)
    ∷ is_open (0x00 ∷ 0x00 ∷ 0x00 ∷ 0x00 ∷ 0x00 ∷ 0x00 ∷ 0x00 ∷ 0x00 ∷ 0x00 ∷ 0x02 ∷ 0x00 ∷ 0x01 ∷ 0x00 ∷ 0x01 ∷ []) (opens Records 0 0)
    ∷ []

-- each case gives its answer
pub record CasesHold : Type 0 where
  pub three_hold : ThreeHold
  pub adds_hold : map (λ (c : AddCase). kept_by c.told (adding c.file c.told c.message)) add_cases
      ≡ map (λ (c : AddCase). c.answer) add_cases
  pub opens_hold : map (λ (c : OpenCase). opening_by (archive_of c.file)) open_cases ≡ map (λ (c : OpenCase). c.answer) open_cases
  -- closing 30 bytes, told 17, 18 and 31; and 29 bytes
  pub closes_hold : map (λ (told : ℕ). kept_by told (closing (ending (replicate 12 0)) told)) (17 ∷ 18 ∷ 31 ∷ [])
      ≡ kept Records 0 ∷ kept Accepted 30 ∷ kept Records 0 ∷ []
  pub no_room : kept_by 18 (closing (ending (replicate 11 0)) 18) ≡ kept Full 0
  -- finding and reading refuse as opening does
  pub refuses_hold : reading_by 1 (archive_of []) ∷ finding_by 1 (archive_of []) ∷ [] ≡ none_found Trailer ∷ none_found Trailer ∷ []
