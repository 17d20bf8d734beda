-- The file of messages: where its records and entries stand.
-- Assumes nothing.
use mathlib.Core.Path.{◌≡◌, refl, ap, subst, ◌∙◌}
use mathlib.Core.Bool.{true}
use mathlib.Core.List.{List, [], ◌∷◌, ◌++◌, append_assoc}
use Prim.Native.Nat.{ℕ, zero, suc, ◌+◌, ◌*◌, ◌^◌, ◌≤◌, ◌<◌}
use native.Mathlib.Omega.{arith}
use lib.ListN.{length, take, drop, length-append}
use lib.Seq.{take_at, take-suc, slice, split_at}
use Rattle.wire.specs.Number.{AreBytes, big, number_bytes}
use Rattle.wire.specs.Part.{part, part_of}
use Rattle.wire.specs.Header.{field_at, session_at, session_of}
use Rattle.wire.proofs.NumberLaws.{bytes_left, bytes_right, number_back, length_number_bytes, read_below}
use Rattle.wire.proofs.PartLaws.{part_inside}
use Rattle.archive.specs.declared.form.Form.{Form}
use Rattle.archive.specs.Form.{
  offset_width,
  entry_size,
  limit,
  message_fits,
  AreMessages,
  record_bytes,
  record_size,
  records_bytes,
  entry_bytes,
  index_bytes,
  trailer_bytes,
  closing_bytes,
  file_of,
}
use Rattle.archive.specs.Finding.{message_at, offset_at}
use Rattle.archive.proofs.ListLaws.{slice_middle, field_behind, field_before}
use Rattle.archive.proofs.FormLaws.{limit_fits}
use Rattle.archive.proofs.RecordLaws.{length_record, length_entry, length_file, message_least, records_append, length_back}

-- ---- an index entry's fields

module _ (f : Form) (at : ℕ) (m : List ℕ) where
  entry_offset : at < 256 ^ offset_width f → field_at 0 (offset_width f) (entry_bytes f at m) ≡ at
  unfolding entry_bytes field_at
  entry_offset h =
      let w = offset_width f in
      let e : 0 + w ≡ w = omega arith in
      rw (e, take_at (number_bytes big w at) (number_bytes big 2 (session_of m)) w (length_number_bytes w at)) (number_back w at h)

  session_first : session_of m < 256 ^ 2 → field_at 0 2 (number_bytes big 2 (session_of m)) ≡ session_of m
  unfolding field_at number_bytes
  session_first h = number_back 2 (session_of m) h

  entry_session : session_of m < 256 ^ 2 → field_at (offset_width f) 2 (entry_bytes f at m) ≡ session_of m
  unfolding entry_bytes
  entry_session h =
      let w = offset_width f in
      let e : length (number_bytes big w at) + 0 ≡ w = omega (arith, length_number_bytes w at) in
      rw e at (field_behind (number_bytes big w at) (number_bytes big 2 (session_of m)) 0 2) ∙ session_first h

-- the entry that i entries precede, where the first record stands at `at`
index_field : (f : Form) (at : ℕ) (ms : List (List ℕ)) (rest : List ℕ) (i k w : ℕ) → i < length ms → k + w ≤ entry_size f
    → field_at (entry_size f * i + k) w (index_bytes f at ms ++ rest) ≡ field_at k w (entry_bytes f (at + offset_at ms i) (message_at ms i))
unfolding index_bytes records_bytes
index_field f at [] rest i k w h l = absurd (omega arith)
index_field f at (m ∷ ms) rest zero k w h l =
    let e : entry_size f * 0 + k ≡ k = omega arith in
    let z : at + 0 ≡ at = omega arith in
    rw (e, z, append_assoc (entry_bytes f at m) (index_bytes f (at + record_size m) ms) rest)
    (field_before (entry_bytes f at m) (index_bytes f (at + record_size m) ms ++ rest) k w (omega (arith, length_entry f at m)))
index_field f at (m ∷ ms) rest (suc i) k w h l =
    let e : entry_size f * suc i + k ≡ length (entry_bytes f at m) + (entry_size f * i + k) = omega (arith, length_entry f at m) in
    let z : at + length (record_bytes m ++ records_bytes (take i ms)) ≡ at + record_size m + offset_at ms i =
    omega (arith, length-append (record_bytes m) (records_bytes (take i ms)), length_record m) in
    rw (e, z, append_assoc (entry_bytes f at m) (index_bytes f (at + record_size m) ms) rest)
    (field_behind (entry_bytes f at m) (index_bytes f (at + record_size m) ms ++ rest) (entry_size f * i + k) w
    ∙ index_field f (at + record_size m) ms rest i k w (omega arith) l)

-- ---- a message and its record

message_fits_lem : (ms : List (List ℕ)) (i : ℕ) → AreMessages ms → i < length ms → message_fits (message_at ms i) ≡ true
message_fits_lem [] i a h = absurd (omega arith)
message_fits_lem (m ∷ ms) zero a h = a.0
message_fits_lem (m ∷ ms) (suc i) a h = message_fits_lem ms i a.1 (omega arith)

module _ (ms : List (List ℕ)) (i : ℕ) (h : i < length ms) where
  abbrev m : List ℕ
  m = message_at ms i

  abbrev before : List ℕ
  before = records_bytes (take i ms)

  abbrev behind : List ℕ
  behind = records_bytes (drop (suc i) ms)

  records_around : records_bytes ms ≡ before ++ (record_bytes m ++ behind)
  unfolding records_bytes
  records_around = ap records_bytes (split_at ms i [] h) ∙ records_append (take i ms) (m ∷ drop (suc i) ms)

  record_in : offset_at ms i + record_size m ≤ length (records_bytes ms)
  record_in =
      omega (
        arith,
        ap length records_around,
        length-append before (record_bytes m ++ behind),
        length-append (record_bytes m) behind,
        length_record m,
      )

  message_bytes_lem : AreBytes (records_bytes ms) → AreBytes m
  unfolding record_bytes
  message_bytes_lem b =
      bytes_right (number_bytes big 2 (length m)) m
      (bytes_left (record_bytes m) behind (bytes_right before (record_bytes m ++ behind) (subst AreBytes records_around b)))

-- a record stands behind the one before it
pub next_offset : (ms : List (List ℕ)) (i : ℕ) → i < length ms → offset_at ms (suc i) ≡ offset_at ms i + 2 + length (message_at ms i)
unfolding records_bytes
next_offset ms i h =
    let m = message_at ms i in
    let one : records_bytes (take (suc i) ms) ≡ records_bytes (take i ms) ++ (record_bytes m ++ []) =
    ap records_bytes (take-suc ms i [] h) ∙ records_append (take i ms) (m ∷ []) in
    omega (
      arith,
      ap length one,
      length-append (records_bytes (take i ms)) (record_bytes m ++ []),
      length-append (record_bytes m) [],
      length_record m,
    )

-- ---- in the file

module _ (f : Form) (ms : List (List ℕ)) (i : ℕ) (h : i < length ms) where
  abbrev rest : List ℕ
  rest = behind ms i h ++ closing_bytes f ms

  file_around : file_of f ms ≡ before ms i h ++ (record_bytes (message_at ms i) ++ rest)
  unfolding file_of
  file_around = ap (λ l. l ++ closing_bytes f ms) (records_around ms i h) ∙ simp append_assoc

  pub record_there : offset_at ms i + record_size (message_at ms i) ≤ length (file_of f ms)
  record_there = omega (arith, record_in ms i h, length_file f ms)

  -- the message stands behind its record's length
  pub message_slice : slice (offset_at ms i + 2) (offset_at ms i + 2 + length (message_at ms i)) (file_of f ms) ≡ message_at ms i
  unfolding record_bytes
  message_slice =
      let m = message_at ms i in
      let two = number_bytes big 2 (length m) in
      let l : length (before ms i h ++ two) ≡ offset_at ms i + 2 =
      length-append (before ms i h) two ∙ rw (length_number_bytes 2 (length m)) in
      let e : file_of f ms ≡ (before ms i h ++ two) ++ (m ++ rest) = file_around ∙ simp append_assoc in
      rw (e, ← l) (slice_middle (before ms i h ++ two) m rest (length m) refl)

  pub part_message : part_of (file_of f ms) (part (offset_at ms i + 2) (length (message_at ms i))) ≡ message_at ms i
  part_message =
      part_inside (file_of f ms) (part (offset_at ms i + 2) (length (message_at ms i))) (omega (arith, record_there)) ∙ message_slice

  module _ (a : AreMessages ms) where
    -- the length that its record begins with
    pub file_length : field_at (offset_at ms i) 2 (file_of f ms) ≡ length (message_at ms i)
    file_length =
        let m = message_at ms i in
        let e : length (before ms i h) + 0 ≡ offset_at ms i = omega arith in
        rw file_around (rw e at (field_behind (before ms i h) (record_bytes m ++ rest) 0 2))
        ∙ length_back m rest (message_fits_lem ms i a h)

    module _ (are : AreBytes (file_of f ms)) (small : length (file_of f ms) ≤ limit f) where
      small_offset : offset_at ms i < 256 ^ offset_width f
      small_offset = omega (arith, record_there, limit_fits f)

      small_session : session_of (message_at ms i) < 256 ^ 2
      unfolding field_at file_of
      small_session =
          read_below (message_at ms i) session_at 2 (omega (arith, message_least (message_at ms i) (message_fits_lem ms i a h)))
          (message_bytes_lem ms i h (bytes_left (records_bytes ms) (closing_bytes f ms) are))

      -- its entry
      index_at_lem : (k w : ℕ) → k + w ≤ entry_size f
          → field_at (length (records_bytes ms) + (entry_size f * i + k)) w (file_of f ms)
          ≡ field_at k w (entry_bytes f (offset_at ms i) (message_at ms i))
      unfolding file_of closing_bytes
      index_at_lem k w l =
          let z : 0 + offset_at ms i ≡ offset_at ms i = omega arith in
          let last = trailer_bytes f (length (records_bytes ms)) (length ms) in
          field_behind (records_bytes ms) (closing_bytes f ms) (entry_size f * i + k) w ∙ rw z at (index_field f 0 ms last i k w h l)

      pub file_offset : field_at (length (records_bytes ms) + entry_size f * i) (offset_width f) (file_of f ms) ≡ offset_at ms i
      file_offset =
          let e : length (records_bytes ms) + (entry_size f * i + 0) ≡ length (records_bytes ms) + entry_size f * i = omega arith in
          rw e at (index_at_lem 0 (offset_width f) (omega arith)) ∙ entry_offset f (offset_at ms i) (message_at ms i) small_offset

      pub file_session : field_at (length (records_bytes ms) + entry_size f * i + offset_width f) 2 (file_of f ms) ≡ session_of (message_at ms i)
      file_session =
          let w = offset_width f in
          let e : length (records_bytes ms) + (entry_size f * i + w) ≡ length (records_bytes ms) + entry_size f * i + w = omega arith in
          rw e at (index_at_lem w 2 (omega arith)) ∙ entry_session f (offset_at ms i) (message_at ms i) small_session
