-- An index entry that is that of a record, and the entries of all records, as `entry_agrees` and `index_agrees` compare them.
-- Assumes nothing.
use mathlib.Core.Path.{◌≡◌, sym, ap, ◌∙◌}
use mathlib.Core.Bool.{true, false}
use mathlib.Core.List.{List, []}
use Prim.Native.Nat.{ℕ, ◌+◌, ◌*◌, ◌^◌, ◌≤◌, ◌<◌}
use native.Mathlib.Omega.{arith}
use lib.ListN.{length}
use lib.Seq.{slice, length-slice, slice_empty}
use lib.Dec.{eqb}
use borrow.Author.Tests.{eq-eqb, ne_eqb}
use Rattle.wire.specs.Choose.{and}
use Rattle.wire.specs.Number.{AreBytes, big, number_bytes}
use Rattle.wire.specs.Header.{field_at, session_at, session_of}
use Rattle.wire.proofs.NumberLaws.{bytes_slice, length_number_bytes, read_below}
use Rattle.archive.specs.declared.form.Form.{Form}
use Rattle.archive.specs.Form.{offset_width, entry_size, limit, entry_bytes, index_bytes}
use Rattle.archive.specs.Records.{message_in, record_fits, messages_to}
use Rattle.archive.specs.Opening.{same}
use Rattle.archive.specs.Walking.{cut_size, is_whole, listed, session_in, entry_agrees}
use Rattle.archive.proofs.ListLaws.{slice_split}
use Rattle.archive.proofs.FormLaws.{limit_fits}
use Rattle.archive.proofs.RecordLaws.{length_entry}
use Rattle.archive.proofs.WalkLaws.{cut_end, size_of_lem, cut_sized, size_there, session_there}
use Rattle.archive.proofs.LeftLaws.{messages_from, next_fits, next_whole, next_listed, from_start}
use Rattle.archive.proofs.SameLaws.{same_append, same_number}

-- ---- an entry

module _ (file : List ℕ) (are : AreBytes file) where
  same_field : (at w v : ℕ) → at + w ≤ length file → v < 256 ^ w
      → same (slice at (at + w) file) (number_bytes big w v) ≡ eqb (field_at at w file) v
  unfolding field_at
  same_field at w v h b =
      same_number (slice at (at + w) file) w v (bytes_slice at (at + w) file are) (length-slice at (at + w) file h ∙ omega arith) b

  field_below : (at w : ℕ) → at + w ≤ length file → field_at at w file < 256 ^ w
  unfolding field_at
  field_below at w h = read_below file at w h are

  -- the bytes of an entry are those of a record's exactly when they agree
  entry_same : (f : Form) (to at : ℕ) (m : List ℕ) → to + entry_size f ≤ length file → at + 14 ≤ length file → at < 256 ^ offset_width f
      → session_of m ≡ session_in file at → same (slice to (to + entry_size f) file) (entry_bytes f at m) ≡ entry_agrees file f to at
  unfolding entry_bytes entry_agrees
  entry_same f to at m h k b s =
      let w = offset_width f in
      let e : to + entry_size f ≡ to + w + 2 = omega arith in
      let l : length (slice to (to + w) file) ≡ length (number_bytes big w at) =
      length-slice to (to + w) file (omega arith) ∙ omega (arith, length_number_bytes w at) in
      rw (
        e,
        slice_split to (to + w) (to + w + 2) file (omega arith) (omega arith),
        same_append (slice to (to + w) file) (number_bytes big w at) (slice (to + w) (to + w + 2) file) (number_bytes big 2 (session_of m)) l,
        same_field to w at (omega arith) b,
        s,
        same_field (to + w) 2 (session_in file at) (omega arith) (field_below (at + 2 + session_at) 2 (omega arith)),
      )

-- ---- as the code compares it

module _ (file : List ℕ) (f : Form) (to at w v : ℕ) (ew : w ≡ offset_width f) (ev : v ≡ field_at to w file) where
  -- another offset
  pub entry_other : (v ≡ at → ⊥) → false ≡ entry_agrees file f to at
  unfolding entry_agrees
  entry_other n = rw (← ew, ← ev, ne_eqb v at n)

  -- the offset, and both Session IDs
  pub entry_two : v ≡ at → (a b : ℕ) → a ≡ field_at (to + w) 2 file → b ≡ session_in file at → eqb a b ≡ entry_agrees file f to at
  unfolding entry_agrees
  entry_two e a b ea eb = rw (← ew, ← ev, eq-eqb v at e, ← ea, ← eb)

-- ---- the loop over records and entries

-- Records from `at` on and entries from `to` on are left; the entries before are the records'.
pub record Going (file : List ℕ) (f : Form) (size end at to : ℕ) : Type 0 where
  pub under : at ≤ size
  pub whole : is_whole (messages_from file at size) ≡ true
  pub ends : to + entry_size f * length (listed (messages_from file at size)) ≡ end
  pub left : same (slice size end file) (index_bytes f 0 (listed (messages_to file size)))
      ≡ same (slice to end file) (index_bytes f at (listed (messages_from file at size)))

-- what the walk has found before
abbrev pub Told : List ℕ → Form → ℕ → ℕ → Type 0
Told file f size end =
    (is_whole (messages_to file size) ≡ true)
    × (size ≤ limit f)
    × (size + entry_size f * length (listed (messages_to file size)) ≡ end)
    × (end ≤ length file)

module _ (file : List ℕ) (f : Form) (size end : ℕ) (told : Told file f size end) where
  within : size ≤ length file
  within = omega arith

  pub going_start : Going file f size end 0 size
  going_start =
      let i = from_start file size within in
      record { under = omega arith; whole = rw i at told.0; ends = rw i at told.2; left = rw i }

  module _ (at to : ℕ) (g : Going file f size end at to) where
    pub going_end : size ≤ at → true ≡ same (slice size end file) (index_bytes f 0 (listed (messages_to file size)))
    unfolding same index_bytes
    going_end h =
        let e : at ≡ size = omega arith in
        let n : listed (messages_from file at size) ≡ [] = rw e (ap listed (cut_end (length (slice size size file)) size file)) in
        let t : to ≡ end = omega (arith, g.ends, ap (λ ms. entry_size f * length ms) n) in
        sym (g.left ∙ rw (n, t, slice_empty end file))

    module _ (more : at < size) where
      record_there : record_fits (slice at size file) ≡ true
      record_there = next_fits file at size more within g.whole

      record_size_lem : cut_size (slice at size file) ≡ 2 + field_at at 2 file
      record_size_lem = size_there file at size more within record_there

      pub record_sized : (18 ≤ 2 + field_at at 2 file) × (at + (2 + field_at at 2 file) ≤ size)
      record_sized = rw record_size_lem at (cut_sized file at size more within record_there)

      abbrev m : List ℕ
      m = message_in (slice at size file)

      abbrev then : ℕ
      then = at + cut_size (slice at size file)

      then_ends : to + entry_size f + entry_size f * length (listed (messages_from file then size)) ≡ end
      then_ends = omega (arith, g.ends, ap (λ ms. entry_size f * length ms) (next_listed file at size more within g.whole))

      pub entry_room : to + entry_size f ≤ end
      entry_room = omega (arith, then_ends)

      module _ (are : AreBytes file) where
        entry_left : same (slice to end file) (index_bytes f at (listed (messages_from file at size)))
            ≡ and (entry_agrees file f to at)
            (same (slice (to + entry_size f) end file) (index_bytes f then (listed (messages_from file then size))))
        unfolding index_bytes
        entry_left =
            let l : length (slice to (to + entry_size f) file) ≡ length (entry_bytes f at m) =
            length-slice to (to + entry_size f) file (omega (arith, entry_room)) ∙ omega (arith, length_entry f at m) in
            rw (
              next_listed file at size more within g.whole,
              ← size_of_lem file at size more within record_there,
              slice_split to (to + entry_size f) end file (omega arith) entry_room,
              same_append (slice to (to + entry_size f) file) (entry_bytes f at m) (slice (to + entry_size f) end file) _ l,
              entry_same file are f to at m (omega (arith, entry_room)) (omega (arith, record_sized)) (omega (arith, limit_fits f))
                  (session_there file at size more within record_there),
            )

        pub going_no : entry_agrees file f to at ≡ false
            → false ≡ same (slice size end file) (index_bytes f 0 (listed (messages_to file size)))
        going_no e = sym (g.left ∙ entry_left ∙ rw e)

        pub going_on : entry_agrees file f to at ≡ true → (k n : ℕ) → k ≡ 2 + field_at at 2 file → n ≡ entry_size f
            → Going file f size end (at + k) (to + n)
        going_on e k n ek en =
            rw (ek, ← record_size_lem, en)
            (record {
              under = (cut_sized file at size more within record_there).1;
              whole = next_whole file at size more within g.whole;
              ends = then_ends;
              left = g.left ∙ entry_left ∙ rw e;
            })
