-- Messages, the trailer and accepted files, by byte number.
-- Assumes nothing.
use mathlib.Core.Path.{◌≡◌, sym, ◌∙◌}
use Prim.Native.Nat.{ℕ, suc, ◌+◌, ◌-◌, ◌*◌, ◌≤◌, ◌<◌}
use native.Mathlib.Omega.{arith}
use native.Mathlib.Numerals.{add-one}
use mathlib.Core.Bool.{true}
use mathlib.Core.List.{List}
use lib.ListN.{length}
use lib.Dec.{leb}
use borrow.Author.Tests.{le-leb, eq-eqb, eqb-true}
use Rattle.wire.specs.Number.{AreBytes}
use Rattle.wire.specs.Header.{field_at, length_of, session_at}
use Rattle.wire.proofs.ChooseLaws.{and_right}
use Rattle.wire.proofs.FieldLaws.{two_field, four_field}
use Rattle.archive.specs.Form.{limit, written, message_fits, message_most, AreMessages, records_bytes, file_of}
use Rattle.archive.specs.Finding.{offset_at}
use Rattle.archive.specs.Promises.{two, four, MessageExactly, SessionByByte, TrailerByByte, PlaceLaw, HeldByByte}
use Rattle.archive.proofs.RecordLaws.{length_file, message_least, message_most_lem}
use Rattle.archive.proofs.FileLaws.{file_index, file_entries}
use Rattle.archive.proofs.PlaceLaws.{next_offset, record_there, message_slice, file_length, file_offset, file_session}
use Rattle.archive.proofs.AcceptLaws.{held_is}

module _ (at : ℕ) (d : List ℕ) where
  field_two : at + 2 ≤ length d → field_at at 2 d ≡ two d at
  field_two h = two_field at d h ∙ rw (add-one at)

  field_four : at + 4 ≤ length d → field_at at 4 d ≡ four d at
  field_four h =
      let b : at + 2 ≡ suc (suc at) = omega arith in
      let c : at + 2 + 1 ≡ suc (suc (suc at)) = omega arith in
      four_field at d h ∙ rw (c, b, add-one at) (omega arith)

pub message_exactly : MessageExactly
unfolding message_fits
message_exactly m = (to, from)
  where
    to : message_fits m ≡ true → (16 ≤ length m) × (length m ≤ 65535) × (four m 4 ≡ length m - 8)
    to h =
        let least = message_least m h in
        let e : length_of m ≡ length m - 8 = eqb-true _ _ (and_right (leb (length m) message_most) _ (and_right (leb 16 (length m)) _ h)) in
        (least, message_most_lem m h, sym (field_four 4 m (omega arith)) ∙ e)

    from : (16 ≤ length m) × (length m ≤ 65535) × (four m 4 ≡ length m - 8) → message_fits m ≡ true
    from (a, b, c) =
        rw (
          le-leb 16 (length m) a,
          le-leb (length m) 65535 b,
          eq-eqb (length_of m) (length m - 8) (field_four 4 m (omega arith) ∙ c),
        )

pub session_by_byte : SessionByByte
session_by_byte m h = field_two session_at m (omega (arith, message_least m h))

pub trailer_by_byte : TrailerByByte
trailer_by_byte file h =
    let four-on : length file - 8 + 4 ≡ length file - 4 = omega arith in
    let six-on : length file - 8 + 6 ≡ length file - 2 = omega arith in
    record {
      index_is = field_four (length file - 8) file (omega arith);
      entries_are = rw four-on (field_two (length file - 4) file (omega arith));
      form_is = rw six-on (field_two (length file - 2) file (omega arith));
    }

-- ---- an accepted file by byte number

place_law : (ms : List (List ℕ)) → AreMessages ms → AreBytes (file_of written ms) → length (file_of written ms) ≤ limit written
    → (i : ℕ) → i < length ms → PlaceLaw (file_of written ms) ms i
place_law ms a b few i h =
    let at = length (records_bytes ms) in
    let entry : at + 4 * i + 4 ≤ length (file_of written ms) = omega (arith, length_file written ms) in
    record {
      record_length = sym (field_two (offset_at ms i) (file_of written ms) (omega (arith, record_there written ms i h)))
          ∙ file_length written ms i h a;
      record_message = message_slice written ms i h;
      entry_offset =
          rw (file_index written ms few)
          (sym (field_two (at + 4 * i) (file_of written ms) (omega arith)) ∙ file_offset written ms i h a b few);
      entry_session =
          rw (file_index written ms few)
          (sym (field_two (at + 4 * i + 2) (file_of written ms) (omega arith)) ∙ file_session written ms i h a b few);
      next_offset = next_offset ms i h;
    }

pub held_by_byte : HeldByByte
held_by_byte file ms b e =
    let (is, are, few) = held_is file written ms e in
    let small : length (file_of written ms) ≤ limit written = rw (← is) few in
    rw is
    (record {
      index_at_lem = file_index written ms small;
      entries_are = file_entries written ms small are;
      covered = rw (file_index written ms small, file_entries written ms small are) (sym (length_file written ms));
      places = place_law ms are (rw (← is) b) small;
    })
