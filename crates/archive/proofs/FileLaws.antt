-- The file of messages: what its trailer says, and that it holds them.
-- Assumes nothing.
use mathlib.Core.Path.{◌≡◌, refl, sym, ◌∙◌}
use mathlib.Core.List.{List, ◌++◌, append_assoc}
use Prim.Native.Nat.{ℕ, ◌+◌, ◌*◌, ◌^◌, ◌≤◌, ◌<◌}
use native.Mathlib.Omega.{arith}
use lib.ListN.{length, take, length-append}
use lib.Seq.{take_at}
use borrow.Author.Tests.{le-ltb, le-leb}
use Rattle.wire.specs.Number.{number_bytes}
use Rattle.wire.specs.Header.{field_at}
use Rattle.wire.proofs.NumberLaws.{number_back}
use Rattle.archive.specs.declared.form.Form.{Form}
use Rattle.archive.specs.Form.{
  form_number,
  entry_size,
  limit,
  AreMessages,
  records_bytes,
  index_bytes,
  trailer_len,
  trailer_bytes,
  closing_bytes,
  file_of,
}
use Rattle.archive.specs.Records.{messages_to}
use Rattle.archive.specs.Opening.{trailer_at, index_at, entries_in, form_in, holds, outgrows, archive_of}
use Rattle.archive.proofs.ListLaws.{field_behind}
use Rattle.archive.proofs.FormLaws.{number_fits, limit_small, entries_fit, form_of_lem}
use Rattle.archive.proofs.RecordLaws.{length_index, length_file, records_least, cut_back}
use Rattle.archive.proofs.SameLaws.{is_same}

-- ---- the trailer's fields

module _ (f : Form) (at n : ℕ) where
  trailer_index : at < 256 ^ 4 → field_at 0 4 (trailer_bytes f at n) ≡ at
  unfolding field_at trailer_bytes number_bytes
  trailer_index h = number_back 4 at h

  trailer_entries : n < 256 ^ 2 → field_at 4 2 (trailer_bytes f at n) ≡ n
  unfolding field_at trailer_bytes number_bytes
  trailer_entries h = number_back 2 n h

  trailer_form : field_at 6 2 (trailer_bytes f at n) ≡ form_number f
  unfolding field_at trailer_bytes number_bytes
  trailer_form = number_back 2 (form_number f) (number_fits f)

-- a file of messages under its form's limit says so in its trailer
module _ (f : Form) (ms : List (List ℕ)) where
  abbrev front : List ℕ
  front = records_bytes ms ++ index_bytes f 0 ms

  abbrev last : List ℕ
  last = trailer_bytes f (length (records_bytes ms)) (length ms)

  file_is : file_of f ms ≡ front ++ last
  unfolding file_of closing_bytes
  file_is = sym (append_assoc (records_bytes ms) (index_bytes f 0 ms) last)

  front_long : length front ≡ trailer_at (file_of f ms)
  front_long = omega (arith, length_file f ms, length-append (records_bytes ms) (index_bytes f 0 ms), length_index f 0 ms)

  trailer_field : (k w : ℕ) → field_at (trailer_at (file_of f ms) + k) w (file_of f ms) ≡ field_at k w last
  trailer_field k w = rw (← front_long, file_is) (field_behind front last k w)

  pub file_form : form_in (file_of f ms) ≡ form_number f
  file_form = trailer_field 6 2 ∙ trailer_form f (length (records_bytes ms)) (length ms)

  module _ (small : length (file_of f ms) ≤ limit f) where
    pub file_index : index_at (file_of f ms) ≡ length (records_bytes ms)
    file_index =
        let e : trailer_at (file_of f ms) + 0 ≡ trailer_at (file_of f ms) = omega arith in
        rw e at (trailer_field 0 4)
        ∙ trailer_index f (length (records_bytes ms)) (length ms) (omega (arith, length_file f ms, limit_small f))

    pub file_entries : AreMessages ms → entries_in (file_of f ms) ≡ length ms
    file_entries are =
        let few = entries_fit f (length (records_bytes ms)) (length ms) (records_least ms are) (rw (← length_file f ms) small) in
        trailer_field 4 2 ∙ trailer_entries f (length (records_bytes ms)) (length ms) few

-- ---- it holds the messages

pub records_in : (f : Form) (ms : List (List ℕ)) → take (length (records_bytes ms)) (file_of f ms) ≡ records_bytes ms
unfolding file_of
records_in f ms = take_at (records_bytes ms) (closing_bytes f ms) (length (records_bytes ms)) refl

pub file_holds : (f : Form) (ms : List (List ℕ)) → AreMessages ms → length (file_of f ms) ≤ limit f → archive_of (file_of f ms) ≡ holds f ms
unfolding archive_of outgrows messages_to
file_holds f ms are few =
    let at = length (records_bytes ms) in
    rw (
      le-ltb (length (file_of f ms)) trailer_len (omega (arith, length_file f ms)),
      file_form f ms,
      form_of_lem f,
      le-ltb (limit f) (length (file_of f ms)) few,
      file_index f ms few,
      file_entries f ms few are,
      le-ltb (trailer_at (file_of f ms)) (at + entry_size f * length ms) (omega (arith, length_file f ms)),
      le-leb at (length (file_of f ms)) (omega (arith, length_file f ms)),
      records_in f ms,
      cut_back ms are,
      is_same (file_of f ms),
    )
