-- What opening a file comes to, as `checked` (52) and `open` (51) go.
-- Assumes nothing.
use mathlib.Core.Path.{◌≡◌, refl, sym, ap, ◌∙◌}
use mathlib.Core.Bool.{Bool, true, false, true≢false}
use mathlib.Core.Option.{Option, none, some}
use mathlib.Core.List.{List, ◌++◌}
use Prim.Native.Nat.{ℕ, ◌+◌, ◌*◌, ◌≤◌, ◌<◌}
use native.Mathlib.Omega.{arith}
use lib.ListN.{length, drop, take-append-drop}
use lib.Seq.{slice, take-length, length-slice}
use lib.Dec.{ltb}
use borrow.Author.Tests.{lt-ltb, le-ltb}
use Rattle.wire.specs.Choose.{pick, and}
use Rattle.wire.specs.Number.{AreBytes, big, number_bytes}
use Rattle.wire.specs.Header.{field_at}
use Rattle.wire.proofs.NumberLaws.{bytes_slice, bytes_back}
use Rattle.archive.specs.declared.verdict.Verdict.TheVariants.{Trailer, Records}
use Rattle.archive.specs.declared.form.Form.{Form}
use Rattle.archive.specs.declared.open.Index.{Index}
use Rattle.archive.specs.declared.verdict.Verdict.{Verdict}
use Rattle.std.specs.Prelude.{Some, None, Result, Ok}
use Rattle.archive.specs.Form.{
  form_number,
  form_of,
  entry_size,
  limit,
  records_bytes,
  index_bytes,
  trailer_len,
  trailer_bytes,
  closing_bytes,
  file_of,
}
use Rattle.archive.specs.Records.{messages_to}
use Rattle.archive.specs.Opening.{
  trailer_at,
  index_at,
  entries_in,
  form_in,
  refused,
  holds,
  same,
  checked,
  outgrows,
  open_as,
  archive_of,
}
use Rattle.archive.specs.Promises.{RecordsTo}
use Rattle.archive.specs.Walking.{walked_from, listed, Trailed, opened_by}
use Rattle.archive.proofs.ListLaws.{slice_split}
use Rattle.archive.proofs.FormLaws.{form_of_lem, form_back, form_none}
use Rattle.archive.proofs.RecordLaws.{length_index, length_file}
use Rattle.archive.proofs.LeftLaws.{walked_none, walked_some, told_size, cut_records}
use Rattle.archive.proofs.SameLaws.{is_same, same_by, same_append}
use Rattle.archive.proofs.FileLaws.{file_entries}
use Rattle.archive.proofs.AgreeLaws.{Told}

-- ---- 52

and_true : (b : Bool) → and b true ≡ b
and_true true = refl
and_true false = refl

module _ (file : List ℕ) (are : AreBytes file) where
  -- the bytes of a field are those of its number
  field_bytes_lem : (at w : ℕ) → at + w ≤ length file → number_bytes big w (field_at at w file) ≡ slice at (at + w) file
  unfolding field_at
  field_bytes_lem at w h =
      let l : length (slice at (at + w) file) ≡ w = length-slice at (at + w) file h ∙ omega arith in
      rw l at (bytes_back (slice at (at + w) file) (bytes_slice at (at + w) file are))

  module _ (f : Form) (size n end : ℕ) (t : Trailed file f size n end) where
    inside : size ≤ length file
    inside = omega (arith, t.index_in, t.whole)

    trailer_is : drop end file ≡ trailer_bytes f size n
    unfolding trailer_bytes
    trailer_is =
        let w = t.whole in
        let a : trailer_at file ≡ end = omega arith in
        let four = field_bytes_lem end 4 (omega arith) in
        let two = field_bytes_lem (end + 4) 2 (omega arith) in
        let more = field_bytes_lem (end + 6) 2 (omega arith) in
        let e₁ : end + 4 + 2 ≡ end + 6 = omega arith in
        let e₂ : end + 6 + 2 ≡ length file = omega arith in
        rw (
          t.size_is,
          t.entries_are,
          ← form_back (form_in file) f t.form_is,
          a,
          four,
          two,
          more,
          e₁,
          e₂,
          ← slice_split (end + 4) (end + 6) (length file) file (omega arith) (omega arith),
          ← slice_split end (end + 4) (length file) file (omega arith) (omega arith),
          take-length file,
        )

    module _ (ms : List (List ℕ)) (is : messages_to file size ≡ some ms) where
      told_records : RecordsTo file size ms
      told_records = cut_records file size ms is are

      records_long : length (records_bytes ms) ≡ size
      records_long = told_size file size ms told_records

      count_other : (length ms ≡ n → ⊥) → same file (file_of f ms) ≡ false
      count_other other =
          same_by false file (file_of f ms) (λ q. absurd (true≢false (sym q)))
          (λ q. absurd (other (sym (t.entries_are ∙ ap entries_in q ∙ file_entries f ms (rw q at t.most) told_records.messages))))

      entries_long : length ms ≡ n → entry_size f * length ms ≡ entry_size f * n
      entries_long en = ap (entry_size f *◌) en

      end_other : length ms ≡ n → (size + entry_size f * n ≡ end → ⊥) → same file (file_of f ms) ≡ false
      end_other en other =
          same_by false file (file_of f ms) (λ q. absurd (true≢false (sym q)))
          (λ q. absurd (other (let l = ap length q ∙ length_file f ms in omega (arith, records_long, t.whole, entries_long en))))

      file_cut : file ≡ records_bytes ms ++ (slice size end file ++ trailer_bytes f size n)
      file_cut =
          let p = slice_split size end (length file) file (omega (arith, t.index_in)) (omega (arith, t.whole)) in
          let s = rw (take-length file) at p in
          sym (take-append-drop size file) ∙ rw (told_records.records, s, trailer_is)

      index_decides : length ms ≡ n → size + entry_size f * n ≡ end
          → same file (file_of f ms) ≡ same (slice size end file) (index_bytes f 0 ms)
      unfolding file_of closing_bytes
      index_decides en ends =
          let l : length (slice size end file) ≡ length (index_bytes f 0 ms) =
          length-slice size end file (omega (arith, t.whole)) ∙ omega (arith, length_index f 0 ms, entries_long en) in
          let last = trailer_bytes f size n in
          ap (λ x. same x (file_of f ms)) file_cut
          ∙ rw (
            records_long,
            en,
            same_append (records_bytes ms) (records_bytes ms) (slice size end file ++ last) (index_bytes f 0 ms ++ last) refl,
            is_same (records_bytes ms),
            same_append (slice size end file) (index_bytes f 0 ms) last last l,
            is_same last,
          )
          (and_true (same (slice size end file) (index_bytes f 0 ms)))

    -- as the code goes
    abbrev r : Option (List (List ℕ))
    r = messages_to file size

    pub check_torn : None ≡ walked_from 0 r → opened_by (refused Records) ≡ opened_by (checked file f r)
    check_torn e = rw (walked_none r e)

    module _ (count : ℕ) (walked : Some count ≡ walked_from 0 r) where
      is : r ≡ some (listed r)
      is = (walked_some r count walked).0

      found : (b : Bool) → same file (file_of f (listed r)) ≡ b
          → opened_by (checked file f r) ≡ opened_by (pick b (holds f (listed r)) (refused Records))
      found b e = ap (λ x. opened_by (checked file f x)) is ∙ rw e

      counted : count ≡ length (listed r)
      counted = (walked_some r count walked).1

      pub check_count : (count ≡ n → ⊥) → opened_by (refused Records) ≡ opened_by (checked file f r)
      check_count other = sym (found false (count_other (listed r) is (λ e. other (counted ∙ e))))

      module _ (many : count ≡ n) (e : ℕ) (ee : e ≡ entry_size f) where
        pub check_end : (size + e * n ≡ end → ⊥) → opened_by (refused Records) ≡ opened_by (checked file f r)
        check_end other = sym (found false (end_other (listed r) is (sym counted ∙ many) (λ q. other (rw ee q))))

        module _ (ends : size + e * n ≡ end) where
          ends_as : size + entry_size f * n ≡ end
          ends_as = rw ee at ends

          pub check_told : Told file f size end
          check_told =
              let m : entry_size f * length (listed r) ≡ entry_size f * n = rw (← counted, many) in
              (rw is, omega (arith, t.most, inside), omega (arith, ends_as), omega (arith, t.whole))

          module _ (b : Bool) (eb : b ≡ same (slice size end file) (index_bytes f 0 (listed r))) where
            decided : same file (file_of f (listed r)) ≡ b
            decided = index_decides (listed r) is (sym counted ∙ many) ends_as ∙ sym eb

            pub check_index : b ≡ false → opened_by (refused Records) ≡ opened_by (checked file f r)
            check_index e = sym (found false (decided ∙ e))

            pub check_all : b ≡ true → Ok (record { at = size; entries = n }) ≡ opened_by (checked file f r)
            check_all e = sym (found true (decided ∙ e) ∙ rw (records_long (listed r) is, ← counted, many))

-- ---- 51, as the code goes

module _ (file : List ℕ) where
  pub open_short : length file < trailer_len → opened_by (refused Trailer) ≡ opened_by (archive_of file)
  unfolding archive_of
  open_short h = rw (lt-ltb (length file) trailer_len h)

  module _ (long : trailer_len ≤ length file) (v : ℕ) (ev : v ≡ form_in file) where
    as_form : (o : Option Form) → form_of (form_in file) ≡ o → archive_of file ≡ open_as file o
    unfolding archive_of
    as_form o e = rw (le-ltb (length file) trailer_len long, e)

    pub open_other : ((f : Form) → v ≡ form_number f → ⊥) → opened_by (refused Trailer) ≡ opened_by (archive_of file)
    open_other other = ap opened_by (sym (as_form none (form_none (form_in file) (λ f q. other f (ev ∙ q)))))

    module _ (f : Form) (form : v ≡ form_number f) (m : ℕ) (em : m ≡ limit f) where
      form_is : form_of (form_in file) ≡ some f
      form_is = rw (← ev, form) (form_of_lem f)

      outgrown : (b : Bool) → outgrows file f ≡ b
          → opened_by (archive_of file) ≡ opened_by (pick b (refused Trailer) (checked file f (messages_to file (index_at file))))
      outgrown b e = ap opened_by (as_form (some f) form_is) ∙ rw e

      pub open_large : m < length file → opened_by (refused Trailer) ≡ opened_by (archive_of file)
      unfolding outgrows
      open_large h = sym (outgrown true (rw (← em, lt-ltb m (length file) h)))

      module _ (small : length file ≤ m) (at n e : ℕ) (ea : at ≡ index_at file) (en : n ≡ entries_in file) (ee : e ≡ entry_size f) where
        under_limit : ltb (limit f) (length file) ≡ false
        under_limit = rw (← em) (le-ltb m (length file) small)

        pub open_past : trailer_at file < at + e * n → opened_by (refused Trailer) ≡ opened_by (archive_of file)
        unfolding outgrows
        open_past h =
            let p : ltb (trailer_at file) (index_at file + entry_size f * entries_in file) ≡ true
            = rw (← ea, ← en, ← ee) (lt-ltb (trailer_at file) (at + e * n) h) in
            sym (outgrown true (rw (under_limit, p)))

        module _ (ends : at + e * n ≤ trailer_at file) where
          pub open_trailed : Trailed file f at n (trailer_at file)
          open_trailed =
              record {
                whole = omega arith;
                size_is = ea;
                entries_are = en;
                form_is = form_is;
                index_in = rw ee at ends;
                most = rw em at small;
              }

          pub open_checked : (r : Result Index Verdict) → r ≡ opened_by (checked file f (messages_to file at)) → r ≡ opened_by (archive_of file)
          unfolding outgrows
          open_checked r er =
              let p : ltb (trailer_at file) (index_at file + entry_size f * entries_in file) ≡ false
              = rw (← ea, ← en, ← ee) (le-ltb (trailer_at file) (at + e * n) ends) in
              er ∙ rw ea (sym (outgrown false (rw (under_limit, p))))
