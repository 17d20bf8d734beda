-- What adding and closing store, and when they refuse.
-- Assumes nothing.
use mathlib.Core.Path.{◌≡◌, refl, sym, ap, ◌∙◌}
use mathlib.Core.Bool.{Bool, true, false}
use mathlib.Core.Option.{none, some}
use mathlib.Core.List.{List}
use Prim.Native.Nat.{ℕ, suc, ◌+◌, ◌*◌, ◌≤◌, ◌<◌}
use native.Mathlib.Omega.{arith}
use lib.ListN.{length}
use lib.Seq.{sets, take_all, length-sets}
use lib.Dec.{ltb}
use borrow.Author.Tests.{lt-ltb, le-ltb, ltb-false}
use Rattle.wire.specs.Choose.{pick, or}
use Rattle.wire.specs.Number.{AreBytes, big, number_bytes}
use Rattle.wire.specs.Part.{run_of}
use Rattle.wire.proofs.NumberLaws.{length_number_bytes}
use Rattle.wire.proofs.StoreLaws.{two_stores, three_stores}
use Rattle.archive.specs.declared.verdict.Verdict.{Verdict}
use Rattle.archive.specs.declared.verdict.Verdict.TheVariants.{Accepted, Full, Records, NoMessage}
use Rattle.archive.specs.declared.form.Form.{Form}
use Rattle.std.specs.Prelude.{Some, None, Result, Err}
use Rattle.archive.specs.declared.add.Kept.{Kept}
use Rattle.archive.specs.Form.{
  form_number,
  entry_size,
  limit,
  written,
  message_fits,
  record_bytes,
  record_size,
  records_bytes,
  index_bytes,
  trailer_len,
  trailer_bytes,
  closing_bytes,
  file_size,
}
use Rattle.archive.specs.Records.{messages_to}
use Rattle.archive.specs.Adding.{Outcome, refused, stores, is_full, adding, closing, kept_by, file_by}
use Rattle.archive.specs.Walking.{walked_from, is_whole, listed, kept_as}
use Rattle.archive.proofs.FormLaws.{entries_long}
use Rattle.archive.proofs.RecordLaws.{length_record, length_index, length_closing}
use Rattle.archive.proofs.LeftLaws.{walked_none, walked_some, told_size, told_few, cut_records}

-- ---- 50

or_true : (b : Bool) → true ≡ or b true
or_true true = refl
or_true false = refl

module _ (f : Form) (room size n : ℕ) where
  full_over : limit f < file_size f size n → true ≡ is_full f room size n
  unfolding is_full
  full_over h = rw (lt-ltb (limit f) (file_size f size n) h) (or_true (ltb room (file_size f size n)))

  pub full_room : room < file_size f size n → true ≡ is_full f room size n
  unfolding is_full
  full_room h = rw (lt-ltb room (file_size f size n) h)

  pub full_limit : file_size f size n ≤ room → ltb (limit f) (file_size f size n) ≡ is_full f room size n
  unfolding is_full
  full_limit h = rw (le-ltb room (file_size f size n) h)

pub full_size : (f : Form) (room size n : ℕ) → limit f < size → true ≡ is_full f room size n
full_size f room size n h = full_over f room size n (omega arith)

pub full_entries : (f : Form) (room size n : ℕ) → limit f < n → true ≡ is_full f room size n
full_entries f room size n h = full_over f room size n (omega (arith, entries_long f n))

or_false : (a b : Bool) → or a b ≡ false → (a ≡ false) × (b ≡ false)
or_false true b e = (cc, cc)
or_false false b e = (refl, e)

pub not_full : (f : Form) (room size n : ℕ) → is_full f room size n ≡ false → (file_size f size n ≤ room) × (file_size f size n ≤ limit f)
unfolding is_full
not_full f room size n e =
    let b = or_false _ _ e in
    (ltb-false room (file_size f size n) b.0, ltb-false (limit f) (file_size f size n) b.1)

-- ---- stores as runs of bytes

pub record_stores : (l l1 l2 m : List ℕ) (at : ℕ) → l1 ≡ sets l at (number_bytes big 2 (length m))
    → l2 ≡ sets l1 (at + 2) (run_of m 0 (length m))
    → l2 ≡ sets l at (record_bytes m)
unfolding record_bytes
record_stores l l1 l2 m at e1 e2 =
    e2 ∙ rw (e1, take_all (length m) m (omega arith)) (two_stores l (number_bytes big 2 (length m)) m at 2 (length_number_bytes 2 (length m)))

pub trailer_stores : (f : Form) (l l1 l2 l3 : List ℕ) (to at n v : ℕ) → l1 ≡ sets l to (number_bytes big 4 at)
    → l2 ≡ sets l1 (to + 4) (number_bytes big 2 n)
    → v ≡ form_number f
    → l3 ≡ sets l2 (to + 6) (number_bytes big 2 v)
    → l3 ≡ sets l to (trailer_bytes f at n)
unfolding trailer_bytes
trailer_stores f l l1 l2 l3 to at n v e1 e2 ev e3 =
    let s : to + 6 ≡ to + 4 + 2 = omega arith in
    e3
    ∙ rw (e2, e1, s, ev)
    (three_stores l (number_bytes big 4 at) (number_bytes big 2 n) (number_bytes big 2 (form_number f)) to 4 2
    (length_number_bytes 4 at) (length_number_bytes 2 n))

-- ---- what adding and closing come to, as the code finds it

-- a refused call, and one that stores
pub when_refused : (old : List ℕ) (told : ℕ) {o : Outcome} {v : Verdict} {r : Result ℕ Verdict} → o ≡ refused v → r ≡ Err v
    → (kept_as r ≡ kept_by told o) × (old ≡ file_by old told o)
when_refused old told e k = (ap kept_as k ∙ rw e, rw e)

pub when_stores : (old : List ℕ) (told : ℕ) {o : Outcome} {xs : List ℕ} {r : Kept} {new : List ℕ} → o ≡ stores xs
    → r ≡ kept_by told (stores xs) → new ≡ sets old told xs → (r ≡ kept_by told o) × (new ≡ file_by old told o)
when_stores old told e k n = (k ∙ rw e, n ∙ rw e)

module _ (old : List ℕ) (told : ℕ) where
  abbrev found : List (List ℕ)
  found = listed (messages_to old told)

  -- 52
  module _ (torn : None ≡ walked_from 0 (messages_to old told)) where
    not_found : messages_to old told ≡ none
    not_found = walked_none (messages_to old told) torn

    pub add_records : (m : List ℕ) → adding old told m ≡ refused Records
    unfolding adding
    add_records m = rw not_found

    pub close_records : closing old told ≡ refused Records
    unfolding closing
    close_records = rw not_found

  module _ (count : ℕ) (walked : Some count ≡ walked_from 0 (messages_to old told)) where
    found_is : messages_to old told ≡ some found
    found_is = (walked_some (messages_to old told) count walked).0

    count_is : count ≡ length found
    count_is = (walked_some (messages_to old told) count walked).1

    -- so few that one more is no wrap
    pub count_few : count ≤ told
    count_few = omega (arith, count_is, told_few old told found found_is)

    -- 53
    pub add_no_message : (m : List ℕ) → message_fits m ≡ false → adding old told m ≡ refused NoMessage
    unfolding adding
    add_no_message m e = rw (found_is, e)

    -- 50, or the record
    module _ (m : List ℕ) (e : message_fits m ≡ true) where
      adding_by : adding old told m
          ≡ pick (is_full written (length old) (told + record_size m) (count + 1)) (refused Full) (stores (record_bytes m))
      unfolding adding
      adding_by = let n : count + 1 ≡ suc (length found) = omega (arith, count_is) in rw (found_is, e, n)

      pub add_full_lem : is_full written (length old) (told + record_size m) (count + 1) ≡ true → adding old told m ≡ refused Full
      add_full_lem h = adding_by ∙ rw h

      pub add_over : limit written < told → adding old told m ≡ refused Full
      add_over h = add_full_lem (sym (full_size written (length old) (told + record_size m) (count + 1) (omega arith)))

      pub add_stores : is_full written (length old) (told + record_size m) (count + 1) ≡ false → adding old told m ≡ stores (record_bytes m)
      add_stores h = adding_by ∙ rw h

    -- 50, or index and trailer
    closing_by : closing old told ≡ pick (is_full written (length old) told count) (refused Full) (stores (closing_bytes written found))
    unfolding closing
    closing_by = rw (found_is, count_is)

    pub close_full_lem : is_full written (length old) told count ≡ true → closing old told ≡ refused Full
    close_full_lem h = closing_by ∙ rw h

    pub close_stores : is_full written (length old) told count ≡ false → closing old told ≡ stores (closing_bytes written found)
    close_stores h = closing_by ∙ rw h

    pub index_room : is_full written (length old) told count ≡ false
        → (is_whole (messages_to old told) ≡ true) × (told + entry_size written * length found ≤ length old)
    index_room h = (rw found_is, omega (arith, count_is, not_full written (length old) told count h))

    records_size : AreBytes old → length (records_bytes found) ≡ told
    records_size b = told_size old told found (cut_records old told found found_is b)

    module _ {e : ℕ} (ee : e ≡ entry_size written) where
      pub closing_stores : AreBytes old → {l1 l2 : List ℕ} → l1 ≡ sets old told (index_bytes written 0 found)
          → l2 ≡ sets l1 (told + e * count) (trailer_bytes written told count)
          → l2 ≡ sets old told (closing_bytes written found)
      unfolding closing_bytes
      closing_stores b e1 e2 =
          e2
          ∙ rw (e1, ee, count_is, records_size b)
          (two_stores old (index_bytes written 0 found) (trailer_bytes written told (length found)) told (entry_size written * length found)
          (length_index written 0 found))

      pub closed_size : record { verdict = Accepted; size = told + e * count + trailer_len }
          ≡ kept_by told (stores (closing_bytes written found))
      closed_size =
          let n : told + e * count + trailer_len ≡ told + length (closing_bytes written found) =
          rw ee (omega (arith, count_is, length_closing written found)) in
          ap (λ k. record { verdict = Accepted; size = k }) n

      -- the whole fits, and no sum wraps
      module _ (h : is_full written (length old) told count ≡ false) where
        pub closing_few : told + e * count + trailer_len ≤ limit written
        closing_few = rw ee (not_full written (length old) told count h).1

        pub trailer_room : {l1 : List ℕ} → l1 ≡ sets old told (index_bytes written 0 found) → told + e * count + trailer_len ≤ length l1
        trailer_room e1 =
            rw (e1, length-sets old told (index_bytes written 0 found), ee) (not_full written (length old) told count h).0

pub added_size : (told : ℕ) (m : List ℕ) → record { verdict = Accepted; size = told + record_size m } ≡ kept_by told (stores (record_bytes m))
added_size told m = rw (length_record m)
