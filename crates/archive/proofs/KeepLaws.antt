-- When adding and closing have each verdict, and what they leave in the file.
-- Assumes nothing.
use mathlib.Core.Path.{◌≡◌, refl, sym, ap, subst, ◌∙◌}
use Prim.Native.Nat.{ℕ, suc, ◌+◌, ◌≤◌}
use native.Mathlib.Omega.{arith}
use mathlib.Core.Bool.{Bool, true, false, true≢false}
use mathlib.Core.Option.{Option, none, some, none-ne-some}
use mathlib.Core.List.{List, [], ◌∷◌, ◌++◌, append_assoc}
use lib.ListN.{length, take, drop, length-append}
use lib.Seq.{sets, sets-eq, length-sets, length-take-le, take_at, drop_at}
use borrow.Author.Tests.{le-ltb}
use Rattle.wire.specs.Choose.{pick}
use Rattle.wire.specs.Number.{AreBytes}
use Rattle.archive.specs.declared.verdict.Verdict.{Verdict}
use Rattle.archive.specs.declared.verdict.Verdict.TheVariants.{Accepted, Full, Trailer, Records, NoMessage, NoRecord}
use Rattle.archive.specs.Form.{written, message_fits, record_bytes, record_size, records_bytes, closing_bytes, file_of, file_size}
use Rattle.archive.specs.Records.{messages_to}
use Rattle.archive.specs.Adding.{Outcome, refused, stores, is_full, adding_to, adding, closing_to, closing, kept_by, file_by}
use Rattle.archive.specs.Promises.{
  RecordsTo,
  Fits,
  AddedWhen,
  ClosedWhen,
  AddVerdicts,
  CloseVerdicts,
  AddWrites,
  CloseWrites,
  ChangeLaw,
  AddChanges,
  CloseChanges,
}
use Rattle.archive.proofs.VerdictLaws.{refusal}
use Rattle.archive.proofs.RecordLaws.{length_record, length_closing, length_file, records_append}
use Rattle.archive.proofs.LeftLaws.{told_size, records_cut, cut_records}
use Rattle.archive.proofs.AddLaws.{not_full}

-- ---- room

module _ (file : List ℕ) (told : ℕ) (ms : List (List ℕ)) (r : RecordsTo file told ms) where
  -- the size of the file of these messages and one more
  more_size : (m : List ℕ) → length (file_of written (ms ++ (m ∷ []))) ≡ file_size written (told + record_size m) (suc (length ms))
  unfolding records_bytes
  more_size m =
      omega (
        arith,
        length_file written (ms ++ (m ∷ [])),
        length-append ms (m ∷ []),
        ap length (records_append ms (m ∷ [])),
        length-append (records_bytes ms) (record_bytes m ++ []),
        length-append (record_bytes m) [],
        length_record m,
        told_size file told ms r,
      )

  same_size : length (file_of written ms) ≡ file_size written told (length ms)
  same_size = length_file written ms ∙ rw (told_size file told ms r)

module _ (file : List ℕ) (ns : List (List ℕ)) (size n : ℕ) (e : length (file_of written ns) ≡ file_size written size n) where
  -- the size as the definition has it
  abbrev z : ℕ
  z = file_size written size n

  full_fits : is_full written (length file) size n ≡ false → Fits file ns
  full_fits h =
      let b = not_full written (length file) size n h in
      record { in_file = rw e b.0; in_limit = rw e b.1 }

  fits_room : Fits file ns → is_full written (length file) size n ≡ false
  unfolding is_full
  fits_room h = rw (le-ltb (length file) z (rw (← e) h.in_file), le-ltb 65535 z (rw (← e) h.in_limit))

-- ---- the verdicts of adding

module _ (file : List ℕ) (told : ℕ) (m : List ℕ) where
  -- the messages with one more, and whether they don't fit
  abbrev more : List (List ℕ) → List (List ℕ)
  more ms = ms ++ (m ∷ [])

  abbrev add_full : List (List ℕ) → Bool
  add_full ms = is_full written (length file) (told + record_size m) (suc (length ms))

  add_fits : (ms : List (List ℕ)) → RecordsTo file told ms → add_full ms ≡ false → Fits file (more ms)
  add_fits ms r = full_fits file (more ms) (told + record_size m) (suc (length ms)) (more_size file told ms r m)

  add_room : (ms : List (List ℕ)) → RecordsTo file told ms → Fits file (more ms) → add_full ms ≡ false
  add_room ms r = fits_room file (more ms) (told + record_size m) (suc (length ms)) (more_size file told ms r m)

  added_given : AreBytes file → (v : Verdict) → (kept_by told (adding file told m)).verdict ≡ v → AddedWhen file told m v
  unfolding adding
  added_given b v = go (messages_to file told) refl
    where
      room : (ms : List (List ℕ)) → RecordsTo file told ms → message_fits m ≡ true → (c : Bool) → add_full ms ≡ c
          → (kept_by told (pick c (refused Full) (stores (record_bytes m)))).verdict ≡ v → AddedWhen file told m v
      room ms r h true ec e = subst (AddedWhen file told m) e (ms, r, h, λ f. true≢false (sym ec ∙ add_room ms r f))
      room ms r h false ec e = subst (AddedWhen file told m) e (ms, r, h, add_fits ms r ec)

      message : (ms : List (List ℕ)) → RecordsTo file told ms → (c : Bool) → message_fits m ≡ c
          → (kept_by told (pick c (pick (add_full ms) (refused Full) (stores (record_bytes m))) (refused NoMessage))).verdict ≡ v
          → AddedWhen file told m v
      message ms r true ec e = room ms r ec (add_full ms) refl e
      message ms r false ec e = subst (AddedWhen file told m) e (ms, r, ec)

      go : (o : Option (List (List ℕ))) → messages_to file told ≡ o → (kept_by told (adding_to file told m o)).verdict ≡ v
          → AddedWhen file told m v
      go none eo e = subst (AddedWhen file told m) e (λ ms r. none-ne-some ms (sym eo ∙ records_cut file told ms r))
      go (some ms) eo e = message ms (cut_records file told ms eo b) (message_fits m) refl e

  -- an added record
  pub add_stores : (ms : List (List ℕ)) → RecordsTo file told ms → message_fits m ≡ true → Fits file (more ms)
      → adding file told m ≡ stores (record_bytes m)
  unfolding adding
  add_stores ms r h f = rw (records_cut file told ms r, h, add_room ms r f)

  added_gives : AreBytes file → (v : Verdict) → AddedWhen file told m v → (kept_by told (adding file told m)).verdict ≡ v
  unfolding adding
  added_gives b Accepted (ms, r, h, f) = rw (add_stores ms r h f)
  added_gives b Records n = go (messages_to file told) refl
    where
      go : (o : Option (List (List ℕ))) → messages_to file told ≡ o → (kept_by told (adding_to file told m o)).verdict ≡ Records
      go none e = refl
      go (some ms) e = absurd (n ms (cut_records file told ms e b))
  added_gives b NoMessage (ms, r, h) = rw (records_cut file told ms r, h)
  added_gives b Full (ms, r, h, n) = rw (records_cut file told ms r, h) (go (add_full ms) refl)
    where
      go : (c : Bool) → add_full ms ≡ c → (kept_by told (pick c (refused Full) (stores (record_bytes m)))).verdict ≡ Full
      go true e = refl
      go false e = absurd (n (add_fits ms r e))
  added_gives b Trailer w = absurd w
  added_gives b NoRecord w = absurd w

pub add_verdicts : AddVerdicts
add_verdicts file told m v b = (added_given file told m b v, added_gives file told m b v)

-- ---- the verdicts of closing

module _ (file : List ℕ) (told : ℕ) where
  abbrev close_full : List (List ℕ) → Bool
  close_full ms = is_full written (length file) told (length ms)

  close_fits : (ms : List (List ℕ)) → RecordsTo file told ms → close_full ms ≡ false → Fits file ms
  close_fits ms r = full_fits file ms told (length ms) (same_size file told ms r)

  close_room : (ms : List (List ℕ)) → RecordsTo file told ms → Fits file ms → close_full ms ≡ false
  close_room ms r = fits_room file ms told (length ms) (same_size file told ms r)

  closed_given : AreBytes file → (v : Verdict) → (kept_by told (closing file told)).verdict ≡ v → ClosedWhen file told v
  unfolding closing
  closed_given b v = go (messages_to file told) refl
    where
      room : (ms : List (List ℕ)) → RecordsTo file told ms → (c : Bool) → close_full ms ≡ c
          → (kept_by told (pick c (refused Full) (stores (closing_bytes written ms)))).verdict ≡ v → ClosedWhen file told v
      room ms r true ec e = subst (ClosedWhen file told) e (ms, r, λ f. true≢false (sym ec ∙ close_room ms r f))
      room ms r false ec e = subst (ClosedWhen file told) e (ms, r, close_fits ms r ec)

      go : (o : Option (List (List ℕ))) → messages_to file told ≡ o → (kept_by told (closing_to file told o)).verdict ≡ v
          → ClosedWhen file told v
      go none eo e = subst (ClosedWhen file told) e (λ ms r. none-ne-some ms (sym eo ∙ records_cut file told ms r))
      go (some ms) eo e = room ms (cut_records file told ms eo b) (close_full ms) refl e

  -- a closed file
  pub close_stores : (ms : List (List ℕ)) → RecordsTo file told ms → Fits file ms → closing file told ≡ stores (closing_bytes written ms)
  unfolding closing
  close_stores ms r f = rw (records_cut file told ms r, close_room ms r f)

  closed_gives : AreBytes file → (v : Verdict) → ClosedWhen file told v → (kept_by told (closing file told)).verdict ≡ v
  unfolding closing
  closed_gives b Accepted (ms, r, f) = rw (close_stores ms r f)
  closed_gives b Records n = go (messages_to file told) refl
    where
      go : (o : Option (List (List ℕ))) → messages_to file told ≡ o → (kept_by told (closing_to file told o)).verdict ≡ Records
      go none e = refl
      go (some ms) e = absurd (n ms (cut_records file told ms e b))
  closed_gives b Full (ms, r, n) = rw (records_cut file told ms r) (go (close_full ms) refl)
    where
      go : (c : Bool) → close_full ms ≡ c → (kept_by told (pick c (refused Full) (stores (closing_bytes written ms)))).verdict ≡ Full
      go true e = refl
      go false e = absurd (n (close_fits ms r e))
  closed_gives b NoMessage w = absurd w
  closed_gives b Trailer w = absurd w
  closed_gives b NoRecord w = absurd w

pub close_verdicts : CloseVerdicts
close_verdicts file told v b = (closed_given file told b v, closed_gives file told b v)

-- ---- what a call leaves

-- a call that stores `xs`, if it is not refused, stores them within the file
data Stored (room told : ℕ) (xs : List ℕ) : Outcome → Type 0 where
  not_stored : (v : Verdict) → (v ≡ Accepted → ⊥) → Stored room told xs (refused v)
  are_stored : told + length xs ≤ room → Stored room told xs (stores xs)

module _ (file : List ℕ) (told : ℕ) where
  add_stored : (m : List ℕ) → Stored (length file) told (record_bytes m) (adding file told m)
  unfolding adding
  add_stored m = go (messages_to file told)
    where
      room : (ms : List (List ℕ)) (c : Bool) → add_full file told m ms ≡ c
          → Stored (length file) told (record_bytes m) (pick c (refused Full) (stores (record_bytes m)))
      room ms true e = not_stored Full (refusal Full (omega arith))
      room ms false e =
          are_stored (omega (arith, not_full written (length file) (told + record_size m) (suc (length ms)) e, length_record m))

      message : (ms : List (List ℕ)) (c : Bool)
          → Stored (length file) told (record_bytes m)
          (pick c (pick (add_full file told m ms) (refused Full) (stores (record_bytes m))) (refused NoMessage))
      message ms true = room ms (add_full file told m ms) refl
      message ms false = not_stored NoMessage (refusal NoMessage (omega arith))

      go : (o : Option (List (List ℕ))) → Stored (length file) told (record_bytes m) (adding_to file told m o)
      go none = not_stored Records (refusal Records (omega arith))
      go (some ms) = message ms (message_fits m)

  close_stored : (ms : List (List ℕ)) → messages_to file told ≡ some ms
      → Stored (length file) told (closing_bytes written ms) (closing file told)
  unfolding closing
  close_stored ms e = rw e (go (close_full file told ms) refl)
    where
      go : (c : Bool) → close_full file told ms ≡ c
          → Stored (length file) told (closing_bytes written ms) (pick c (refused Full) (stores (closing_bytes written ms)))
      go true ec = not_stored Full (refusal Full (omega arith))
      go false ec = are_stored (omega (arith, not_full written (length file) told (length ms) ec, length_closing written ms))

  close_refused : messages_to file told ≡ none → Stored (length file) told [] (closing file told)
  unfolding closing
  close_refused e = rw e (not_stored Records (refusal Records (omega arith)))

  module _ (xs : List ℕ) where
    -- what is left of the file, part by part
    stored_parts : told + length xs ≤ length file → sets file told xs ≡ take told file ++ (xs ++ drop (told + length xs) file)
    stored_parts h = sets-eq xs file told h ∙ append_assoc (take told file) xs (drop (told + length xs) file)

    writes : (o : Outcome) → Stored (length file) told xs o → (kept_by told o).verdict ≡ Accepted
        → ((kept_by told o).size ≡ told + length xs) × (file_by file told o ≡ take told file ++ (xs ++ drop (told + length xs) file))
    writes o (not_stored v n) e = absurd (n e)
    writes o (are_stored h) e = (refl, stored_parts h)

    change_law : (o : Outcome) → Stored (length file) told xs o → ChangeLaw file told o
    change_law o (not_stored v n) = record { refuses = λ _. (refl, refl); same_length = refl; front = refl; back = refl }
    change_law o (are_stored h) =
        let l : length (take told file) ≡ told = length-take-le told file (omega arith) in
        let lx : length (take told file ++ xs) ≡ told + length xs = length-append (take told file) xs ∙ rw l in
        record {
          refuses = λ n. absurd (n refl);
          same_length = length-sets file told xs;
          front = rw (stored_parts h) (take_at (take told file) (xs ++ drop (told + length xs) file) told l);
          back = rw (sets-eq xs file told h) (drop_at (take told file ++ xs) (drop (told + length xs) file) (told + length xs) lx);
        }

pub add_writes : AddWrites
add_writes file told m e = rw (length_record m) at (writes file told (record_bytes m) (adding file told m) (add_stored file told m) e)

pub add_changes : AddChanges
add_changes file told m = change_law file told (record_bytes m) (adding file told m) (add_stored file told m)

pub close_changes : CloseChanges
close_changes file told = go (messages_to file told) refl
  where
    go : (o : Option (List (List ℕ))) → messages_to file told ≡ o → ChangeLaw file told (closing file told)
    go none e = change_law file told [] (closing file told) (close_refused file told e)
    go (some ms) e = change_law file told (closing_bytes written ms) (closing file told) (close_stored file told ms e)

pub close_writes : CloseWrites
unfolding file_of
close_writes file told ms r e =
    let end = closing_bytes written ms in
    let size = length (records_bytes ms ++ end) in
    let w = writes file told end (closing file told) (close_stored file told ms (records_cut file told ms r)) e in
    let l : told + length end ≡ size = omega (arith, length-append (records_bytes ms) end, told_size file told ms r) in
    (w.0 ∙ l, w.1 ∙ rw (r.records, l) (sym (append_assoc (records_bytes ms) end (drop size file))))
