-- Messages added one by one and the file closed: it opens to them, in order.
-- Assumes nothing.
use mathlib.Core.Path.{◌≡◌, refl, sym, ap, subst, ◌∙◌}
use Prim.Native.Nat.{ℕ, suc, ◌+◌, ◌-◌, ◌≤◌, ◌<◌}
use native.Mathlib.Omega.{arith}
use mathlib.Core.Bool.{true}
use mathlib.Core.List.{List, [], ◌∷◌, ◌++◌, append_assoc, append-nil}
use lib.ListN.{length, take, drop, replicate, length-append, length-take}
use lib.Seq.{take_at, take-take, take-length, drop-drop, drop-length}
use Rattle.wire.specs.Part.{part_of}
use Rattle.archive.specs.declared.verdict.Verdict.{Verdict}
use Rattle.archive.specs.declared.verdict.Verdict.TheVariants.{Accepted}
use Rattle.archive.specs.declared.form.Form.{Form}
use Rattle.archive.specs.declared.add.Kept.{Kept}
use Rattle.archive.specs.Form.{written, message_fits, AreMessages, record_bytes, record_size, records_bytes, file_of}
use Rattle.archive.specs.Adding.{Outcome, adding, closing, kept_by, file_by}
use Rattle.archive.specs.Added.{Added, add_all}
use Rattle.archive.specs.Opening.{holds, archive_of, opening_by}
use Rattle.archive.specs.Finding.{message_at, reading_by}
use Rattle.archive.specs.Promises.{RecordsTo, Fits, AddedLaw, AddedOpens, AddedMore, OpenedMore, ClosedAgain}
use Rattle.archive.proofs.RecordLaws.{length_record, length_file, records_append, messages_append}
use Rattle.archive.proofs.LeftLaws.{told_size}
use Rattle.archive.proofs.FileLaws.{records_in}
use Rattle.archive.proofs.AcceptLaws.{held_is, is_held, open_verdicts}
use Rattle.archive.proofs.ShowLaws.{reads_nth}
use Rattle.archive.proofs.KeepLaws.{add_stores, close_stores, add_writes, add_changes, close_writes}

kept_is : (k : Kept) (v : Verdict) (n : ℕ) → k.verdict ≡ v → k.size ≡ n → k ≡ record { verdict = v; size = n }
kept_is k v n e d = rw (← e, ← d)

-- ---- one call

-- what fits still fits with fewer
fits_fewer : (file : List ℕ) (ms ns : List (List ℕ)) → Fits file (ms ++ ns) → Fits file ms
fits_fewer file ms ns f =
    let less : length (file_of written ms) ≤ length (file_of written (ms ++ ns)) =
    omega (
      arith,
      length_file written ms,
      length_file written (ms ++ ns),
      length-append ms ns,
      ap length (records_append ms ns),
      length-append (records_bytes ms) (records_bytes ns),
    ) in
    record { in_file = omega arith; in_limit = omega arith }

-- the file after a record was added
pub record After (file next : List ℕ) (size : ℕ) (ms : List (List ℕ)) : Type 0 where
  pub whole : RecordsTo next size ms
  pub as_long : length next ≡ length file
  pub behind : drop size next ≡ drop size file

module _ (file : List ℕ) (told : ℕ) (old : List (List ℕ)) (r : RecordsTo file told old) (m : List ℕ)
    (h : message_fits m ≡ true) (f : Fits file (old ++ (m ∷ []))) where
  accepted : kept_by told (adding file told m) ≡ record { verdict = Accepted; size = told + record_size m }
  accepted = rw (add_stores file told m old r h f, length_record m)

  after_one : After file (file_by file told (adding file told m)) (told + record_size m) (old ++ (m ∷ []))
  unfolding records_bytes
  after_one =
      let w = add_writes file told m (rw accepted) in
      let c = add_changes file told m in
      let front = records_bytes old ++ record_bytes m in
      let all : records_bytes (old ++ (m ∷ [])) ≡ front = records_append old (m ∷ []) ∙ rw (append-nil (record_bytes m)) in
      let l : length front ≡ told + record_size m =
      omega (arith, length-append (records_bytes old) (record_bytes m), told_size file told old r, length_record m) in
      let next : file_by file told (adding file told m) ≡ front ++ drop (told + record_size m) file =
      w.1 ∙ rw r.records (sym (append_assoc (records_bytes old) (record_bytes m) (drop (told + record_size m) file))) in
      record {
        whole =
            record {
              inside = omega (arith, c.same_length, f.in_file, length_file written (old ++ (m ∷ [])), ap length all, l);
              records = rw (next, all) (take_at front (drop (told + record_size m) file) (told + record_size m) l);
              messages = messages_append old (m ∷ []) r.messages (h, tt);
            };
        as_long = c.same_length;
        behind = rw w.0 at c.back;
      }

-- ---- all calls

drop_further : (file next : List ℕ) (n k : ℕ) → drop n next ≡ drop n file → n ≤ k → drop k next ≡ drop k file
drop_further file next n k e h =
    let s : n + (k - n) ≡ k = omega arith in
    subst (λ i. drop i next ≡ drop i file) s (sym (drop-drop (k - n) n next) ∙ ap (drop (k - n)) e ∙ drop-drop (k - n) n file)

pub record AllAdded (file : List ℕ) (all : List (List ℕ)) (n : ℕ) (a : Added) : Type 0 where
  pub verdicts_are : a.verdicts ≡ replicate n Accepted
  pub after : After file a.file a.size all

add_all_lem : (ms : List (List ℕ)) (file : List ℕ) (told : ℕ) (old : List (List ℕ)) → RecordsTo file told old → AreMessages ms
    → Fits file (old ++ ms) → AllAdded file (old ++ ms) (length ms) (add_all file told ms)
unfolding add_all
add_all_lem [] file told old r a f =
    record { verdicts_are = refl; after = record { whole = rw (append-nil old) r; as_long = refl; behind = refl } }
add_all_lem (m ∷ ms) file told old r a f =
    let assoc : (old ++ (m ∷ [])) ++ ms ≡ old ++ (m ∷ ms) = append_assoc old (m ∷ []) ms in
    let fits : Fits file ((old ++ (m ∷ [])) ++ ms) = rw assoc f in
    let one = fits_fewer file (old ++ (m ∷ [])) ms fits in
    let k = accepted file told old r m a.0 one in
    let next = after_one file told old r m a.0 one in
    let file1 = file_by file told (adding file told m) in
    let size1 = told + record_size m in
    let old1 = old ++ (m ∷ []) in
    let fits1 : Fits file1 (old1 ++ ms) = record { in_file = rw next.as_long fits.in_file; in_limit = fits.in_limit } in
    let rest = add_all_lem ms file1 size1 old1 next.whole a.1 fits1 in
    let end = add_all file1 size1 ms in
    let grows : size1 ≤ end.size =
    omega (
      arith,
      told_size file1 size1 old1 next.whole,
      told_size end.file end.size (old1 ++ ms) rest.after.whole,
      ap length (records_append old1 ms),
      length-append (records_bytes old1) (records_bytes ms),
    ) in
    rw k
    (record {
      verdicts_are = ap (λ l. Accepted ∷ l) rest.verdicts_are;
      after =
          record {
            whole = rw assoc at rest.after.whole;
            as_long = rest.after.as_long ∙ next.as_long;
            behind = rest.after.behind ∙ drop_further file file1 size1 end.size next.behind grows;
          };
    })

-- ---- closed and opened

module _ (file : List ℕ) (told : ℕ) (old ms : List (List ℕ)) (r : RecordsTo file told old) (are : AreMessages ms)
    (f : Fits file (old ++ ms)) where
  abbrev all : List (List ℕ)
  all = old ++ ms

  abbrev whole : List ℕ
  whole = file_of written all

  abbrev a : Added
  a = add_all file told ms

  abbrev o : Outcome
  o = closing a.file a.size

  added_all : AllAdded file all (length ms) a
  added_all = add_all_lem ms file told old r are f

  closed_fits : Fits a.file all
  closed_fits = record { in_file = rw added_all.after.as_long f.in_file; in_limit = f.in_limit }

  closed_verdict : (kept_by a.size o).verdict ≡ Accepted
  closed_verdict = rw (close_stores a.file a.size all added_all.after.whole closed_fits)

  after_is : file_by a.file a.size o ≡ whole ++ drop (length whole) file
  after_is =
      let w = close_writes a.file a.size all added_all.after.whole closed_verdict in
      let longer : a.size ≤ length whole =
      omega (arith, length_file written all, told_size a.file a.size all added_all.after.whole) in
      w.1 ∙ ap (λ l. whole ++ l) (drop_further file a.file a.size (length whole) added_all.after.behind longer)

  closed_size : (kept_by a.size o).size ≡ length whole
  closed_size = (close_writes a.file a.size all added_all.after.whole closed_verdict).0

  archive_is : take (kept_by a.size o).size (file_by a.file a.size o) ≡ whole
  archive_is = rw (closed_size, after_is) (take_at whole (drop (length whole) file) (length whole) refl)

  added_opens : archive_of (take (kept_by a.size o).size (file_by a.file a.size o)) ≡ holds written all
  added_opens = rw archive_is (is_held whole written all refl (messages_append old ms r.messages are) f.in_limit)

  archive_reads : (i : ℕ) → i < length all
      → part_of (take (kept_by a.size o).size (file_by a.file a.size o))
      (reading_by (suc i) (archive_of (take (kept_by a.size o).size (file_by a.file a.size o)))).message
      ≡ message_at all i
  archive_reads i h =
      let law = reads_nth (take (kept_by a.size o).size (file_by a.file a.size o)) written all (suc i) added_opens in
      let back : suc i - 1 ≡ i = omega arith in
      rw back at (law.shows (law.given.1 (omega arith, omega arith))).2

  added_law : AddedLaw file told old ms
  added_law = record {
    all_accepted = added_all.verdicts_are;
    records_size = sym (told_size a.file a.size all added_all.after.whole);
    closes = kept_is (kept_by a.size o) Accepted (length whole) closed_verdict closed_size;
    file_after = after_is;
    opens = added_opens;
    reads = archive_reads;
  }

pub added_more : AddedMore
added_more = added_law

nothing_told : (file : List ℕ) → RecordsTo file 0 []
unfolding records_bytes
nothing_told file = record { inside = omega arith; records = refl; messages = tt }

pub added_opens_all : AddedOpens
added_opens_all file ms are f = added_law file 0 [] ms (nothing_told file) are f

-- ---- opened and added to

-- an accepted archive that begins a file begins it with its records
archive_records : (file : List ℕ) (k : ℕ) (f : Form) (ms : List (List ℕ)) → archive_of (take k file) ≡ holds f ms
    → RecordsTo file (length (records_bytes ms)) ms
archive_records file k f ms e =
    let told = length (records_bytes ms) in
    let (is, are, few) = held_is (take k file) f ms e in
    let within : told ≤ length (take k file) = omega (arith, ap length is, length_file f ms) in
    record {
      inside = omega (arith, length-take k file);
      records = sym (take-take told k file (omega (arith, length-take k file))) ∙ ap (take told) is ∙ records_in f ms;
      messages = are;
    }

pub opened_more : OpenedMore
opened_more file k told f old ms e is are fits =
    let told_is : told ≡ length (records_bytes old) = is ∙ rw e in
    added_law file told old ms (rw told_is (archive_records file k f old e)) are fits

-- ---- closed again

pub closed_again : ClosedAgain
closed_again file told e size_is =
    let (ms, is, are, few) = (open_verdicts file Accepted).0 e in
    let held = is_held file written ms is are few in
    let told_is : told ≡ length (records_bytes ms) = size_is ∙ ap (λ x. (opening_by x).size) held in
    let all : take (length file) file ≡ file = take-length file in
    let r : RecordsTo file told ms = rw told_is (archive_records file (length file) written ms (rw all held)) in
    let fits : Fits file ms = record { in_file = omega (arith, ap length is); in_limit = omega (arith, ap length is) } in
    let accepted-again : (kept_by told (closing file told)).verdict ≡ Accepted = rw (close_stores file told ms r fits) in
    let w = close_writes file told ms r accepted-again in (
      kept_is (kept_by told (closing file told)) Accepted (length file) accepted-again (w.0 ∙ sym (ap length is)),
      w.1 ∙ rw (← is, drop-length file) (append-nil file),
    )
