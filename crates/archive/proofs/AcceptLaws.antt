-- What opening a file comes to: one of three outcomes, each exactly when the promise says so.
-- Assumes nothing.
use mathlib.Core.Path.{◌≡◌, refl, sym, ap, subst, ◌∙◌}
use Prim.Native.Nat.{ℕ, ◌+◌, ◌-◌, ◌*◌, ◌≤◌}
use native.Mathlib.Omega.{arith}
use mathlib.Core.Bool.{Bool, true, false}
use mathlib.Core.Logic.{inl, inr}
use mathlib.Core.Option.{Option, none, some, none-ne-some}
use mathlib.Core.List.{List}
use lib.ListN.{length}
use lib.Dec.{ltb}
use borrow.Author.Tests.{ltb-true, ltb-false}
use Rattle.wire.specs.Choose.{pick, or}
use Rattle.archive.specs.declared.verdict.Verdict.{Verdict}
use Rattle.archive.specs.declared.verdict.Verdict.TheVariants.{Accepted, Full, Trailer, Records, NoMessage, NoRecord}
use Rattle.archive.specs.declared.form.Form.{Form}
use Rattle.archive.specs.declared.form.Form.TheVariants.{One}
use Rattle.archive.specs.Form.{form_of, limit, written, AreMessages, file_of}
use Rattle.archive.specs.Records.{messages_to}
use Rattle.archive.specs.Opening.{
  trailer_at,
  index_at,
  entries_in,
  form_in,
  Archive,
  refused,
  holds,
  same,
  checked,
  outgrows,
  open_as,
  archive_of,
  opening_by,
}
use Rattle.archive.specs.Promises.{AcceptedExactly, NoTrailer, OpenedWhen, OpenVerdicts, OpenLaw, OpenAnswers}
use Rattle.archive.proofs.FormLaws.{form_of_lem, form_back, one_form}
use Rattle.archive.proofs.LeftLaws.{told_messages}
use Rattle.archive.proofs.SameLaws.{same_is}
use Rattle.archive.proofs.FileLaws.{file_form, file_holds}

-- the three outcomes
data Opens (file : List ℕ) : Archive → Type 0 where
  no_trailer : NoTrailer file → Opens file (refused Trailer)
  no_records : (NoTrailer file → ⊥) → ((f : Form) (ms : List (List ℕ)) → AreMessages ms → file ≡ file_of f ms → ⊥)
      → Opens file (refused Records)
  opened : (NoTrailer file → ⊥) → (f : Form) (ms : List (List ℕ)) → file ≡ file_of f ms → AreMessages ms → length file ≤ limit f
      → Opens file (holds f ms)

module _ (file : List ℕ) where
  -- the last test of 51, and what is left then
  abbrev past : Bool
  past = ltb (trailer_at file) (index_at file + 4 * entries_in file)

  abbrev found : Option (List (List ℕ))
  found = messages_to file (index_at file)

  has_trailer : 8 ≤ length file → form_in file ≡ 1 → length file ≤ 65535 → index_at file + 4 * entries_in file ≤ length file - 8
      → NoTrailer file → ⊥
  has_trailer a b c d (inl x) = omega arith
  has_trailer a b c d (inr (inl x)) = x b
  has_trailer a b c d (inr (inr (inl x))) = omega arith
  has_trailer a b c d (inr (inr (inr x))) = omega arith

  module _ (f : Form) (form : form_of (form_in file) ≡ some f) (few : length file ≤ limit f) where
    -- a file of a form that isn't accepted is that of no messages
    of_none : archive_of file ≡ refused Records → (g : Form) (ms : List (List ℕ)) → AreMessages ms → file ≡ file_of g ms → ⊥
    of_none e g ms are is =
        let other : form_of (form_in file) ≡ some g = ap form_of (ap form_in is ∙ file_form g ms) ∙ form_of_lem g in
        let ef : f ≡ g = cc in
        let h : archive_of (file_of g ms) ≡ holds g ms = file_holds g ms are (rw (← is, ← ef) few) in
        let z : ◌≡◌ {A = ℕ} 0 1 = cc in
        omega arith

    checked_opens : (NoTrailer file → ⊥) → archive_of file ≡ checked file f found → Opens file (checked file f found)
    checked_opens has = go found refl
      where
        by : (ms : List (List ℕ)) → AreMessages ms → (b : Bool) → same file (file_of f ms) ≡ b
            → archive_of file ≡ pick b (holds f ms) (refused Records) → Opens file (pick b (holds f ms) (refused Records))
        by ms are true eb e = opened has f ms (same_is file (file_of f ms) eb) are few
        by ms are false eb e = no_records has (of_none e)

        go : (r : Option (List (List ℕ))) → found ≡ r → archive_of file ≡ checked file f r → Opens file (checked file f r)
        go none er e = no_records has (of_none e)
        go (some ms) er e = by ms (told_messages file (index_at file) ms er) (same file (file_of f ms)) refl e

  opens : Opens file (archive_of file)
  unfolding archive_of outgrows
  opens = short (ltb (length file) 8) refl refl
    where
      ends : 8 ≤ length file → form_in file ≡ 1 → length file ≤ 65535 → (b : Bool) → past ≡ b
          → archive_of file ≡ pick b (refused Trailer) (checked file One found)
          → Opens file (pick b (refused Trailer) (checked file One found))
      ends l n few true eb e = no_trailer (inr (inr (inr (ltb-true _ _ eb))))
      ends l n few false eb e = checked_opens One (ap form_of n) few (has_trailer l n few (ltb-false _ _ eb)) e

      long : 8 ≤ length file → form_in file ≡ 1 → (b : Bool) → ltb 65535 (length file) ≡ b
          → archive_of file ≡ pick (or b past) (refused Trailer) (checked file One found)
          → Opens file (pick (or b past) (refused Trailer) (checked file One found))
      long l n true eb e = no_trailer (inr (inr (inl (ltb-true _ _ eb))))
      long l n false eb e = ends l n (ltb-false _ _ eb) past refl e

      other : 8 ≤ length file → (o : Option Form) → form_of (form_in file) ≡ o → archive_of file ≡ open_as file o → Opens file (open_as file o)
      other l (some One) eo e = long l (form_back (form_in file) One eo) (ltb 65535 (length file)) refl e
      other l none eo e = no_trailer (inr (inl (λ n. none-ne-some One (sym eo ∙ ap form_of n))))

      short : (b : Bool) → ltb (length file) 8 ≡ b
          → archive_of file ≡ pick b (refused Trailer) (open_as file (form_of (form_in file)))
          → Opens file (pick b (refused Trailer) (open_as file (form_of (form_in file))))
      short true eb e = no_trailer (inl (ltb-true _ _ eb))
      short false eb e = other (ltb-false _ _ eb) (form_of (form_in file)) refl e

-- ---- the promises

module _ (file : List ℕ) where
  -- messages that are held are those of the file
  pub held_is : (f : Form) (ms : List (List ℕ)) → archive_of file ≡ holds f ms
      → (file ≡ file_of f ms) × AreMessages ms × (length file ≤ limit f)
  held_is f ms = go (archive_of file) (opens file)
    where
      go : (a : Archive) → Opens file a → a ≡ holds f ms → (file ≡ file_of f ms) × AreMessages ms × (length file ≤ limit f)
      go a (no_trailer x) e = absurd (let z : ◌≡◌ {A = ℕ} 0 1 = cc in omega arith)
      go a (no_records x y) e = absurd (let z : ◌≡◌ {A = ℕ} 0 1 = cc in omega arith)
      go a (opened has g ns is are few) e =
          let ef : g ≡ f = cc in
          let em : ns ≡ ms = cc in
          (rw (← ef, ← em) is, rw (← em) are, rw (← ef) few)

  pub is_held : (f : Form) (ms : List (List ℕ)) → file ≡ file_of f ms → AreMessages ms → length file ≤ limit f → archive_of file ≡ holds f ms
  is_held f ms is are few = rw is (file_holds f ms are (rw (← is) few))

  -- when opening has each verdict
  given : (v : Verdict) → (opening_by (archive_of file)).verdict ≡ v → OpenedWhen file v
  given v = go (archive_of file) (opens file)
    where
      go : (a : Archive) → Opens file a → (opening_by a).verdict ≡ v → OpenedWhen file v
      go a (no_trailer x) e = subst (OpenedWhen file) e x
      go a (no_records x y) e = subst (OpenedWhen file) e (x, y written)
      go a (opened has f ms is are few) e =
          let w : f ≡ written = one_form f in
          subst (OpenedWhen file) e (ms, rw w at is, are, rw w at few)

  gives : (v : Verdict) → OpenedWhen file v → (opening_by (archive_of file)).verdict ≡ v
  gives Accepted (ms, is, are, few) = rw (is_held written ms is are few)
  gives Trailer x = go (archive_of file) (opens file)
    where
      go : (a : Archive) → Opens file a → (opening_by a).verdict ≡ Trailer
      go a (no_trailer t) = refl
      go a (no_records has n) = absurd (has x)
      go a (opened has f ms is are few) = absurd (has x)
  gives Records (has, n) = go (archive_of file) (opens file)
    where
      go : (a : Archive) → Opens file a → (opening_by a).verdict ≡ Records
      go a (no_trailer t) = absurd (has t)
      go a (no_records h m) = refl
      go a (opened h f ms is are few) = absurd (n ms are (is ∙ rw (one_form f)))
  gives Full w = absurd w
  gives NoMessage w = absurd w
  gives NoRecord w = absurd w

  answers : OpenLaw file
  answers = record { accepts = λ f ms e. ap opening_by e; refuses = go (archive_of file) }
    where
      go : (a : Archive) → ((opening_by a).verdict ≡ Accepted → ⊥) → ((opening_by a).size ≡ 0) × ((opening_by a).entries ≡ 0)
      go (refused v) n = (refl, refl)
      go (holds f ms) n = absurd (n refl)

pub accepted_exactly : AcceptedExactly
accepted_exactly file f ms = (held_is file f ms, λ h. is_held file f ms h.0 h.1 h.2)

pub open_verdicts : OpenVerdicts
open_verdicts file v = (given file v, gives file v)

pub open_answers : OpenAnswers
open_answers = answers
