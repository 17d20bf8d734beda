-- Reading the n-th message and finding the first of a Session ID: the part of the file is the message.
-- Assumes nothing.
use mathlib.Core.Path.{◌≡◌, refl, sym, ap, subst}
use Prim.Native.Nat.{ℕ, zero, suc, ◌+◌, ◌-◌, ◌≤◌, ◌<◌}
use native.Mathlib.Omega.{arith}
use mathlib.Core.Bool.{Bool, true, false}
use mathlib.Core.Logic.{◌⊎◌, inl, inr}
use mathlib.Core.List.{List, [], ◌∷◌}
use lib.ListN.{length}
use lib.Dec.{ltb, eqb}
use borrow.Author.Tests.{lt-ltb, ltb-true, ltb-false, eqb-true, eqb-false}
use Rattle.wire.specs.Choose.{pick}
use Rattle.wire.specs.Header.{session_of}
use Rattle.wire.specs.Part.{part}
use Rattle.archive.specs.declared.verdict.Verdict.TheVariants.{Accepted, NoRecord}
use Rattle.archive.specs.declared.form.Form.{Form}
use Rattle.archive.specs.declared.find.Found.{Found}
use Rattle.archive.specs.Form.{file_of}
use Rattle.archive.specs.Opening.{Archive, refused, holds, archive_of, opening_by}
use Rattle.archive.specs.Finding.{message_at, offset_at, none_found, nth, reading_by, counted, first_of, finding_by}
use Rattle.archive.specs.Promises.{ReadLaw, ReadsNth, FirstWith, FindLaw, FindsFirst, RefusesAsOpening}
use Rattle.archive.proofs.VerdictLaws.{refusal}
use Rattle.archive.proofs.PlaceLaws.{part_message}
use Rattle.archive.proofs.AcceptLaws.{held_is}

-- ---- reading

not_both : NoRecord ≡ Accepted → ⊥
not_both = refusal NoRecord (omega arith)

-- the answer that is the message behind i others
abbrev shown : List (List ℕ) → ℕ → Found
shown ms i = record { verdict = Accepted; number = suc i; message = part (offset_at ms i + 2) (length (message_at ms i)) }

module _ (file : List ℕ) (f : Form) (ms : List (List ℕ)) where
  over : (n : ℕ) → (n ≡ 0) ⊎ (length ms < n) → 0 < n → n ≤ length ms → ⊥
  over n (inl e) a b = omega arith
  over n (inr e) a b = omega arith

  read_none : (n : ℕ) → (n ≡ 0) ⊎ (length ms < n) → ReadLaw file ms n (none_found NoRecord)
  read_none n o = record {
    given = (λ e. absurd (not_both e), λ (a, b). absurd (over n o a b));
    none = (λ _. o, λ _. refl);
    shows = λ e. absurd (not_both e);
    refuses = λ _. refl;
  }

  read_one : file ≡ file_of f ms → (i : ℕ) → i < length ms → ReadLaw file ms (suc i) (shown ms i)
  read_one is i h =
      let back : suc i - 1 ≡ i = omega arith in
      record {
        given = (λ _. (omega arith, omega arith), λ _. refl);
        none = (λ e. absurd (not_both (sym e)), λ o. absurd (over (suc i) o (omega arith) (omega arith)));
        shows = λ _. (refl, rw back, rw (back, is) (part_message f ms i h));
        refuses = λ e. absurd (not_both (sym e));
      }

  read_law : file ≡ file_of f ms → (n : ℕ) → ReadLaw file ms n (nth ms n)
  read_law is zero = read_none 0 (inl refl)
  read_law is (suc i) = go (ltb i (length ms)) refl
    where
      go : (c : Bool) → ltb i (length ms) ≡ c → ReadLaw file ms (suc i) (pick c (shown ms i) (none_found NoRecord))
      go true e = read_one is i (ltb-true i (length ms) e)
      go false e = read_none (suc i) (inr (omega (arith, ltb-false i (length ms) e)))

pub reads_nth : ReadsNth
reads_nth file f ms n e = rw e (read_law file f ms (held_is file f ms e).0 n)

-- ---- finding

module _ (session : ℕ) where
  abbrev Has : List (List ℕ) → ℕ → Type 0
  Has ms i = session_of (message_at ms i) ≡ session

  -- the number of the first message with the Session ID, 0 where none has it
  data First (ms : List (List ℕ)) : ℕ → Type 0 where
    no_first : ((i : ℕ) → i < length ms → Has ms i → ⊥) → First ms 0
    is_first : (i : ℕ) → i < length ms → Has ms i → ((j : ℕ) → j < i → Has ms j → ⊥) → First ms (suc i)

  first_is : (ms : List (List ℕ)) → First ms (first_of session ms)
  unfolding first_of
  first_is [] = no_first (λ i h e. omega arith)
  first_is (m ∷ ms) = go (eqb (session_of m) session) refl (first_of session ms) (first_is ms)
    where
      go : (c : Bool) → eqb (session_of m) session ≡ c → (k : ℕ) → First ms k → First (m ∷ ms) (pick c 1 (counted k))
      go true e k w = is_first 0 (omega arith) (eqb-true _ _ e) (λ j h. absurd (omega arith))
      go false e k (no_first n) = no_first none
        where
          none : (i : ℕ) → i < suc (length ms) → Has (m ∷ ms) i → ⊥
          none zero h q = eqb-false _ _ e q
          none (suc j) h q = n j (omega arith) q
      go false e k (is_first i h has none) = is_first (suc i) (omega arith) has earlier
        where
          earlier : (j : ℕ) → j < suc i → Has (m ∷ ms) j → ⊥
          earlier zero l q = eqb-false _ _ e q
          earlier (suc j) l q = none j (omega arith) q

  module _ (ms : List (List ℕ)) where
    first_with : (i : ℕ) → i < length ms → Has ms i → ((j : ℕ) → j < i → Has ms j → ⊥) → FirstWith session ms (suc i)
    first_with i h has none =
        let back : suc i - 1 ≡ i = omega arith in
        record { least = omega arith; most = omega arith; has = rw back has; no_earlier = λ j l. none j (omega arith) }

    -- there is one first
    first_one : (n k : ℕ) → FirstWith session ms n → FirstWith session ms k → n ≡ k
    first_one n k a b = go (ltb n k) (ltb k n) refl refl
      where
        go : (c d : Bool) → ltb n k ≡ c → ltb k n ≡ d → n ≡ k
        go true d ec ed = absurd (b.no_earlier (n - 1) (omega (arith, a.least, ltb-true n k ec)) a.has)
        go false true ec ed = absurd (a.no_earlier (k - 1) (omega (arith, b.least, ltb-true k n ed)) b.has)
        go false false ec ed = omega (arith, ltb-false n k ec, ltb-false k n ed)

    find_law : (file : List ℕ) (f : Form) → file ≡ file_of f ms → (k : ℕ) → First ms k → FindLaw file ms session (nth ms k)
    find_law file f is k (no_first none) =
        record {
          given = λ n. (λ (e, _). absurd (not_both e), λ w. absurd (none (n - 1) (omega (arith, w.least, w.most)) w.has));
          none = (λ _. none, λ _. refl);
          shows = λ e. absurd (not_both e);
          refuses = λ _. refl;
        }
    find_law file f is k (is_first i h has none) =
        let first = first_with i h has none in
        rw (lt-ltb i (length ms) h)
        (record {
          given = λ n. (λ (_, e). subst (FirstWith session ms) e first, λ w. (refl, first_one (suc i) n first w));
          none = (λ e. absurd (not_both (sym e)), λ n. absurd (n i h has));
          shows = λ e. let s = (read_one file f ms is i h).shows refl in (s.1, s.2);
          refuses = λ e. absurd (not_both (sym e));
        })

pub finds_first : FindsFirst
finds_first file f ms session e = rw e (find_law session ms file f (held_is file f ms e).0 (first_of session ms) (first_is session ms))

-- ---- refusals

pub refuses_as_opening : RefusesAsOpening
refuses_as_opening file v n session = go (archive_of file)
  where
    go : (a : Archive) → (opening_by a).verdict ≡ v → (v ≡ Accepted → ⊥) → (reading_by n a ≡ none_found v) × (finding_by session a ≡ none_found v)
    go (refused u) e not = (ap none_found e, ap none_found e)
    go (holds f ms) e not = absurd (not (sym e))
