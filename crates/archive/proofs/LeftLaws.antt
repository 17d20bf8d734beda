-- Whole records from a place on, one by one, and what the walk over them answers.
-- Assumes nothing.
use mathlib.Core.Path.{◌≡◌, refl, sym, ap, ◌∙◌}
use mathlib.Core.Bool.{Bool, true, false}
use mathlib.Core.Option.{Option, none, some}
use mathlib.Core.List.{List, ◌∷◌}
use Prim.Native.Nat.{ℕ, suc, ◌+◌, ◌-◌, ◌≤◌, ◌<◌}
use native.Mathlib.Omega.{arith}
use lib.ListN.{length, take}
use lib.Seq.{slice, length-slice, length-take-le}
use lib.Dec.{leb}
use borrow.Author.Tests.{le-leb, leb-true}
use Rattle.wire.specs.Choose.{pick}
use Rattle.wire.specs.Number.{AreBytes}
use Rattle.wire.proofs.NumberLaws.{bytes_take}
use Rattle.std.specs.Prelude.{Some, None}
use Rattle.std.proofs.lemmas.Option.{same_Some}
use Rattle.archive.specs.Form.{AreMessages, records_bytes}
use Rattle.archive.specs.Records.{message_in, record_fits, before, cut_all, messages_in, messages_to}
use Rattle.archive.specs.Walking.{cut_size, walked_from, is_whole, listed}
use Rattle.archive.specs.Promises.{RecordsTo}
use Rattle.archive.proofs.RecordLaws.{turns_enough, cut_back, cut_messages, cut_few, cut_is}
use Rattle.archive.proofs.WalkLaws.{cut_none, cut_sized, cut_more}

-- ---- whole or not

whole_none : (r : Option (List (List ℕ))) → is_whole r ≡ false → r ≡ none
whole_none none e = refl
whole_none (some ms) e = cc

whole_some : (r : Option (List (List ℕ))) → is_whole r ≡ true → r ≡ some (listed r)
whole_some none e = cc
whole_some (some ms) e = refl

-- as the walk over them answers
pub walked_none : (r : Option (List (List ℕ))) → None ≡ walked_from 0 r → r ≡ none
walked_none none e = refl
walked_none (some ms) e = cc

pub walked_some : (r : Option (List (List ℕ))) (n : ℕ) → Some n ≡ walked_from 0 r → (r ≡ some (listed r)) × (n ≡ length (listed r))
walked_some none n e = cc
walked_some (some ms) n e = (refl, same_Some n (0 + length ms) e ∙ omega arith)

before_whole : (m : List ℕ) (r : Option (List (List ℕ))) → is_whole (before m r) ≡ is_whole r
before_whole m none = refl
before_whole m (some ms) = refl

before_listed : (m : List ℕ) (r : Option (List (List ℕ))) → is_whole r ≡ true → listed (before m r) ≡ m ∷ listed r
before_listed m none e = cc
before_listed m (some ms) e = refl

-- ---- from a place on

-- the messages of the records from `at` to `size`
abbrev pub messages_from : List ℕ → ℕ → ℕ → Option (List (List ℕ))
messages_from file at size = messages_in (slice at size file)

module _ (file : List ℕ) (at size : ℕ) (under : at < size) (inside : size ≤ length file)
    (whole : is_whole (messages_from file at size) ≡ true) where
  abbrev b : List ℕ
  b = slice at size file

  long : length b ≡ suc (size - at - 1)
  long = length-slice at size file inside ∙ omega arith

  -- a record stands there
  pub next_fits : record_fits b ≡ true
  next_fits = go (record_fits b) refl
    where
      go : (c : Bool) → record_fits b ≡ c → c ≡ true
      go true e = refl
      go false e = sym (ap is_whole (ap (λ n. cut_all n b) long ∙ cut_none file at size under inside (size - at - 1) e)) ∙ whole

  abbrev next : ℕ
  next = at + cut_size b

  next_is : messages_from file at size ≡ before (message_in b) (messages_from file next size)
  next_is =
      let k = cut_sized file at size under inside next_fits in
      let l = length-slice next size file inside in
      ap (λ n. cut_all n b) long
      ∙ cut_more file at size under inside next_fits (size - at - 1)
      ∙ ap (before (message_in b))
      (turns_enough (size - at - 1) (length (slice next size file)) (slice next size file) (omega arith) (omega arith))

  pub next_whole : is_whole (messages_from file next size) ≡ true
  next_whole = sym (before_whole (message_in b) (messages_from file next size)) ∙ ap is_whole (sym next_is) ∙ whole

  pub next_listed : listed (messages_from file at size) ≡ message_in b ∷ listed (messages_from file next size)
  next_listed = ap listed next_is ∙ before_listed (message_in b) (messages_from file next size) next_whole

-- ---- the first `size` bytes

module _ (file : List ℕ) (size : ℕ) where
  pub whole_within : is_whole (messages_to file size) ≡ true → size ≤ length file
  unfolding messages_to
  whole_within w = go (leb size (length file)) refl w
    where
      go : (c : Bool) → leb size (length file) ≡ c → is_whole (pick c (messages_from file 0 size) none) ≡ true → size ≤ length file
      go true e q = leb-true size (length file) e
      go false e q = let z : ◌≡◌ {A = ℕ} 0 1 = cc in absurd (omega arith)

  pub from_start : size ≤ length file → messages_to file size ≡ messages_from file 0 size
  unfolding messages_to
  from_start h = rw (le-leb size (length file) h)

-- ---- the records that a call is told of

module _ (file : List ℕ) (told : ℕ) (ms : List (List ℕ)) where
  pub told_size : RecordsTo file told ms → length (records_bytes ms) ≡ told
  told_size r = ap length (sym r.records) ∙ length-take-le told file r.inside

  pub records_cut : RecordsTo file told ms → messages_to file told ≡ some ms
  records_cut r = from_start file told r.inside ∙ rw r.records (cut_back ms r.messages)

  module _ (e : messages_to file told ≡ some ms) where
    cut_told : messages_in (take told file) ≡ some ms
    cut_told = sym (from_start file told (whole_within file told (ap is_whole e))) ∙ e

    pub told_messages : AreMessages ms
    told_messages = cut_messages (take told file) ms cut_told

    pub told_few : length ms ≤ told
    told_few = omega (arith, cut_few (take told file) ms cut_told, length-take-le told file (whole_within file told (ap is_whole e)))

    pub cut_records : AreBytes file → RecordsTo file told ms
    cut_records b =
        record {
          inside = whole_within file told (ap is_whole e);
          records = cut_is (take told file) ms cut_told (bytes_take told file b);
          messages = told_messages;
        }
