-- Records by places in the file: what stands before `size` from `at` on.
-- Assumes nothing.
use mathlib.Core.Path.{◌≡◌, refl, sym, ap, ◌∙◌}
use Prim.Native.Nat.{ℕ, suc, ◌+◌, ◌-◌, ◌≤◌, ◌<◌}
use native.Mathlib.Omega.{arith}
use mathlib.Core.Bool.{Bool, true, false}
use mathlib.Core.Option.{Option, none, some}
use mathlib.Core.List.{List, []}
use lib.ListN.{length, take, drop}
use lib.Seq.{slice, slice_empty, length-slice, length-take-le, drop-drop, take-take}
use borrow.Author.Tests.{le-leb, lt-leb}
use Rattle.wire.specs.Choose.{pick}
use Rattle.wire.specs.Header.{field_at, session_at, session_of}
use Rattle.wire.proofs.PartLaws.{take_drop}
use Rattle.archive.specs.Form.{message_fits, record_size}
use Rattle.archive.specs.Records.{length_in, message_in, record_fits, before, cut_all, messages_to}
use Rattle.archive.specs.Walking.{cut_size, size_in, walked_from, session_in}
use Rattle.std.specs.Prelude.{Some, None}
use Rattle.std.specs.Bool.{then_some}
use Rattle.std.proofs.lemmas.Option.{same_Some}
use Rattle.archive.proofs.ListLaws.{field_in}
use Rattle.archive.proofs.RecordLaws.{message_least, cut_step, cut_nothing, record_whole, record_message, message_length}

-- nothing stands between a place and itself
pub cut_end : (turns size : ℕ) (file : List ℕ) → cut_all turns (slice size size file) ≡ some []
cut_end turns size file = rw (slice_empty size file) (cut_nothing turns)

-- ---- the size of a record, as the code finds it

then_picked : (b : Bool) (n : ℕ) → then_some b n ≡ pick b (Some n) None
then_picked true n = refl
then_picked false n = refl

no_room : (bytes : List ℕ) → length bytes < 2 + length_in bytes → None ≡ size_in bytes
unfolding size_in record_fits
no_room bytes h = rw (lt-leb (2 + length_in bytes) (length bytes) h)

module _ (file : List ℕ) (at end : ℕ) (inside : end ≤ length file) where
  length_there : at + 2 ≤ end → length_in (slice at end file) ≡ field_at at 2 file
  length_there h = let e : at + 0 ≡ at = omega arith in field_in file at end 0 2 (omega arith) ∙ (rw e)

  pub size_short : end - at < 2 → None ≡ size_in (slice at end file)
  size_short h = no_room (slice at end file) (omega (arith, length-slice at end file inside))

  module _ (h : at + 2 ≤ end) where
    pub size_past : end - (at + 2) < field_at at 2 file → None ≡ size_in (slice at end file)
    size_past k = no_room (slice at end file) (omega (arith, length-slice at end file inside, length_there h))

    pub size_by : (n : ℕ) → n ≡ field_at at 2 file → at + 2 + n ≤ end
        → (r : Bool) → r ≡ message_fits (take (at + 2 + n - (at + 2)) (drop (at + 2) file)) → then_some r (2 + n) ≡ size_in (slice at end file)
    unfolding size_in record_fits
    size_by n en k r er =
        let l : length_in (slice at end file) ≡ n = length_there h ∙ sym en in
        let e : at + 2 + n - (at + 2) ≡ n = omega arith in
        let fine = le-leb (2 + n) (length (slice at end file)) (omega (arith, length-slice at end file inside)) in
        let whole : take n (drop (at + 2) (take end file)) ≡ take n (drop (at + 2) file)
        = take_drop (at + 2) n (take end file) ∙ ap (drop (at + 2)) (take-take (at + 2 + n) end file k) ∙ sym (take_drop (at + 2) n file) in
        then_picked r (2 + n) ∙ rw (er, l, fine, e, drop-drop 2 at (take end file), whole)

-- ---- a turn of a walk

-- none of a message stands there
pub none_fits : (bytes : List ℕ) → None ≡ size_in bytes → record_fits bytes ≡ false
unfolding size_in
none_fits bytes e = go (record_fits bytes) e
  where
    go : (c : Bool) → None ≡ pick c (Some (2 + length_in bytes)) None → c ≡ false
    go true q = cc
    go false q = refl

-- or one of that size
pub some_fits : (bytes : List ℕ) (k : ℕ) → Some k ≡ size_in bytes → (record_fits bytes ≡ true) × (k ≡ cut_size bytes)
unfolding size_in cut_size
some_fits bytes k e = go (record_fits bytes) e
  where
    go : (c : Bool) → Some k ≡ pick c (Some (2 + length_in bytes)) None → (c ≡ true) × (k ≡ pick c (2 + length_in bytes) 0)
    go true q = (refl, same_Some k (2 + length_in bytes) q)
    go false q = cc

-- a message before others is one more
walked_more : (n : ℕ) (m : List ℕ) (r : Option (List (List ℕ))) → walked_from n (before m r) ≡ walked_from (n + 1) r
walked_more n m none = refl
walked_more n m (some ms) = let e : n + suc (length ms) ≡ n + 1 + length ms = omega arith in rw e

module _ (file : List ℕ) (at size : ℕ) (under : at < size) (inside : size ≤ length file) where
  abbrev b : List ℕ
  b = slice at size file

  long : length b ≡ size - at
  long = length-slice at size file inside

  -- no record of a message stands there
  pub cut_none : (turns : ℕ) → record_fits b ≡ false → cut_all (suc turns) b ≡ none
  cut_none turns e = rw (cut_step turns b (omega (arith, long)), e)

  module _ (fits : record_fits b ≡ true) where
    pub size_is : cut_size b ≡ 2 + length_in b
    unfolding cut_size
    size_is = rw fits

    pub size_of_lem : cut_size b ≡ record_size (message_in b)
    size_of_lem = omega (arith, size_is, message_length b fits)

    pub cut_sized : (18 ≤ cut_size b) × (at + cut_size b ≤ size)
    cut_sized =
        (omega (arith, size_of_lem, message_least (message_in b) (record_message b fits)), omega (arith, size_is, record_whole b fits, long))

    -- by its length alone
    pub size_there : cut_size b ≡ 2 + field_at at 2 file
    size_there = size_is ∙ ap (2 +◌) (length_there file at size inside (omega (arith, cut_sized)))

    pub cut_more : (turns : ℕ) → cut_all (suc turns) b ≡ before (message_in b) (cut_all turns (slice (at + cut_size b) size file))
    cut_more turns =
        rw (cut_step turns b (omega (arith, long)), fits, size_is, drop-drop (2 + length_in b) at (take size file))

    message_is : message_in b ≡ slice (at + 2) (at + cut_size b) file
    message_is =
        let e : at + 2 + length_in b ≡ at + cut_size b = omega (arith, size_is) in
        let t = take-take (at + 2 + length_in b) size file (omega (arith, cut_sized, size_is)) in
        ap (take (length_in b)) (drop-drop 2 at (take size file)) ∙ take_drop (at + 2) (length_in b) (take size file) ∙ (rw (t, e))

    pub session_there : session_of (message_in b) ≡ session_in file at
    session_there = rw message_is (field_in file (at + 2) (at + cut_size b) session_at 2 (omega (arith, cut_sized)))

  -- a turn of the walk that counts
  pub walk_turn : (n : ℕ) → n ≤ at → record_fits b ≡ true
      → walked_from n (cut_all (size - n) b) ≡ walked_from (n + 1) (cut_all (size - (n + 1)) (slice (at + cut_size b) size file))
  walk_turn n h k =
      let e : size - n ≡ suc (size - (n + 1)) = omega arith in
      rw (e, cut_more k (size - (n + 1)))
      (walked_more n (message_in b) (cut_all (size - (n + 1)) (slice (at + cut_size b) size file)))

  pub walk_stop : (n : ℕ) → n ≤ at → record_fits b ≡ false → walked_from n (cut_all (size - n) b) ≡ None
  walk_stop n h k =
      let e : size - n ≡ suc (size - (n + 1)) = omega arith in
      rw (e, cut_none (size - (n + 1)) k)

pub walk_end : (turns size n : ℕ) (file : List ℕ) → walked_from n (cut_all turns (slice size size file)) ≡ Some n
walk_end turns size n file = let e : n + 0 ≡ n = omega arith in rw (cut_end turns size file, e)

-- ---- the told size

module _ (file : List ℕ) (size : ℕ) where
  pub told_past : length file < size → none ≡ messages_to file size
  unfolding messages_to
  told_past h = rw (lt-leb size (length file) h)

  pub told_in : size ≤ length file → messages_to file size ≡ cut_all (size - 0) (slice 0 size file)
  unfolding messages_to
  told_in h =
      let e : size - 0 ≡ size = omega arith in
      rw (le-leb size (length file) h, length-take-le size file h, e)
