-- The index as `put_index` stores it, behind the records: entry by entry, from the first record on.
-- Assumes nothing.
use mathlib.Core.Path.{◌≡◌, refl, sym, ap, ◌∙◌}
use mathlib.Core.Bool.{true}
use mathlib.Core.List.{List, [], ◌∷◌}
use Prim.Native.Nat.{ℕ, ◌+◌, ◌*◌, ◌≤◌, ◌<◌}
use native.Mathlib.Nat.{mul-suc}
use native.Mathlib.Omega.{arith}
use lib.ListN.{length, take}
use lib.Seq.{sets, slice, slice_empty, length-sets}
use Rattle.wire.specs.Number.{big, number_bytes}
use Rattle.wire.specs.Header.{field_at, session_of}
use Rattle.wire.proofs.NumberLaws.{length_number_bytes}
use Rattle.wire.proofs.StoreLaws.{two_stores}
use Rattle.archive.specs.declared.form.Form.{Form}
use Rattle.archive.specs.Form.{offset_width, entry_size, entry_bytes, index_bytes}
use Rattle.archive.specs.Records.{message_in, record_fits, messages_to}
use Rattle.archive.specs.Walking.{cut_size, is_whole, listed, session_in}
use Rattle.archive.proofs.ListLaws.{take_sets}
use Rattle.archive.proofs.RecordLaws.{length_entry, cut_nothing}
use Rattle.archive.proofs.WalkLaws.{size_of_lem, cut_sized, size_there, session_there}
use Rattle.archive.proofs.LeftLaws.{messages_from, next_fits, next_whole, next_listed, whole_within, from_start}

-- what is left to store
abbrev left : List ℕ → Form → ℕ → ℕ → List ℕ
left file f size at = index_bytes f at (listed (messages_from file at size))

-- Where the entries of the records before `at` are stored, up to `to`: storing what is left gives the whole.
pub record Indexing (old : List ℕ) (f : Form) (size : ℕ) (file : List ℕ) (at to : ℕ) : Type 0 where
  pub at_within : at ≤ size
  pub size_within : size ≤ length old
  pub whole : is_whole (messages_from old at size) ≡ true
  pub behind : size ≤ to
  pub room : to + entry_size f * length (listed (messages_from old at size)) ≤ length old
  pub same_length : length file ≡ length old
  pub kept : take size file ≡ take size old
  pub stores_rest : sets file to (left old f size at) ≡ sets old size (index_bytes f 0 (listed (messages_to old size)))

pub index_start : (old : List ℕ) (f : Form) (size : ℕ) → is_whole (messages_to old size) ≡ true
    → size + entry_size f * length (listed (messages_to old size)) ≤ length old → Indexing old f size old 0 size
index_start old f size w r =
    let within = whole_within old size w in
    let e = from_start old size within in
    record {
      at_within = omega arith;
      size_within = within;
      whole = rw e at w;
      behind = omega arith;
      room = rw e at r;
      same_length = refl;
      kept = refl;
      stores_rest = rw e;
    }

pub index_end : {old : List ℕ} {f : Form} {size : ℕ} {file : List ℕ} {at to : ℕ} → Indexing old f size file at to → size ≤ at
    → file ≡ sets old size (index_bytes f 0 (listed (messages_to old size)))
unfolding index_bytes
index_end {old} {f} {size} {file} {at} {to} i h =
    let e : at ≡ size = omega arith in
    let none_left : left old f size at ≡ [] = rw (e, slice_empty size old, cut_nothing 0) in
    rw none_left at i.stores_rest

-- a turn
module _ {old : List ℕ} {f : Form} {size : ℕ} {file : List ℕ} {at to : ℕ} (i : Indexing old f size file at to) (under : at < size)
    {k : ℕ} (ke : k ≡ 2 + field_at at 2 file) where
  abbrev here : List ℕ
  here = slice at size old

  abbrev ms : List (List ℕ)
  ms = listed (messages_from old (at + cut_size here) size)

  fits_here : record_fits here ≡ true
  fits_here = next_fits old at size under i.size_within i.whole

  -- a record stands there in the file as it is now, too
  within_now : size ≤ length file
  within_now = omega (arith, i.same_length, i.size_within)

  fits_now : record_fits (slice at size file) ≡ true
  fits_now = rw i.kept fits_here

  size_here : k ≡ cut_size here
  size_here = ke ∙ rw i.kept at (sym (size_there file at size under within_now fits_now))

  pub turn_sized : (18 ≤ k) × (at + k ≤ size)
  turn_sized = rw size_here (cut_sized old at size under i.size_within fits_here)

  listed_here : listed (messages_from old at size) ≡ message_in here ∷ ms
  listed_here = next_listed old at size under i.size_within i.whole

  -- the entry fits
  turn_left : to + entry_size f + entry_size f * length ms ≤ length old
  turn_left = omega (arith, mul-suc (entry_size f) (length ms), (rw listed_here at i.room))

  pub turn_room : to + entry_size f ≤ length file
  turn_room = omega (arith, turn_left, i.same_length)

  session_here : session_in file at ≡ session_of (message_in here)
  session_here = rw i.kept at (sym (session_there file at size under within_now fits_now))

  module _ {w session e : ℕ} {l1 l2 : List ℕ} (we : w ≡ offset_width f) (se : session ≡ session_in file at) (ee : e ≡ entry_size f)
      (e1 : l1 ≡ sets file to (number_bytes big w at)) (e2 : l2 ≡ sets l1 (to + w) (number_bytes big 2 session)) where
    entry_stores : l2 ≡ sets file to (entry_bytes f at (message_in here))
    unfolding entry_bytes
    entry_stores =
        e2
        ∙ rw (e1, we, se, session_here)
        (two_stores file (number_bytes big (offset_width f) at) (number_bytes big 2 (session_of (message_in here))) to (offset_width f)
        (length_number_bytes (offset_width f) at))

    rest_here : sets l2 (to + entry_size f) (index_bytes f (at + cut_size here) ms) ≡ sets file to (left old f size at)
    unfolding index_bytes
    rest_here =
        rw (entry_stores, listed_here, ← size_of_lem old at size under i.size_within fits_here)
        (two_stores file (entry_bytes f at (message_in here)) (index_bytes f (at + cut_size here) ms) to (entry_size f)
        (length_entry f at (message_in here)))

    pub index_turn : Indexing old f size l2 (at + k) (to + e)
    index_turn =
        rw (ee, size_here)
        record {
          at_within = (cut_sized old at size under i.size_within fits_here).1;
          size_within = i.size_within;
          whole = next_whole old at size under i.size_within i.whole;
          behind = omega (arith, i.behind);
          room = turn_left;
          same_length = ap length entry_stores ∙ length-sets file to (entry_bytes f at (message_in here)) ∙ i.same_length;
          kept = ap (take size) entry_stores ∙ take_sets size file to (entry_bytes f at (message_in here)) i.behind ∙ i.kept;
          stores_rest = rest_here ∙ i.stores_rest;
        }
