-- Lent rows after a reading: rows stored one by one are the reading's first rows before the old rows beyond, which row is whose, and that what
-- stood in them before never matters.
-- Assumes nothing.
use mathlib.Core.Path.{◌≡◌, refl, sym, ap, ◌∙◌}
use Prim.Native.Nat.{ℕ, zero, suc, ◌+◌, ◌-◌, ◌≤◌, ◌<◌, min}
use native.Mathlib.Omega.{arith}
use mathlib.Core.Bool.{Bool, true, false}
use mathlib.Core.List.{List, ◌++◌}
use lib.ListN.{length, take, drop, get_or, replicate, length-append, length-drop, length-replicate, get_or-append, get_or-eq_default, get_or-replicate}
use lib.Seq.{take-suc, drop-cons, append_snoc, set_at, length-take-le, get_or-append-add, get_or-take, get_or-drop}
use lib.Dec.{ltb}
use borrow.Author.Tests.{ltb-true, ltb-false}
use Rattle.wire.specs.Choose.{pick}
use Rattle.payload.specs.declared.row.Row.{Row}
use Rattle.payload.specs.declared.table.Table.{Table}
use Rattle.payload.specs.Row.{absent_row}
use Rattle.payload.specs.Outcome.{changes_none}
use Rattle.message.specs.declared.read.Expected.{Expected}
use Rattle.message.specs.declared.read.MessageReading.{MessageReading}
use Rattle.message.specs.Reading.{message_of}
use Rattle.message.specs.Rows.{answered_of, rows_after, copied, taken_of, lent_rows}
use Rattle.message.specs.Promises.{LentLaw, OldRowsIgnored, OneLent, LentWritten}
use Rattle.message.proofs.MessageLaws.{rows_law}

pub copied_is : (n : ℕ) (rows old : List Row) → n ≤ length rows → n ≤ length old → copied n rows old ≡ take n rows ++ drop n old
copied_is zero rows old h k = refl
copied_is (suc n) rows old h k =
    rw (
      copied_is n rows old (omega arith) (omega arith),
      drop-cons old n absent_row (omega arith),
      set_at (take n rows) (get_or old n absent_row) (drop (suc n) old) (get_or rows n absent_row) n (length-take-le n rows (omega arith)),
      take-suc rows n absent_row (omega arith),
      append_snoc (take n rows) (get_or rows n absent_row) (drop (suc n) old),
    )

-- ---- rows before another list's

module _ (n : ℕ) (rows old : List Row) (h : n ≤ length rows) where
  front_length : n ≤ length old → length (take n rows ++ drop n old) ≡ length old
  front_length k = rw (length-append (take n rows) (drop n old), length-take-le n rows h, length-drop n old) (omega arith)

  front_at : (i : ℕ) → i < n → get_or (take n rows ++ drop n old) i absent_row ≡ get_or rows i absent_row
  front_at i l =
      get_or-append (take n rows) (drop n old) absent_row i (rw (length-take-le n rows h) l) ∙ get_or-take n rows i absent_row l

  beyond_at : (i : ℕ) → n ≤ i → get_or (take n rows ++ drop n old) i absent_row ≡ get_or old i absent_row
  beyond_at i l =
      let s : length (take n rows) + (i - n) ≡ i = omega (arith, length-take-le n rows h) in
      let s2 : n + (i - n) ≡ i = omega arith in
      sym (ap (λ (k : ℕ). get_or (take n rows ++ drop n old) k absent_row) s)
      ∙ get_or-append-add (take n rows) (drop n old) (i - n) absent_row
      ∙ get_or-drop n old (i - n) absent_row
      ∙ ap (λ (k : ℕ). get_or old k absent_row) s2

-- ---- after a reading

module _ (d : List ℕ) (e : Expected) (t : Table) (old : List Row) where
  abbrev r : MessageReading
  r = message_of d e t (length old)

  all_in : r.reading.filled ≤ length r.reading.rows
  all_in = omega (arith, (rows_law d e t (length old)).all_rows, (rows_law d e t (length old)).within_rows)

  none_set : changes_none r.reading.verdict ≡ true → r.reading.filled ≡ 0
  none_set c = (rows_law d e t (length old)).set_rows ∙ rw c

  some_set : changes_none r.reading.verdict ≡ false → r.reading.filled ≡ t.count
  some_set c = (rows_law d e t (length old)).set_rows ∙ rw c

  few_set : r.reading.filled ≤ t.count
  few_set = go (changes_none r.reading.verdict) refl
    where
      go : (c : Bool) → changes_none r.reading.verdict ≡ c → r.reading.filled ≤ t.count
      go true c = omega (arith, none_set c)
      go false c = omega (arith, some_set c)

  first_is : changes_none r.reading.verdict ≡ false → (i : ℕ) → i < t.count
      → get_or (rows_after r old) i absent_row ≡ get_or r.reading.rows i absent_row
  first_is c i l = front_at r.reading.filled r.reading.rows old all_in i (omega (arith, some_set c))

  -- Which rows a reading changes, and what they are.
  pub lent_law : LentLaw d e t old
  lent_law =
      record {
        as_many = front_length r.reading.filled r.reading.rows old all_in (rows_law d e t (length old)).within_room;
        none_changed = λ c. rw (none_set c);
        first_read = first_is;
        first_absent = λ c n i l.
            let a = ((rows_law d e t (length old)).refused_rows n).1 in
            first_is c i l ∙ ap (λ (rows : List Row). get_or rows i absent_row) a
            ∙ get_or-replicate 64 i absent_row absent_row (omega (arith, some_set c, (rows_law d e t (length old)).within_rows));
        beyond_stay = λ i l. beyond_at r.reading.filled r.reading.rows old all_in i (omega (arith, few_set));
      }

-- What stood in the rows before never matters.
pub old_law : OldRowsIgnored
old_law d e t old other s =
    let q = ap (λ (n : ℕ). message_of d e t n) s in (
      ap answered_of q,
      λ c i l.
          first_is d e t old c i l ∙ ap (λ (m : MessageReading). get_or m.reading.rows i absent_row) q
          ∙ sym (first_is d e t other (ap (λ (m : MessageReading). changes_none m.reading.verdict) (sym q) ∙ c) i l),
    )

-- Any two answers, with the rows after, that meet the contract are equal.
pub one_lent : OneLent
one_lent d e t old r s rows others p q = (p.0 ∙ sym q.0, p.1 ∙ sym q.1)

-- ---- rows that are lent to a writing

-- no more lent rows are taken than there are, and 64 at most
taken_within : (len : ℕ) → (taken_of len ≤ len) × (taken_of len ≤ 64)
taken_within len = go (ltb len 64) refl
  where
    go : (b : Bool) → ltb len 64 ≡ b → (pick (ltb len 64) len 64 ≤ len) × (pick (ltb len 64) len 64 ≤ 64)
    go true l = rw l (omega arith, omega (arith, ltb-true len 64 l))
    go false l = rw l (ltb-false len 64 l, omega arith)

pub lent_is : (lent : List Row) (n : ℕ) → n ≡ min (length lent) 64 → (front : List Row) → front ≡ take n lent
    → front ++ drop n (replicate 64 absent_row) ≡ lent_rows lent
lent_is lent n e front ef =
    let w = taken_within (length lent) in
    let m : n ≡ taken_of (length lent) = e ∙ least (length lent) (ltb (length lent) 64) refl in
    rw (ef, m) (sym (copied_is (taken_of (length lent)) lent (replicate 64 absent_row) w.0 (omega (arith, w.1, length-replicate 64 absent_row))))
  where
    least : (len : ℕ) (b : Bool) → ltb len 64 ≡ b → min len 64 ≡ pick b len 64
    least len true e = omega (arith, ltb-true len 64 e)
    least len false e = omega (arith, ltb-false len 64 e)

-- Each of the rows that a writing is handed is the lent one, and absent where none is lent.
pub lent_written : LentWritten
lent_written lent =
    let n = taken_of (length lent) in
    let blank = replicate 64 absent_row in
    let w = taken_within (length lent) in
    let is = copied_is n lent blank w.0 (omega (arith, w.1, length-replicate 64 absent_row)) in
    record {
      all_rows = ap length is ∙ front_length n lent blank w.0 (omega (arith, w.1, length-replicate 64 absent_row)) ∙ length-replicate 64 absent_row;
      each_row = λ i l. ap (λ (rows : List Row). get_or rows i absent_row) is ∙ each i l (ltb i n) refl;
    }
  where
    each : (i : ℕ) → i < 64 → (b : Bool) → ltb i (taken_of (length lent)) ≡ b
        → get_or (take (taken_of (length lent)) lent ++ drop (taken_of (length lent)) (replicate 64 absent_row)) i absent_row ≡ get_or lent i absent_row
    each i l true e =
        front_at (taken_of (length lent)) lent (replicate 64 absent_row) (taken_within (length lent)).0 i
        (ltb-true i (taken_of (length lent)) e)
    each i l false e =
        beyond_at (taken_of (length lent)) lent (replicate 64 absent_row) (taken_within (length lent)).0 i
        (ltb-false i (taken_of (length lent)) e)
        ∙ get_or-replicate 64 i absent_row absent_row l
        ∙ sym (get_or-eq_default lent absent_row {n = i} (past (ltb (length lent) 64) refl))
      where
        past : (b : Bool) → ltb (length lent) 64 ≡ b → length lent ≤ i
        past true f = omega (arith, rw f at (ltb-false i (taken_of (length lent)) e))
        past false f = absurd (omega (arith, rw f at (ltb-false i (taken_of (length lent)) e)))
