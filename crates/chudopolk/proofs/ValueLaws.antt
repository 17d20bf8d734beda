-- Which value rows numbers stand for.
-- Assumes nothing.
use mathlib.Core.Path.{◌≡◌, refl, sym, ap, ◌∙◌}
use Prim.Native.Nat.{ℕ, zero, suc, ◌+◌, ◌-◌, ◌*◌, ◌/◌, ◌^◌, ◌≤◌, ◌<◌, min}
use native.Mathlib.Omega.{arith}
use native.Mathlib.Numerals.{add-one}
use mathlib.Core.Bool.{Bool, true, false}
use mathlib.Core.List.{List, ◌∷◌}
use lib.ListN.{length, set, length-set, get_or, replicate}
use lib.IntN.{pos, negsuc}
use mir.Syntax.{w64}
use mir.Val.{to_z}
use mir.Facts.{to_z_pos, to_z-neg}
use lib.Seq.{get_or-set_same, get_or-set_other}
use lib.Dec.{leb, ltb, eqb}
use borrow.Author.Tests.{ne_eqb, eqb-true, eqb-false, ltb-true, ltb-false}
use Rattle.wire.specs.Choose.{pick, and}
use Rattle.wire.specs.Kind.{size_of}
use Rattle.wire.specs.Number.{signed_of, signed_by}
use Rattle.payload.specs.declared.table.TypeRow.{TypeRow}
use Rattle.payload.specs.Judging.{Unfit}
use Rattle.payload.specs.declared.row.Row.{Row}
use Rattle.payload.specs.declared.row.Value.TheVariants.{Unsigned, Signed, Bytes}
use Rattle.payload.specs.Row.{plain, absent_row, members_row, is_absent}
use Rattle.payload.specs.Judging.{float_fits, row_fine, judged_from}
use Rattle.chudopolk.specs.Rows.{float32_row, float64_row, odd_row, row_of, row_at, rows_up_to, lent_of, rows_of}
use Rattle.chudopolk.specs.Promises.{HandsRows, WildUnfit}

-- ---- a row

module _ (w n p l : ℕ) where
  pub row_absent : w ≡ 0 → absent_row ≡ row_of w n p l
  unfolding row_of
  row_absent h = rw h

  pub row_unsigned : w ≡ 1 → plain (Unsigned n) ≡ row_of w n p l
  unfolding row_of
  row_unsigned h = rw h

  -- eight bytes' two's complement is the number's signed reading
  pub read_signed : n < 18446744073709551616 → to_z w64 n ≡ signed_by 9223372036854775808 n
  read_signed fits = go (ltb n 9223372036854775808) refl
    where
      go : (b : Bool) → ltb n 9223372036854775808 ≡ b → to_z w64 n ≡ pick b (pos n) (negsuc (18446744073709551615 - n))
      go true h = to_z_pos w64 (ltb-true _ _ h)
      go false h =
          let large : 9223372036854775808 ≤ n = ltb-false _ _ h in
          let back : 18446744073709551616 - suc (18446744073709551615 - n) ≡ n = omega arith in
          ap (to_z w64) (sym back) ∙ to_z-neg w64 (18446744073709551615 - n) (omega arith)

  pub row_signed : w ≡ 2 → plain (Signed (signed_by 9223372036854775808 n)) ≡ row_of w n p l
  unfolding row_of signed_of
  row_signed h = rw h

  pub row_float32 : w ≡ 3 → float32_row n ≡ row_of w n p l
  unfolding row_of
  row_float32 h = rw h

  pub row_float64 : w ≡ 4 → float64_row n ≡ row_of w n p l
  unfolding row_of
  row_float64 h = rw h

  pub row_bytes : w ≡ 5 → plain (Bytes p l) ≡ row_of w n p l
  unfolding row_of
  row_bytes h = rw h

  pub row_members : w ≡ 6 → members_row ≡ row_of w n p l
  unfolding row_of
  row_members h = rw h

  pub row_odd : (w ≡ 0 → ⊥) → (w ≡ 1 → ⊥) → (w ≡ 2 → ⊥) → (w ≡ 3 → ⊥) → (w ≡ 4 → ⊥) → (w ≡ 5 → ⊥) → (w ≡ 6 → ⊥) → odd_row ≡ row_of w n p l
  unfolding row_of
  row_odd a b c d e f g = simp (ne_eqb w 0 a, ne_eqb w 1 b, ne_eqb w 2 c, ne_eqb w 3 d, ne_eqb w 4 e, ne_eqb w 5 f, ne_eqb w 6 g)

-- ---- rows

-- whichever element is asked for, and past the end
get_d_same : (n i : ℕ) (r : Row) → get_or (replicate n r) i r ≡ r
get_d_same zero i r = refl
get_d_same (suc n) zero r = refl
get_d_same (suc n) (suc i) r = get_d_same n i r

rows_up_to_suc : (n : ℕ) (values : List ℕ) → set (rows_up_to n values) n (row_at values n) ≡ rows_up_to (suc n) values
unfolding rows_up_to
rows_up_to_suc n values = refl

pub rows_up_to_none : (values : List ℕ) (r : Row) → r ≡ absent_row → replicate 64 r ≡ rows_up_to 0 values
unfolding rows_up_to
rows_up_to_none values r h = ap (replicate 64) h

pub rows_up_to_more : (n : ℕ) (values : List ℕ) (rows : List Row) (r : Row) → rows ≡ rows_up_to n values → r ≡ row_at values n
    → set rows n r ≡ rows_up_to (n + 1) values
rows_up_to_more n values rows r h e = rw (h, e) (rows_up_to_suc n values ∙ ap (λ (m : ℕ). rows_up_to m values) (sym (add-one n)))

pub length_rows_up_to : (n : ℕ) (values : List ℕ) → length (rows_up_to n values) ≡ 64
unfolding rows_up_to
length_rows_up_to zero values = refl
length_rows_up_to (suc n) values = length-set (rows_up_to n values) n (row_at values n) ∙ length_rows_up_to n values

one_more : (n i : ℕ) (values : List ℕ) (b : Bool) → eqb i n ≡ b → n < 64 → i < suc n
    → (i < n → get_or (rows_up_to n values) i absent_row ≡ row_at values i)
    → get_or (set (rows_up_to n values) n (row_at values n)) i absent_row ≡ row_at values i
one_more n i values true e few h before =
    let same : i ≡ n = eqb-true _ _ e in
    rw same (get_or-set_same (rows_up_to n values) n (row_at values n) absent_row (omega (arith, length_rows_up_to n values)))
one_more n i values false e few h before =
    let differ : i ≡ n → ⊥ = eqb-false _ _ e in
    get_or-set_other (rows_up_to n values) n i (row_at values n) absent_row differ ∙ before (omega arith)

rows_at : (n i : ℕ) (values : List ℕ) → n ≤ 64 → i < n → get_or (rows_up_to n values) i absent_row ≡ row_at values i
unfolding rows_up_to
rows_at zero i values few h = absurd (omega arith)
rows_at (suc n) i values few h = one_more n i values (eqb i n) refl (omega arith) h (λ k. rows_at n i values (omega arith) k)

rows_beyond : (n i : ℕ) (values : List ℕ) → n ≤ i → get_or (rows_up_to n values) i absent_row ≡ absent_row
unfolding rows_up_to
rows_beyond zero i values h = get_d_same 64 i absent_row
rows_beyond (suc n) i values h =
    get_or-set_other (rows_up_to n values) n i (row_at values n) absent_row (λ e. omega arith) ∙ rows_beyond n i values (omega arith)

-- ---- how many

pub rows_of_is : (values : List ℕ) (n : ℕ) (rows : List Row) → n ≡ lent_of (length values) → rows ≡ rows_up_to n values → rows ≡ rows_of values
unfolding rows_of
rows_of_is values n rows h e = rw (e, h)

module _ (len : ℕ) where
  pub lent_min : min (len / 4) 64 ≡ lent_of len
  unfolding lent_of
  lent_min = go (ltb 64 (len / 4)) refl
    where
      go : (b : Bool) → ltb 64 (len / 4) ≡ b → min (len / 4) 64 ≡ pick b 64 (len / 4)
      go true h = let many : 64 < len / 4 = ltb-true _ _ h in omega arith
      go false h = let few : len / 4 ≤ 64 = ltb-false _ _ h in omega arith

  -- no more than 64, and no more than the numbers hold
  within : (lent_of len ≤ 64) × (4 * lent_of len ≤ len)
  unfolding lent_of
  within = go (ltb 64 (len / 4)) refl
    where
      go : (b : Bool) → ltb 64 (len / 4) ≡ b → (pick b 64 (len / 4) ≤ 64) × (4 * pick b 64 (len / 4) ≤ len)
      go true h = let many : 64 < len / 4 = ltb-true _ _ h in (omega arith, omega arith)
      go false h = let few : len / 4 ≤ 64 = ltb-false _ _ h in (omega arith, omega arith)

  pub lent_within : (n : ℕ) → n ≡ lent_of len → (n ≤ 64) × (4 * n ≤ len)
  lent_within n h = rw h within

-- ---- the rows that a writing is handed

lent_is : (values : List ℕ) (b : Bool) → ltb 64 (length values / 4) ≡ b → (i : ℕ) → i < 64 → i < length values / 4 → i < pick b 64 (length values / 4)
lent_is values true e i h k = h
lent_is values false e i h k = k

lent_beyond : (values : List ℕ) (b : Bool) → ltb 64 (length values / 4) ≡ b → (i : ℕ) → length values / 4 ≤ i → pick b 64 (length values / 4) ≤ i
lent_beyond values true e i h = omega (arith, ltb-true 64 (length values / 4) e)
lent_beyond values false e i h = h

pub hands_rows : HandsRows
unfolding rows_of lent_of
hands_rows values =
    let n = lent_of (length values) in
    let few = lent_within (length values) n refl in
    record {
      all_rows = length_rows_up_to n values;
      each_row = λ i h k. rows_at n i values few.0 (lent_is values (ltb 64 (length values / 4)) refl i h k);
      others_absent = λ i h. rows_beyond n i values (lent_beyond values (ltb 64 (length values / 4)) refl i h);
    }

-- ---- a row that says no value

-- whatever its kind, a float32 of 2^32 is not one
no_float : (k : ℕ) (b : Bool) → eqb k 10 ≡ b → and b (ltb 4294967296 (256 ^ size_of k)) ≡ false
no_float k true e = let ten : k ≡ 10 = eqb-true k 10 e in rw ten
no_float k false e = refl

and_none : (a : Bool) → and a false ≡ false
and_none true = refl
and_none false = refl

odd_fine : (buf : List ℕ) (upto : ℕ) (r : TypeRow) → row_fine buf upto r odd_row ≡ false
unfolding row_fine is_absent float_fits
odd_fine buf upto r = ap (and (leb r.level upto)) (no_float r.kind (eqb r.kind 10) refl) ∙ and_none (leb r.level upto)

odd_unfit : (buf : List ℕ) (upto : ℕ) (r : TypeRow) (types : List TypeRow) (rows : List Row) → judged_from buf upto (r ∷ types) (odd_row ∷ rows) ≡ Unfit
unfolding judged_from
odd_unfit buf upto r types rows = rw (odd_fine buf upto r)

pub wild_unfit : WildUnfit
wild_unfit w n p l over buf upto r types rows =
    let no : (k : ℕ) → k ≤ 6 → w ≡ k → ⊥ = λ k m e. omega arith in
    let one = no 1 (omega arith) in
    let two = no 2 (omega arith) in
    let three = no 3 (omega arith) in
    let four = no 4 (omega arith) in
    let five = no 5 (omega arith) in
    let odd : odd_row ≡ row_of w n p l = row_odd w n p l (no 0 (omega arith)) one two three four five (no 6 (omega arith)) in
    rw (← odd) (odd_unfit buf upto r types rows)
