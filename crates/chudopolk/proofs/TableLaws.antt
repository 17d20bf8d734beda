-- Which tables numbers stand for: a wild number makes a row, or the whole table, none.
-- Assumes nothing.
use mathlib.Core.Path.{◌≡◌, refl, sym, ap, ◌∙◌}
use Prim.Native.Nat.{ℕ, zero, suc, ◌+◌, ◌*◌, ◌≤◌, ◌<◌}
use native.Mathlib.Omega.{arith}
use native.Mathlib.Numerals.{add-one}
use mathlib.Core.Bool.{Bool, true, false, false≢true}
use mathlib.Core.List.{List}
use lib.ListN.{length, set, length-set, replicate}
use lib.Dec.{leb, eqb}
use Rattle.std.specs.Prelude.{Option, None, Some, SomeIff, Result, Ok, Err, OkIff}
use Rattle.std.specs.Result.{result_ok}
use borrow.Author.Tests.{le-leb, lt-leb, leb-true}
use Rattle.wire.specs.Choose.{pick, and}
use Rattle.payload.specs.declared.table.TypeRow.{TypeRow}
use Rattle.payload.specs.declared.table.Table.{Table}
use Rattle.payload.specs.Table.{no_row, table_fits}
use Rattle.chudopolk.specs.declared.table.Form.{Form}
use Rattle.chudopolk.specs.Table.{row_holds, type_row_of, type_row_at, type_rows_of, taken_of, table_of, table_verdict}

pub and_right : (a b : Bool) → and a b ≡ true → b ≡ true
and_right true b h = h
and_right false b h = absurd (false≢true h)

pub and_left : (a b : Bool) → and a b ≡ true → a ≡ true
and_left true b h = refl
and_left false b h = absurd (false≢true h)

-- ---- a row

-- the bounds of a row's five numbers
pub record Held (l x k e q : ℕ) : Type 0 where
  pub level_in_lem : l ≤ 255
  pub ident_in_lem : x ≤ 65535
  pub kind_in_lem : k ≤ 255
  pub elem_in_lem : e ≤ 255
  pub mark_in : q ≤ 1

module _ (l x k e q : ℕ) where
  pub holds_bounds : row_holds l x k e q ≡ true → Held l x k e q
  holds_bounds h =
      let h2 = and_right (leb l 255) (and (leb x 65535) (and (leb k 255) (and (leb e 255) (leb q 1)))) h in
      let h3 = and_right (leb x 65535) (and (leb k 255) (and (leb e 255) (leb q 1))) h2 in
      let h4 = and_right (leb k 255) (and (leb e 255) (leb q 1)) h3 in
      record {
        level_in_lem = leb-true l 255 (and_left (leb l 255) _ h);
        ident_in_lem = leb-true x 65535 (and_left (leb x 65535) _ h2);
        kind_in_lem = leb-true k 255 (and_left (leb k 255) _ h3);
        elem_in_lem = leb-true e 255 (and_left (leb e 255) _ h4);
        mark_in = leb-true q 1 (and_right (leb e 255) (leb q 1) h4);
      }

  pub row_wild : (Held l x k e q → ⊥) → no_row ≡ type_row_of l x k e q
  unfolding type_row_of
  row_wild wild = go (row_holds l x k e q) refl
    where
      go : (b : Bool) → row_holds l x k e q ≡ b
          → no_row ≡ pick (row_holds l x k e q) (record { level = l; ident = x; kind = k; elem = e; required = eqb q 1 }) no_row
      go true h = absurd (wild (holds_bounds h))
      go false h = rw h

  pub row_held : l ≤ 255 → x ≤ 65535 → k ≤ 255 → e ≤ 255 → q ≤ 1
      → record { level = l; ident = x; kind = k; elem = e; required = eqb q 1 } ≡ type_row_of l x k e q
  unfolding type_row_of
  row_held hl hx hk he hq = simp (le-leb l 255 hl, le-leb x 65535 hx, le-leb k 255 hk, le-leb e 255 he, le-leb q 1 hq)

-- ---- one number

-- a number, as a narrower type holds it
pub record Narrowed (bound n x : ℕ) : Type 0 where
  pub below : n < bound
  pub same : x ≡ n

module _ {E : Type 0} (r : Result ℕ E) (o : Option ℕ) (n bound : ℕ) where
  pub too_wide : OkIff r (n < bound) n → o ≡ result_ok r → o ≡ None → n < bound → ⊥
  too_wide = go r
    where
      go : (s : Result ℕ E) → OkIff s (n < bound) n → o ≡ result_ok s → o ≡ None → n < bound → ⊥
      go (Ok y) h e none low = cc
      go (Err d) h e none low = h low

  pub narrowed : (x : ℕ) → OkIff r (n < bound) n → o ≡ result_ok r → o ≡ Some x → Narrowed bound n x
  narrowed x = go r
    where
      go : (s : Result ℕ E) → OkIff s (n < bound) n → o ≡ result_ok s → o ≡ Some x → Narrowed bound n x
      go (Ok y) h e some = let same : x ≡ y = cc in record { below = h.0; same = same ∙ h.1 }
      go (Err d) h e some = absurd (cc)

-- a mark, which is 0 or 1
module _ (o : Option Bool) (n : ℕ) where
  pub too_wild : SomeIff o (n ≤ 1) (eqb n 1) → o ≡ None → n ≤ 1 → ⊥
  too_wild = go o
    where
      go : (p : Option Bool) → SomeIff p (n ≤ 1) (eqb n 1) → p ≡ None → n ≤ 1 → ⊥
      go None h e low = h low
      go (Some b) h e low = cc

  pub marked : (b : Bool) → SomeIff o (n ≤ 1) (eqb n 1) → o ≡ Some b → (n ≤ 1) × (b ≡ eqb n 1)
  marked b = go o
    where
      go : (p : Option Bool) → SomeIff p (n ≤ 1) (eqb n 1) → p ≡ Some b → (n ≤ 1) × (b ≡ eqb n 1)
      go None h e = absurd (cc)
      go (Some d) h e = let same : b ≡ d = cc in (h.0, same ∙ h.1)

-- ---- rows

pub length_type_rows_of : (n : ℕ) (numbers : List ℕ) → length (type_rows_of n numbers) ≡ 64
unfolding type_rows_of
length_type_rows_of zero numbers = refl
length_type_rows_of (suc n) numbers = length-set (type_rows_of n numbers) n (type_row_at numbers n) ∙ length_type_rows_of n numbers

type_rows_of_suc : (n : ℕ) (numbers : List ℕ) → set (type_rows_of n numbers) n (type_row_at numbers n) ≡ type_rows_of (suc n) numbers
unfolding type_rows_of
type_rows_of_suc n numbers = refl

pub type_rows_of_more : (n : ℕ) (numbers : List ℕ) (rows : List TypeRow) (r : TypeRow) → rows ≡ type_rows_of n numbers → r ≡ type_row_at numbers n
    → set rows n r ≡ type_rows_of (n + 1) numbers
type_rows_of_more n numbers rows r h e = rw (h, e) (type_rows_of_suc n numbers ∙ ap (λ (m : ℕ). type_rows_of m numbers) (sym (add-one n)))

pub type_rows_of_none : (numbers : List ℕ) (r : TypeRow) → r ≡ no_row → replicate 64 r ≡ type_rows_of 0 numbers
unfolding type_rows_of
type_rows_of_none numbers r h = ap (replicate 64) h

-- ---- how many rows

module _ (form : Form) (len : ℕ) where
  pub taken_many : 64 < form.count → 0 ≡ taken_of form len
  unfolding taken_of
  taken_many h = simp (lt-leb form.count 64 h)

  pub taken_short : form.count ≤ 64 → len < 5 * form.count → 0 ≡ taken_of form len
  unfolding taken_of
  taken_short h s = simp (le-leb form.count 64 h, lt-leb (5 * form.count) len s)

  pub taken_mark : form.count ≤ 64 → 5 * form.count ≤ len → 1 < form.fixed → 0 ≡ taken_of form len
  unfolding taken_of
  taken_mark h s m = simp (le-leb form.count 64 h, le-leb (5 * form.count) len s, lt-leb form.fixed 1 m)

  pub taken_all : form.count ≤ 64 → 5 * form.count ≤ len → form.fixed ≤ 1 → form.count ≡ taken_of form len
  unfolding taken_of
  taken_all h s m = simp (le-leb form.count 64 h, le-leb (5 * form.count) len s, le-leb form.fixed 1 m)

  -- what the form says, or none: the rows are 64 at most, and the numbers are there
  pub taken_within : (taken_of form len ≤ 64) × (5 * taken_of form len ≤ len)
  unfolding taken_of
  taken_within = go (leb form.count 64) refl (leb (5 * form.count) len) refl (leb form.fixed 1)
    where
      go : (a : Bool) → leb form.count 64 ≡ a → (b : Bool) → leb (5 * form.count) len ≡ b → (m : Bool)
          → (pick (and a (and b m)) form.count 0 ≤ 64) × (5 * pick (and a (and b m)) form.count 0 ≤ len)
      go true p true q true = (leb-true _ _ p, leb-true _ _ q)
      go true p true q false = (omega arith, omega arith)
      go true p false q m = (omega arith, omega arith)
      go false p b q m = (omega arith, omega arith)

-- ---- the table

pub table_is : (form : Form) (numbers : List ℕ) (n : ℕ) (rows : List TypeRow) → n ≡ taken_of form (length numbers) → rows ≡ type_rows_of n numbers
    → record { rows = rows; count = n; width = form.width; fixed = eqb form.fixed 1 } ≡ table_of form numbers
unfolding table_of
table_is form numbers n rows h e = rw (e, h)

pub table_answered : (t s : Table) (b : Bool) (given : Bool) → t ≡ s → b ≡ table_fits t → b ≡ given → table_verdict given ≡ table_verdict (table_fits s)
table_answered t s b given h f e = ap table_verdict (sym e ∙ f ∙ ap table_fits h)
