-- The measuring of rows, from the last to the first: each answer of the loop, and one turn of it.
-- Assumes nothing.
use mathlib.Core.Path.{◌≡◌, refl, sym, ap, ◌∙◌}
use mathlib.Core.Bool.{Bool, true, false}
use mathlib.Core.List.{List, [], ◌∷◌, ◌++◌}
use Prim.Native.Nat.{ℕ, zero, suc, ◌+◌, ◌-◌, ◌*◌, ◌≤◌, ◌<◌}
use native.Mathlib.Omega.{arith}
use native.Mathlib.Decide.{dec_le}
use lib.ListN.{length, get_or, set, length-set, length-append}
use lib.Seq.{get_or-set_same, get_or-set_other}
use lib.Dec.{leb, ltb, eqb}
use borrow.Author.Tests.{le-leb, lt-leb, le-ltb}
use Rattle.std.proofs.Common.{Err}
use Rattle.wire.specs.Choose.{pick, or}
use Rattle.wire.specs.declared.verdict.Verdict.TheVariants.{Wide}
use Rattle.payload.specs.declared.row.Value.{Value}
use Rattle.payload.specs.declared.row.Value.TheVariants.{Absent, Unsigned, Signed, Float32, Float64, Bytes, Members}
use Rattle.payload.specs.declared.fine.FineRows.{FineRows}
use Rattle.payload.specs.Cells.{level_in, kind_in, row_in}
use Rattle.payload.specs.Parts.{under, wide_under}
use Rattle.payload.specs.Sizes.{field_top, content_len, own_len, measured_is}
use Rattle.payload.specs.Fine.{cell_at, value_at, parts_at, bytes_at, piece_at, held_at}
use Rattle.wire.proofs.KindLaws.{size_small}
use Rattle.payload.proofs.Joined.{or_true}
use Rattle.payload.proofs.Writing.FineLaws.{parts_end, parts_more, row_at, fits_at}
use Rattle.payload.proofs.Writing.SizeLaws.{length_piece, wide_piece}

-- the most bytes of a row's own member, where each content fits its length field
abbrev pub row_most : ℕ
row_most = 4294967310

top_most : (w : ℕ) → field_top w ≤ 4294967296
top_most w = go (eqb w 1) (eqb w 2)
  where
    go : (a b : Bool) → pick a 256 (pick b 65536 4294967296) ≤ 4294967296
    go true b = omega arith
    go false true = omega arith
    go false false = omega arith

pub own_most : (w k n : ℕ) (u : Value) → w ≤ 4 → k < 15 → content_len k u n < field_top w → own_len w k u < row_most
own_most w k n Absent few h e = omega arith
own_most w k n (Unsigned x) few h e = omega (arith, size_small k h)
own_most w k n (Signed z) few h e = omega (arith, size_small k h)
own_most w k n (Float32 x) few h e = omega (arith, size_small k h)
own_most w k n (Float64 x) few h e = omega (arith, size_small k h)
own_most w k n (Bytes place len) few h e = omega (arith, top_most w)
own_most w k n Members few h e = omega arith

module _ (f : FineRows) where
  abbrev pub width : ℕ
  width = f.table.now.width

  abbrev pub count : ℕ
  count = f.table.now.count

  -- ---- one row, and the rows behind it

  module _ (i : ℕ) (h : i < count) where
    pub piece_length : (n : ℕ) → length (piece_at f i n) ≡ own_len width (kind_in (cell_at f i)) (value_at f i).value
    piece_length n = length_piece width f.wire f.wires (row_in (cell_at f i)) (row_at f i h) f.content.now (value_at f i).value (value_at f i).bits n (fits_at f i h)

    pub under_more : (l : ℕ) → length (under width l (parts_at f i))
        ≡ pick (ltb (level_in (cell_at f i)) l) 0
        (own_len width (kind_in (cell_at f i)) (value_at f i).value + length (under width l (parts_at f (suc i))))
    unfolding under
    under_more l = rw (parts_more f i h) (go (ltb (level_in (cell_at f i)) l))
      where
        go : (a : Bool) → length (pick a [] (piece_at f i (held_at f i) ++ under width l (parts_at f (suc i))))
            ≡ pick a 0 (own_len width (kind_in (cell_at f i)) (value_at f i).value + length (under width l (parts_at f (suc i))))
        go true = refl
        go false =
            length-append (piece_at f i (held_at f i)) (under width l (parts_at f (suc i)))
            ∙ ap (◌+ length (under width l (parts_at f (suc i)))) (piece_length (held_at f i))

    pub wide_more : wide_under width 1 (parts_at f i)
        ≡ or (leb (field_top width) (content_len (kind_in (cell_at f i)) (value_at f i).value (held_at f i))) (wide_under width 1 (parts_at f (suc i)))
    unfolding wide_under
    wide_more =
        rw (
          parts_more f i h,
          le-ltb (level_in (cell_at f i)) 1 (row_at f i h).level_some,
          wide_piece width f.wire f.wires (row_in (cell_at f i)) (row_at f i h) f.content.now (value_at f i).value (value_at f i).bits (held_at f i) (fits_at f i h),
        )

  -- a row that is too wide makes all rows so
  wide_back : (i : ℕ) → i ≤ count → wide_under width 1 (parts_at f i) ≡ true → wide_under width 1 (parts_at f 0) ≡ true
  wide_back zero h e = e
  wide_back (suc i) h e = wide_back i (omega arith) (wide_more i (omega arith) ∙ rw e (or_true _))

  -- ---- what holds of the rows from row i on

  pub record Sizing (held sums : List ℕ) (i : ℕ) : Type 0 where
    pub long : length held ≡ 64
    pub five : length sums ≡ 5
    pub sum_is : (d : ℕ) → d < 5 → get_or sums d 0 ≡ length (under width (suc d) (parts_at f i))
    pub room : (d : ℕ) → d < 5 → get_or sums d 0 ≤ (count - i) * row_most
    pub narrow : wide_under width 1 (parts_at f i) ≡ false
    pub held_is : (j : ℕ) → i ≤ j → j < count → get_or held j 0 ≡ held_at f j

  abbrev pub zeros : List ℕ
  zeros = 0 ∷ (0 ∷ (0 ∷ (0 ∷ (0 ∷ []))))

  no_sum : (d : ℕ) → get_or zeros d 0 ≡ 0
  no_sum zero = refl
  no_sum (suc zero) = refl
  no_sum (suc (suc zero)) = refl
  no_sum (suc (suc (suc zero))) = refl
  no_sum (suc (suc (suc (suc zero)))) = refl
  no_sum (suc (suc (suc (suc (suc d))))) = refl

  pub sizing_none : (held : List ℕ) → length held ≡ 64 → Sizing held zeros count
  unfolding under wide_under
  sizing_none held e = record {
    long = e;
    five = refl;
    sum_is = λ d h. rw (parts_end f count (omega arith)) (no_sum d);
    room = λ d h. rw (no_sum d) (omega arith);
    narrow = rw (parts_end f count (omega arith));
    held_is = λ j a b. absurd (omega arith);
  }

  module _ (held sums : List ℕ) (i : ℕ) (inv : Sizing held sums (suc i)) (h : i < count) (below : ℕ) (eb : below ≡ get_or sums (level_in (cell_at f i)) 0) where
    pub below_is : below ≡ held_at f i
    below_is = let l = (row_at f i h).level_in_lem in eb ∙ inv.sum_is (level_in (cell_at f i)) (omega arith)

    pub sizing_wide : field_top width ≤ content_len (kind_in (cell_at f i)) (value_at f i).value below
        → Err Wide ≡ measured_is (wide_under width 1 (parts_at f 0)) (length (bytes_at f 0))
    sizing_wide e =
        let row : wide_under width 1 (parts_at f i) ≡ true = wide_more i h ∙ rw (← below_is, le-leb _ _ e) in
        rw (wide_back i (omega arith) row)

    module _ (e : content_len (kind_in (cell_at f i)) (value_at f i).value below < field_top width) where
      pub own_few : own_len width (kind_in (cell_at f i)) (value_at f i).value < row_most
      own_few = own_most width (kind_in (cell_at f i)) below (value_at f i).value f.wires.few (row_at f i h).kind_in_lem e

      pub sizing_next : (after : List ℕ) → length after ≡ 5
          → ((d : ℕ) → d < 5 → get_or after d 0
          ≡ pick (ltb (level_in (cell_at f i)) (suc d)) 0 (own_len width (kind_in (cell_at f i)) (value_at f i).value + get_or sums d 0))
          → Sizing (set held i below) after i
      sizing_next after ea each = record {
        long = simp length-set inv.long;
        five = ea;
        sum_is = λ d q. each d q ∙ rw (inv.sum_is d q) (sym (under_more i h (suc d)));
        room = λ d q. rw (each d q) (go (ltb (level_in (cell_at f i)) (suc d)) (inv.room d q));
        narrow = wide_more i h ∙ rw (← below_is, lt-leb _ _ e) inv.narrow;
        held_is = λ j a b. at j a b (dec_le (suc i) j);
      }
        where
          go : {x : ℕ} (a : Bool) → x ≤ (count - suc i) * row_most
              → pick a 0 (own_len width (kind_in (cell_at f i)) (value_at f i).value + x) ≤ (count - i) * row_most
          go true q = omega arith
          go false q = omega (arith, own_few)

          at : (j : ℕ) → i ≤ j → j < count → Dec (suc i ≤ j) → get_or (set held i below) j 0 ≡ held_at f j
          at j a b (yes d) = get_or-set_other held i j below 0 (λ z. omega arith) ∙ inv.held_is j d b
          at j a b (no d) =
              let z : j ≡ i = omega arith in
              rw z (get_or-set_same held i below 0 (omega (arith, inv.long, f.table.now.sound.fine.few)) ∙ below_is)
