-- Values and their kinds: a number's range by its first byte, and runs.
-- Assumes nothing.
use mathlib.Core.Path.{◌≡◌, refl, sym, ◌∙◌}
use mathlib.Core.Bool.{Bool, true, false}
use mathlib.Core.List.{List, [], ◌∷◌}
use Prim.Native.Nat.{ℕ, zero, suc, ◌+◌, ◌-◌, ◌*◌, ◌/◌, ◌%◌, ◌^◌, ◌≤◌, ◌<◌}
use native.Mathlib.Nat.{mul-suc, pow-succ', pow-le-pow_right, div-lt_iff_lt-mul, zero-add, suc-add}
use native.Mathlib.Omega.{arith}
use lib.Seq.{slice, take-nil}
use lib.Pow.{pow-add}
use lib.Dec.{ltb, eqb}
use lib.IntN.{ℤ, pos, negsuc}
use mir.Syntax.{w64}
use mir.Val.{SFits}
use borrow.Author.Tests.{ltb-true, lt-ltb, le-ltb, ltb-false, ne_eqb, eq-eqb}
use Rattle.wire.specs.Choose.{and}
use Rattle.wire.specs.Number.{half, twos_of}
use Rattle.wire.specs.Kind.{size_of, string, array}
use Rattle.wire.specs.Text.{text_fits}
use Rattle.wire.specs.Part.{run_of}
use Rattle.payload.specs.declared.table.TypeRow.{TypeRow}
use Rattle.payload.specs.Table.{in_range}
use Rattle.payload.specs.Judging.{unsigned_fits, signed_in, signed_fits, run_fits}
use Rattle.payload.specs.Judging.{flip_of}
use Rattle.wire.proofs.NumberLaws.{pow_bytes}
use Rattle.wire.proofs.KindLaws.{size_small, number_some}
use Rattle.payload.proofs.Joined.{and_left, and_right, refuted}
use Rattle.payload.proofs.Rules.RowLaws.{range_in, in_range_lem}

-- ---- a number's range, by its first byte

pub first_below : (num m top : ℕ) → ltb (num / 2 ^ (8 * m)) top ≡ ltb num (top * 256 ^ m)
first_below num m top = rw (← pow_bytes m) (go (ltb (num / 256 ^ m) top) refl)
  where
    some : 0 < 256 ^ m
    some = pow-le-pow_right {n = 256} (omega arith) {i = 0} {j = m} (omega arith)

    go : (b : Bool) → ltb (num / 256 ^ m) top ≡ b → b ≡ ltb num (top * 256 ^ m)
    go true e = sym (lt-ltb num (top * 256 ^ m) ((div-lt_iff_lt-mul {k = 256 ^ m} {x = num} {y = top} some).0 (ltb-true (num / 256 ^ m) top e)))
    go false e =
        let not-below : num < top * 256 ^ m → num / 256 ^ m < top = (div-lt_iff_lt-mul {k = 256 ^ m} {x = num} {y = top} some).1 in
        sym (refuted (ltb num (top * 256 ^ m)) (λ t. omega (arith, not-below (ltb-true num (top * 256 ^ m) t), ltb-false (num / 256 ^ m) top e)))

pub all_bytes : (n : ℕ) → 0 < n → 256 * 256 ^ (n - 1) ≡ 256 ^ n
all_bytes zero h = absurd (omega arith)
all_bytes (suc n) h = let e : suc n - 1 ≡ n = omega arith in rw e (sym (pow-succ' 256 n))

pub half_bytes : (n : ℕ) → 0 < n → 128 * 256 ^ (n - 1) ≡ half n
half_bytes zero h = absurd (omega arith)
half_bytes (suc n) h =
    let e : 8 * suc n - 1 ≡ 7 + 8 * n = omega (arith, mul-suc 8 n) in
    let d : suc n - 1 ≡ n = omega arith in
    rw (e, d, pow-add 2 7 (8 * n), ← pow_bytes n)

pub flip_in : (w : ℕ) (z : ℤ) → SFits w64 z → signed_in w z ≡ ltb (flip_of (twos_of 8 z)) (half w)
unfolding twos_of
flip_in w (pos n) f = rw (lt-ltb n 9223372036854775808 f.sfits)
flip_in w (negsuc n) f =
    let h : n < 9223372036854775808 = f.sfits in
    let e : 18446744073709551615 - (18446744073709551615 - n) ≡ n = omega arith in
    rw (le-ltb (18446744073709551615 - n) 9223372036854775808 (omega arith), e)

-- ---- a run

pub slice_run : (buf : List ℕ) (place len : ℕ) → slice place (place + len) buf ≡ run_of buf place len
slice_run buf zero len = rw (zero-add len)
slice_run [] (suc place) len = rw (take-nil (suc place + len), take-nil len)
slice_run (x ∷ buf) (suc place) len = rw (suc-add place len) (slice_run buf place len)

-- ---- each answer of the tests of numbers

in_false : (least most k : ℕ) → (least ≤ k → k ≤ most → ⊥) → (b : Bool) → and (in_range least most k) b ≡ false
in_false least most k h b = rw (refuted (in_range least most k) (λ e. h (range_in least most k e).0 (range_in least most k e).1))

module _ (k n : ℕ) where
  pub unsigned_bool : k ≡ 1 → ltb n 2 ≡ unsigned_fits k n
  unfolding unsigned_fits
  unsigned_bool e = rw (eq-eqb k 1 e)

  pub unsigned_past : (k ≡ 1 → ⊥) → 5 < k → false ≡ unsigned_fits k n
  unfolding unsigned_fits
  unsigned_past ne h = rw (ne_eqb k 1 ne) (sym (in_false 2 5 k (λ a b. omega arith) _))

  pub unsigned_in : 0 < k → (k ≡ 1 → ⊥) → k ≤ 5 → (s : ℕ) → s ≡ size_of k → (b : Bool) → b ≡ ltb n (256 * 256 ^ (s - 1)) → b ≡ unsigned_fits k n
  unfolding unsigned_fits
  unsigned_in some ne h s es b e =
      let more : 2 ≤ k = omega (arith, ne) in
      rw (ne_eqb k 1 ne, in_range_lem 2 5 k more h) (e ∙ rw (es, all_bytes (size_of k) (number_some k some (omega arith))))

module _ (k : ℕ) (z : ℤ) where
  pub signed_other : (6 ≤ k → k ≤ 9 → ⊥) → false ≡ signed_fits k z
  unfolding signed_fits
  signed_other h = sym (in_false 6 9 k h (signed_in (size_of k) z))

  pub signed_in_lem : 6 ≤ k → k ≤ 9 → SFits w64 z → (s : ℕ) → s ≡ size_of k → (f : ℕ) → f ≡ flip_of (twos_of 8 z) → (b : Bool) → b
      ≡ ltb f (128 * 256 ^ (s - 1))
      → b ≡ signed_fits k z
  unfolding signed_fits
  signed_in_lem least most fits s es f ef b e =
      rw (in_range_lem 6 9 k least most, flip_in (size_of k) z fits) (e ∙ rw
      (es, ef, half_bytes (size_of k) (number_some k (omega arith) (omega arith))))

half_most : (w : ℕ) → w ≤ 8 → half w ≤ 9223372036854775808
half_most w h = pow-le-pow_right {n = 2} (omega arith) {i = 8 * w - 1} {j = 63} (omega arith)

-- a signed number that fits a kind has eight bytes at most
pub signed_small : (k : ℕ) (z : ℤ) → signed_fits k z ≡ true → SFits w64 z
unfolding signed_fits
signed_small k z e = go z (range_in 6 9 k (and_left (in_range 6 9 k) (signed_in (size_of k) z) e)) (and_right (in_range 6 9 k) (signed_in (size_of k) z) e)
  where
    go : (z : ℤ) → (6 ≤ k) × (k ≤ 9) → signed_in (size_of k) z ≡ true → SFits w64 z
    go (pos n) h e = record { sfits = omega (arith, ltb-true n (half (size_of k)) e, half_most (size_of k) (size_small k (omega arith))) }
    go (negsuc n) h e = record { sfits = omega (arith, ltb-true n (half (size_of k)) e, half_most (size_of k) (size_small k (omega arith))) }

-- ---- each answer of the test of runs

module _ (buf : List ℕ) (r : TypeRow) (place len : ℕ) where
  pub run_text : r.kind ≡ string → (b : Bool) → b ≡ text_fits (slice place (place + len) buf) → b ≡ run_fits buf r place len
  unfolding run_fits
  run_text k b e = rw (eq-eqb r.kind string k, ← slice_run buf place len) e

  pub run_other : (r.kind ≡ string → ⊥) → (r.kind ≡ array → ⊥) → false ≡ run_fits buf r place len
  unfolding run_fits
  run_other a b = rw (ne_eqb r.kind string a, ne_eqb r.kind array b)

  pub run_array : (r.kind ≡ string → ⊥) → r.kind ≡ array → (s : ℕ) → s ≡ size_of r.elem → eqb (len % s) 0 ≡ run_fits buf r place len
  unfolding run_fits
  run_array a k s e = rw (ne_eqb r.kind string a, eq-eqb r.kind array k, e)
