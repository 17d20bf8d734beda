-- The numbers of a row that a reading shows stand for that row.
-- Assumes nothing.
use mathlib.Core.Path.{◌≡◌, refl, ap}
use Prim.Native.Nat.{ℕ, ◌+◌, ◌-◌, ◌%◌, ◌^◌, ◌≤◌, ◌<◌}
use native.Mathlib.Omega.{arith}
use mathlib.Core.Bool.{Bool, true, false}
use lib.IntN.{ℤ, pos, negsuc}
use lib.Dec.{ltb, eqb}
use lib.Ieee.{binary32, of_bits}
use borrow.Author.Tests.{ltb-true, ltb-false, eqb-true, eqb-false}
use Rattle.wire.specs.Choose.{pick}
use Rattle.wire.specs.Number.{half, signed_of, Within, up, down}
use Rattle.wire.specs.Kind.{size_of}
use Rattle.wire.proofs.Promises.{signed_read_back}
use Rattle.payload.specs.declared.row.Row.{Row}
use Rattle.payload.specs.declared.row.Value.TheVariants.{Unsigned, Signed, Float32, Bytes}
use Rattle.payload.specs.Row.{plain, absent_row, members_row, number_row}
use Rattle.chudopolk.specs.Rows.{float64_row, row_of}
use Rattle.chudopolk.specs.Promises.{back, ShownBack}

-- ---- signed numbers

-- a number of no more than eight bytes is within eight
within : (h v : ℕ) (b : Bool) → ltb v h ≡ b → h ≤ 9223372036854775808 → v < h + h → Within 8 (pick b (pos v) (negsuc (h + h - 1 - v)))
within h v true e few fits = let small : v < h = ltb-true v h e in up {n = v} (omega arith)
within h v false e few fits = let large : h ≤ v = ltb-false v h e in down {n = h + h - 1 - v} (omega arith)

signed_within : (w v : ℕ) → half w ≤ 9223372036854775808 → v < half w + half w → Within 8 (signed_of w v)
unfolding signed_of
signed_within w v few fits = within (half w) v (ltb v (half w)) refl few fits

-- ---- the rows of one value each

back_unsigned : (n : ℕ) → back (plain (Unsigned n)) ≡ plain (Unsigned n)
unfolding row_of
back_unsigned n = refl

back_signed : (z : ℤ) → Within 8 z → back (plain (Signed z)) ≡ plain (Signed z)
unfolding row_of
back_signed z h = ap (λ (y : ℤ). plain (Signed y)) (signed_read_back 8 z h)

abbrev float32 : ℕ → Row
float32 v = record { value = Float32 (of_bits binary32 v); bits = v }

back_float32 : (v : ℕ) → v < 4294967296 → back (float32 v) ≡ float32 v
unfolding row_of
back_float32 v h =
    let low : v % 4294967296 ≡ v = omega arith in
    ap (λ (n : ℕ). record { value = Float32 (of_bits binary32 n); bits = v }) low

back_float64 : (v : ℕ) → back (float64_row v) ≡ float64_row v
unfolding row_of
back_float64 v = refl

-- ---- the row of a number

-- half of the numbers of a signed kind
half_few : (k : ℕ) → 5 < k → k < 10 → (half (size_of k) ≤ 9223372036854775808) × (256 ^ size_of k ≡ half (size_of k) + half (size_of k))
half_few k more less = go (eqb k 6) refl (eqb k 7) refl (eqb k 8) refl
  where
    go : (a : Bool) → eqb k 6 ≡ a → (b : Bool) → eqb k 7 ≡ b → (c : Bool) → eqb k 8 ≡ c
        → (half (size_of k) ≤ 9223372036854775808) × (256 ^ size_of k ≡ half (size_of k) + half (size_of k))
    go true p b q c r = rw (eqb-true k 6 p) (omega arith, refl)
    go false p true q c r = rw (eqb-true k 7 q) (omega arith, refl)
    go false p false q true r = rw (eqb-true k 8 r) (omega arith, refl)
    go false p false q false r =
        let no6 : k ≡ 6 → ⊥ = eqb-false k 6 p in
        let no7 : k ≡ 7 → ⊥ = eqb-false k 7 q in
        let no8 : k ≡ 8 → ⊥ = eqb-false k 8 r in
        let nine : k ≡ 9 = omega arith in
        rw nine (omega arith, refl)

number_by : (k v : ℕ) → v < 256 ^ size_of k → (a : Bool) → eqb k 1 ≡ a → (b : Bool) → ltb k 6 ≡ b → (c : Bool) → ltb k 10 ≡ c
    → (d : Bool) → eqb k 10 ≡ d
    → (let row = pick a (plain (Unsigned (v % 2)))
    (pick b (plain (Unsigned v)) (pick c (plain (Signed (signed_of (size_of k) v))) (pick d (float32 v) (float64_row v)))) in back row ≡ row)
number_by k v fits true p b q c r d s = back_unsigned (v % 2)
number_by k v fits false p true q c r d s = back_unsigned v
number_by k v fits false p false q true r d s =
    let more : 6 ≤ k = ltb-false k 6 q in
    let less : k < 10 = ltb-true k 10 r in
    let law = half_few k (omega arith) less in
    back_signed (signed_of (size_of k) v) (signed_within (size_of k) v law.0 (rw law.1 at fits))
number_by k v fits false p false q false r true s =
    let ten : k ≡ 10 = eqb-true k 10 s in
    let small : v < 4294967296 = rw ten at fits in
    back_float32 v small
number_by k v fits false p false q false r false s = back_float64 v

number_back : (k v : ℕ) → v < 256 ^ size_of k → back (number_row k v) ≡ number_row k v
unfolding number_row
number_back k v fits = number_by k v fits (eqb k 1) refl (ltb k 6) refl (ltb k 10) refl (eqb k 10) refl

back_fixed : (back absent_row ≡ absent_row) × (back members_row ≡ members_row)
unfolding row_of
back_fixed = (refl, refl)

back_run : (place len : ℕ) → back (plain (Bytes place len)) ≡ plain (Bytes place len)
unfolding row_of
back_run place len = refl

pub shown_back : ShownBack
shown_back =
    record { absent_back = back_fixed.0; members_back = back_fixed.1; run_back = back_run; number_back = λ k v some few fits. number_back k v fits }
