-- Lists of bytes put together and cut: slices, fields and stores.
-- Assumes nothing.
use mathlib.Core.Path.{◌≡◌, refl, sym, ap, ◌∙◌}
use Prim.Native.Nat.{ℕ, suc, ◌+◌, ◌-◌, ◌≤◌}
use native.Mathlib.Omega.{arith}
use mathlib.Core.List.{List, [], ◌∷◌, ◌++◌}
use lib.ListN.{length, take, drop, set, take-append-drop}
use lib.Seq.{
  sets,
  slice,
  take_at,
  take-take,
  take-append-le,
  take-append-add,
  take-set-le,
  drop-drop,
  drop-append-add,
  drop-append_seam,
}
use Rattle.wire.specs.Number.{AreBytes, big, number_of}
use Rattle.wire.specs.Header.{field_at}
use Rattle.wire.proofs.NumberLaws.{bytes_right}
use Rattle.wire.proofs.PartLaws.{take_drop, cut_slice}

pub bytes_drop : (n : ℕ) (xs : List ℕ) → AreBytes xs → AreBytes (drop n xs)
bytes_drop n xs b = bytes_right (take n xs) (drop n xs) (rw (take-append-drop n xs) b)

-- ---- slices

pub slice_split : (a b c : ℕ) (l : List ℕ) → a ≤ b → b ≤ c → slice a c l ≡ slice a b l ++ slice b c l
slice_split a b c l h k =
    let e : a + (b - a) ≡ b = omega arith in
    sym (take-append-drop (b - a) (slice a c l)) ∙ rw (cut_slice a b (take c l) h, take-take b c l k, drop-drop (b - a) a (take c l), e)

-- the part between what stands before and behind it
pub slice_middle : (xs ys zs : List ℕ) (n : ℕ) → length ys ≡ n → slice (length xs) (length xs + n) (xs ++ (ys ++ zs)) ≡ ys
slice_middle xs ys zs n e = rw (take-append-add xs (ys ++ zs) n, take_at ys zs n e) (drop-append_seam xs ys)

-- a slice of a slice
slice_slice : (file : List ℕ) (at end i w : ℕ) → at + i + w ≤ end → slice i (i + w) (slice at end file) ≡ slice (at + i) (at + i + w) file
slice_slice file at end i w h =
    let e : at + (i + w) ≡ at + i + w = omega arith in
    ap (drop i) (take_drop at (i + w) (take end file) ∙ rw (e, take-take (at + i + w) end file h)) ∙ drop-drop i at (take (at + i + w) file)

-- ---- fields

-- a field of a slice is a field of the whole
pub field_in : (file : List ℕ) (at end i w : ℕ) → at + i + w ≤ end → field_at i w (slice at end file) ≡ field_at (at + i) w file
unfolding field_at
field_in file at end i w h = ap (number_of big) (slice_slice file at end i w h)

pub field_behind : (xs ys : List ℕ) (k w : ℕ) → field_at (length xs + k) w (xs ++ ys) ≡ field_at k w ys
unfolding field_at
field_behind xs ys k w =
    let e : length xs + k + w ≡ length xs + (k + w) = omega arith in
    rw (e, take-append-add xs ys (k + w), drop-append-add xs (take (k + w) ys) k)

pub field_before : (xs ys : List ℕ) (k w : ℕ) → k + w ≤ length xs → field_at k w (xs ++ ys) ≡ field_at k w xs
unfolding field_at
field_before xs ys k w h = rw (take-append-le (k + w) xs ys h)

-- ---- stores

-- stores at or behind a place leave what is before it
pub take_sets : (n : ℕ) (l : List ℕ) (i : ℕ) (xs : List ℕ) → n ≤ i → take n (sets l i xs) ≡ take n l
take_sets n l i [] h = refl
take_sets n l i (x ∷ xs) h = take_sets n (set l i x) (suc i) xs (omega arith) ∙ take-set-le n l i x h
