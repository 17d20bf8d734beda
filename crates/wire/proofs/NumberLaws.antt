-- Numbers as bytes: their length, each byte, the way back, and two's complement.
-- Assumes nothing.
use mathlib.Core.Path.{◌≡◌, refl, sym, ap, ◌∙◌}
use mathlib.Core.Bool.{Bool, true, false}
use mathlib.Core.Logic.{◌≢◌}
use mathlib.Core.List.{List, [], ◌∷◌, ◌++◌}
use Prim.Native.Nat.{ℕ, zero, suc, ◌+◌, ◌-◌, ◌*◌, ◌/◌, ◌%◌, ◌^◌, ◌≤◌, ◌<◌}
use native.Mathlib.Nat.{
  add-zero,
  add-suc,
  add_comm,
  mul-suc,
  mul_assoc,
  pow-suc,
  pow-le-pow_right,
  mul-le-mul_right,
  lt_of_lt_of_le,
  div-div-eq-div-mul,
  div-eq_of_lt,
  mul-add-div_right,
  mul-add-mod_self_right,
  mod-eq_of_lt,
}
use native.Mathlib.Numerals.{add-one}
use native.Mathlib.Omega.{arith}
use lib.Dec.{ltb}
use lib.IntN.{ℤ, pos, negsuc}
use lib.ListN.{length, get_or, take, drop, set, length-append, length-drop}
use lib.Pow.{pow-add, pow_pos, mod-pow-add, mod-mod-pow, field, not_mod}
use lib.Seq.{slice, sets, set_comm, take-suc, drop-append-le, length-take-le, slice_empty, length-slice, get_or-take, get_or-drop}
use borrow.Author.Tests.{lt-ltb, le-ltb, ltb-true, ltb-false}
use Rattle.wire.specs.Choose.{pick}
use Rattle.wire.specs.Number.{AreBytes, big, number_of, number_bytes, half, signed_of, twos_of, Within, up, down}

-- ---- lists of bytes

pub bytes_nil : AreBytes []
bytes_nil i = omega arith

pub bytes_cons : (x : ℕ) (xs : List ℕ) → x < 256 → AreBytes xs → AreBytes (x ∷ xs)
bytes_cons x xs h t zero = h
bytes_cons x xs h t (suc i) = t i

pub bytes_left : (xs ys : List ℕ) → AreBytes (xs ++ ys) → AreBytes xs
bytes_left [] ys h = bytes_nil
bytes_left (x ∷ xs) ys h = bytes_cons x xs (h 0) (bytes_left xs ys (λ i. h (suc i)))

pub bytes_right : (xs ys : List ℕ) → AreBytes (xs ++ ys) → AreBytes ys
bytes_right [] ys h = h
bytes_right (x ∷ xs) ys h = bytes_right xs ys (λ i. h (suc i))

-- ---- the number that bytes are

-- one byte more at the end
pub number_snoc : (xs : List ℕ) (x : ℕ) → number_of big (xs ++ (x ∷ [])) ≡ number_of big xs * 256 + x
unfolding number_of
number_snoc [] x = omega arith
number_snoc (y ∷ xs) x =
    let e : length xs + 1 ≡ suc (length xs) = add-one (length xs) in
    rw (length-append xs (x ∷ []), e, pow-suc 256 (length xs), number_snoc xs x, ← mul_assoc y (256 ^ length xs) 256) (omega arith)

pub number_below : (xs : List ℕ) → AreBytes xs → number_of big xs < 256 ^ length xs
unfolding number_of
number_below [] h = omega arith
number_below (x ∷ xs) h =
    rw (pow-suc 256 (length xs))
    (omega (arith, number_below xs (λ i. h (suc i)), mul-le-mul_right (256 ^ length xs) (h 0)))

pub bytes_take : (n : ℕ) (xs : List ℕ) → AreBytes xs → AreBytes (take n xs)
bytes_take zero xs h i = omega arith
bytes_take (suc n) [] h i = h i
bytes_take (suc n) (x ∷ xs) h zero = h 0
bytes_take (suc n) (x ∷ xs) h (suc i) = bytes_take n xs (λ j. h (suc j)) i

pub bytes_append : (xs ys : List ℕ) → AreBytes xs → AreBytes ys → AreBytes (xs ++ ys)
bytes_append [] ys h k i = k i
bytes_append (x ∷ xs) ys h k zero = h 0
bytes_append (x ∷ xs) ys h k (suc i) = bytes_append xs ys (λ j. h (suc j)) k i

pub bytes_slice : (f t : ℕ) (xs : List ℕ) → AreBytes xs → AreBytes (slice f t xs)
bytes_slice f t xs h i = rw (get_or-drop f (take t xs) i 0) (bytes_take t xs h (f + i))

-- ---- the bytes of a number

pub length_number_bytes : (w v : ℕ) → length (number_bytes big w v) ≡ w
unfolding number_bytes
length_number_bytes zero v = refl
length_number_bytes (suc w) v = ap suc (length_number_bytes w v)

pub get_d_number_bytes : (w v i : ℕ) → i < w → get_or (number_bytes big w v) i 0 ≡ v / 256 ^ (w - 1 - i) % 256
unfolding number_bytes
get_d_number_bytes zero v i h = absurd (omega arith)
get_d_number_bytes (suc w) v zero h = let e : suc w - 1 - 0 ≡ w = omega arith in rw e
get_d_number_bytes (suc w) v (suc i) h = let e : suc w - 1 - suc i ≡ w - 1 - i = omega arith in rw e (get_d_number_bytes w v i (omega arith))

pub bytes_number_bytes : (w v : ℕ) → AreBytes (number_bytes big w v)
unfolding number_bytes
bytes_number_bytes zero v i = omega arith
bytes_number_bytes (suc w) v zero = omega arith
bytes_number_bytes (suc w) v (suc i) = bytes_number_bytes w v i

pub pow_bytes : (w : ℕ) → 256 ^ w ≡ 2 ^ (8 * w)
pow_bytes zero = refl
pow_bytes (suc w) = pow-suc 256 w ∙ ap (◌* 256) (pow_bytes w) ∙ sym (pow-add 2 (8 * w) 8) ∙ ap (2 ^◌) (sym (mul-suc 8 w))

pow_more : (w : ℕ) → 256 ^ suc w ≡ 2 ^ (8 + 8 * w)
pow_more w = pow_bytes (suc w) ∙ ap (2 ^◌) (mul-suc 8 w ∙ add_comm (8 * w) 8)

-- ---- from a number to bytes and back

pub number_mod : (w v : ℕ) → number_of big (number_bytes big w v) ≡ v % 256 ^ w
unfolding number_of number_bytes
number_mod zero v = omega arith
number_mod (suc w) v = rw (length_number_bytes w v, number_mod w v, pow_more w, pow_bytes w, mod-pow-add v 8 (8 * w))

pub number_back : (w v : ℕ) → v < 256 ^ w → number_of big (number_bytes big w v) ≡ v
number_back w v h = number_mod w v ∙ mod-eq_of_lt h

-- numbers that are equal in their low w bytes
pub same_bytes : (w v u : ℕ) → v % 256 ^ w ≡ u % 256 ^ w → number_bytes big w v ≡ number_bytes big w u
unfolding number_bytes
same_bytes zero v u e = refl
same_bytes (suc w) v u e = cc (head v, head u, same_bytes w v u (sym (tail v) ∙ ap (◌% 256 ^ w) e ∙ tail u))
  where
    head : (n : ℕ) → n % 256 ^ suc w / 256 ^ w ≡ n / 256 ^ w % 256
    head n = rw (pow_more w, pow_bytes w) (field n 8 (8 * w))

    tail : (n : ℕ) → n % 256 ^ suc w % 256 ^ w ≡ n % 256 ^ w
    tail n = rw (pow_more w, pow_bytes w) (mod-mod-pow n 8 (8 * w))

pub bytes_back : (xs : List ℕ) → AreBytes xs → number_bytes big (length xs) (number_of big xs) ≡ xs
unfolding number_of number_bytes
bytes_back [] h = refl
bytes_back (x ∷ xs) h =
    let n = length xs in
    let small : number_of big xs < 256 ^ n = number_below xs (λ i. h (suc i)) in
    let some : 0 < 256 ^ n = omega arith in
    let first : (x * 256 ^ n + number_of big xs) / 256 ^ n % 256 ≡ x =
    rw (mul-add-div_right some x (number_of big xs), div-eq_of_lt small, add-zero x) (mod-eq_of_lt (h 0)) in
    let rest = same_bytes n (x * 256 ^ n + number_of big xs) (number_of big xs) (mul-add-mod_self_right x (256 ^ n) (number_of big xs)) in
    rw (first, rest, bytes_back xs (λ i. h (suc i)))

-- ---- signed numbers

module _ (w : ℕ) (some : 0 < w) where
  pub half_twice : half w + half w ≡ 256 ^ w
  half_twice =
      let e : 8 * w ≡ suc (8 * w - 1) = omega arith in
      let d : half w + half w ≡ half w * 2 = omega arith in
      d ∙ sym (pow-suc 2 (8 * w - 1)) ∙ ap (2 ^◌) (sym e) ∙ sym (pow_bytes w)

  pub twos_signed : (v : ℕ) → v < 256 ^ w → twos_of w (signed_of w v) ≡ v
  unfolding twos_of signed_of
  twos_signed v h = go (ltb v (half w)) refl
    where
      go : (b : Bool) → ltb v (half w) ≡ b → twos_of w (pick b (pos v) (negsuc (half w + half w - 1 - v))) ≡ v
      go true e = refl
      go false e = omega (arith, half_twice)

  pub signed_within : (v : ℕ) → v < 256 ^ w → Within w (signed_of w v)
  unfolding signed_of
  signed_within v h = go (ltb v (half w)) refl
    where
      go : (b : Bool) → ltb v (half w) ≡ b → Within w (pick b (pos v) (negsuc (half w + half w - 1 - v)))
      go true e = up (ltb-true v (half w) e)
      go false e = down {n = half w + half w - 1 - v} (omega (arith, half_twice, ltb-false v (half w) e))

  pub twos_below : {z : ℤ} → Within w z → twos_of w z < 256 ^ w
  unfolding twos_of
  twos_below (up h) = omega (arith, half_twice)
  twos_below (down h) = omega (arith, half_twice)

  -- the low bytes of the widest are those of w bytes
  pub low_twos : {z : ℤ} → w ≤ 8 → Within w z → number_bytes big w (twos_of 8 z) ≡ number_bytes big w (twos_of w z)
  unfolding twos_of
  low_twos few (up h) = refl
  low_twos few (down {n} h) =
      let j = 64 - 8 * w in
      let e : j + 8 * w ≡ 64 = omega arith in
      let small : n < 2 ^ (8 * w) = omega (arith, half_twice, pow_bytes w) in
      let t = rw e at (not_mod j (8 * w) small) in
      same_bytes w (half 8 + half 8 - 1 - n) (half w + half w - 1 - n)
      (rw (half_twice, pow_bytes w) (t ∙ sym (mod-eq_of_lt (omega (arith, pow_pos (8 * w))))))

pub signed_twos : (w : ℕ) {z : ℤ} → Within w z → signed_of w (twos_of w z) ≡ z
unfolding twos_of signed_of
signed_twos w (up {n} h) = rw (lt-ltb n (half w) h)
signed_twos w (down {n} h) =
    let e : half w + half w - 1 - (half w + half w - 1 - n) ≡ n = omega arith in
    rw (le-ltb (half w + half w - 1 - n) (half w) (omega arith), e)

-- ---- one turn of the loop that reads

-- the bytes that the loop goes over
module _ (p : List ℕ) (at w : ℕ) (h : at + w ≤ length p) where
  pub run_length : length (take (at + w - at) (drop at p)) ≡ w
  run_length =
      let e : at + w - at ≡ w = omega arith in
      rw e (length-take-le w (drop at p) (omega (arith, length-drop at p)))

  pub run_byte : (i : ℕ) → i < w → get_or (take (at + w - at) (drop at p)) i 0 ≡ get_or p (at + i) 0
  run_byte i k = get_or-take (at + w - at) (drop at p) i 0 (omega arith) ∙ get_or-drop at p i 0

  -- of a byte that was read at a place which is i
  pub run_read : (i : ℕ) {j b : ℕ} → b ≡ get_or (take (at + w - at) (drop at p)) j 0 → j ≡ i → i < w → b ≡ get_or p (at + i) 0
  run_read i e s k = e ∙ ap (λ (n : ℕ). get_or (take (at + w - at) (drop at p)) n 0) s ∙ run_byte i k

module _ (p : List ℕ) (at i : ℕ) where
  slice_snoc : at + i < length p → slice at (at + suc i) p ≡ slice at (at + i) p ++ (get_or p (at + i) 0 ∷ [])
  slice_snoc h =
      rw (add-suc at i, take-suc p (at + i) 0 h)
      (drop-append-le at (take (at + i) p) (get_or p (at + i) 0 ∷ []) (omega (arith, length-take-le (at + i) p (omega arith))))

  pub read_none : i ≡ 0 → number_of big (slice at (at + i) p) ≡ 0
  unfolding number_of
  read_none e = rw (e, add-zero at, slice_empty at p)

  pub read_more : at + i < length p → number_of big (slice at (at + (i + 1)) p) ≡ number_of big (slice at (at + i) p) * 256 + get_or p (at + i) 0
  read_more h = rw (add-one i, slice_snoc h) (number_snoc (slice at (at + i) p) (get_or p (at + i) 0))

  pub read_below : at + i ≤ length p → AreBytes p → number_of big (slice at (at + i) p) < 256 ^ i
  read_below h b =
      let e : length (slice at (at + i) p) ≡ i = length-slice at (at + i) p h ∙ omega arith in
      rw e at (number_below (slice at (at + i) p) (bytes_slice at (at + i) p b))

  -- seven bytes leave room for one more
  pub read_room : at + i ≤ length p → AreBytes p → i < 8 → number_of big (slice at (at + i) p) < 72057594037927936
  read_room h b few = lt_of_lt_of_le (read_below h b) (pow-le-pow_right {n = 256} (omega arith) {i = i} {j = 7} (omega arith))

-- ---- one turn of the loop that writes, from the last byte to the first

-- a store before a run of stores may come first
set_sets : (vs l : List ℕ) (j k a : ℕ) → j < k → set (sets l k vs) j a ≡ sets (set l j a) k vs
set_sets [] l j k a h = refl
set_sets (b ∷ vs) l j k a h =
    let ne : k ≢ j = λ e. omega arith in
    set_sets vs (set l k b) j (suc k) a (omega arith) ∙ rw (set_comm l k j b a ne)

module _ (n i v : ℕ) (more : 0 < i) (within : i ≤ n) where
  one_more : n - (i - 1) ≡ suc (n - i)
  one_more = omega arith

  pub number_store : (l : List ℕ) (at : ℕ)
      → set (sets l (at + i) (number_bytes big (n - i) v)) (at + (i - 1)) (v / 256 ^ (n - i) % 256) ≡ sets l (at + (i - 1)) (number_bytes big (n - (i - 1)) v)
  unfolding number_bytes
  number_store l at =
      let next : at + i ≡ suc (at + (i - 1)) = omega arith in
      set_sets (number_bytes big (n - i) v) l (at + (i - 1)) (at + i) _ (omega arith)
      ∙ ap (λ (k : ℕ). sets (set l (at + (i - 1)) (v / 256 ^ (n - i) % 256)) k (number_bytes big (n - i) v)) next
      ∙ ap (λ (m : ℕ). sets l (at + (i - 1)) (number_bytes big m v)) (sym one_more)

  pub number_rest : v / 256 ^ (n - i) / 256 ≡ v / 256 ^ (n - (i - 1))
  number_rest = rw (one_more, pow-suc, div-div-eq-div-mul)
