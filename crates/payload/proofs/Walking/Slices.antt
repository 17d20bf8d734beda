-- Parts of parts of a list of bytes.
-- Assumes nothing.
use mathlib.Core.Path.{◌≡◌, ap, ◌∙◌}
use Prim.Native.Nat.{ℕ, zero, suc, ◌+◌, ◌≤◌}
use native.Mathlib.Omega.{arith}
use mathlib.Core.List.{List, [], ◌∷◌}
use lib.ListN.{take, drop}
use lib.Seq.{slice, take-nil, drop-drop, take-take}

take_drop : (a m : ℕ) (l : List ℕ) → take m (drop a l) ≡ drop a (take (a + m) l)
take_drop zero m l = let e : 0 + m ≡ m = omega arith in rw e
take_drop (suc a) m [] = let e : suc a + m ≡ suc (a + m) = omega arith in rw e (take-nil m)
take_drop (suc a) m (x ∷ xs) = let e : suc a + m ≡ suc (a + m) = omega arith in rw e (take_drop a m xs)

module _ (p : List ℕ) (a e : ℕ) where
  pub part_drop : (k : ℕ) → drop k (slice a e p) ≡ slice (a + k) e p
  part_drop k = drop-drop k a (take e p)

  pub part_take : (k : ℕ) → a + k ≤ e → take k (slice a e p) ≡ slice a (a + k) p
  part_take k h = take_drop a k (take e p) ∙ ap (drop a) (take-take (a + k) e p h)
