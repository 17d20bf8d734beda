-- Bytes that are the same.
-- Assumes nothing.
use mathlib.Core.Path.{◌≡◌, refl, sym, ap, ◌∙◌}
use mathlib.Core.Bool.{Bool, true, false}
use mathlib.Core.List.{List, [], ◌∷◌, ◌++◌}
use Prim.Native.Nat.{ℕ, ◌^◌, ◌<◌}
use native.Mathlib.Omega.{arith}
use lib.ListN.{length}
use lib.Dec.{eqb}
use borrow.Author.Tests.{eqb-true, eq-eqb}
use Rattle.wire.specs.Choose.{and}
use Rattle.wire.specs.Number.{AreBytes, big, number_of, number_bytes}
use Rattle.wire.proofs.ChooseLaws.{and_left, and_right}
use Rattle.wire.proofs.NumberLaws.{bytes_back, number_back}
use Rattle.archive.specs.Opening.{same}

pub same_is : (xs ys : List ℕ) → same xs ys ≡ true → xs ≡ ys
unfolding same
same_is [] [] e = refl
same_is [] (y ∷ ys) e = cc
same_is (x ∷ xs) [] e = cc
same_is (x ∷ xs) (y ∷ ys) e = cc (eqb-true x y (and_left _ _ e), same_is xs ys (and_right (eqb x y) _ e))

pub is_same : (xs : List ℕ) → same xs xs ≡ true
unfolding same
is_same [] = refl
is_same (x ∷ xs) = rw (eq-eqb x x refl, is_same xs)

-- by what tells them apart
pub same_by : (b : Bool) (xs ys : List ℕ) → (b ≡ true → xs ≡ ys) → (xs ≡ ys → b ≡ true) → same xs ys ≡ b
same_by true xs ys to from = rw (to refl, is_same ys)
same_by false xs ys to from = go (same xs ys) refl
  where
    go : (b : Bool) → same xs ys ≡ b → b ≡ false
    go true e = sym (from (same_is xs ys e))
    go false e = refl

and_more : (a b c : Bool) → and a (and b c) ≡ and (and a b) c
and_more true b c = refl
and_more false b c = refl

pub same_append : (xs ys zs ws : List ℕ) → length xs ≡ length ys → same (xs ++ zs) (ys ++ ws) ≡ and (same xs ys) (same zs ws)
unfolding same
same_append [] [] zs ws e = refl
same_append [] (y ∷ ys) zs ws e = absurd (omega arith)
same_append (x ∷ xs) [] zs ws e = absurd (omega arith)
same_append (x ∷ xs) (y ∷ ys) zs ws e = rw (same_append xs ys zs ws (omega arith)) (and_more (eqb x y) (same xs ys) (same zs ws))

-- bytes are those of a number exactly when their number is it
pub same_number : (xs : List ℕ) (w v : ℕ) → AreBytes xs → length xs ≡ w → v < 256 ^ w
    → same xs (number_bytes big w v) ≡ eqb (number_of big xs) v
same_number xs w v h l b = same_by (eqb (number_of big xs) v) xs (number_bytes big w v) to from
  where
    to : eqb (number_of big xs) v ≡ true → xs ≡ number_bytes big w v
    to e = rw (← l, ← eqb-true (number_of big xs) v e) (sym (bytes_back xs h))

    from : xs ≡ number_bytes big w v → eqb (number_of big xs) v ≡ true
    from e = eq-eqb (number_of big xs) v (ap (number_of big) e ∙ number_back w v b)
