-- Tests that are joined, taken apart and put together.
-- Assumes nothing.
use mathlib.Core.Path.{◌≡◌, refl}
use Prim.Native.Nat.{ℕ}
use native.Mathlib.Omega.{arith}
use mathlib.Core.Bool.{Bool, true, false}
use Rattle.wire.specs.Choose.{and, or}

pub clash {ℓ} : {X : Type ℓ} → false ≡ true → X
clash e = let z : ◌≡◌ {A = ℕ} 0 1 = cc in absurd (omega arith)

pub and_left : (a b : Bool) → and a b ≡ true → a ≡ true
and_left true b e = refl
and_left false b e = e

pub and_right : (a b : Bool) → and a b ≡ true → b ≡ true
and_right true b e = e
and_right false b e = clash e

pub and_both : (a b : Bool) → a ≡ true → b ≡ true → and a b ≡ true
and_both true b e h = h
and_both false b e h = e

pub and_none : (a : Bool) → and a false ≡ false
and_none true = refl
and_none false = refl

pub or_left : (a b : Bool) → or a b ≡ false → a ≡ false
or_left true b e = e
or_left false b e = refl

pub or_true : (a : Bool) → or a true ≡ true
or_true true = refl
or_true false = refl

-- what is not true is false
pub refuted : (b : Bool) → (b ≡ true → ⊥) → b ≡ false
refuted true h = absurd (h refl)
refuted false h = refl
