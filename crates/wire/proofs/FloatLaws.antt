-- What a pattern of bits is, by one comparison: a NaN, or a pattern that `from_bits` reads. Stated over the format.
-- Assumes nothing.
use mathlib.Core.Path.{◌≡◌, refl, sym, ◌∙◌, subst}
use mathlib.Core.Bool.{Bool, true, false, not}
use Prim.Native.Nat.{ℕ}
use lib.Dec.{T}
use lib.Ieee.{Float, nan, inf, fin, Format, is_nan, nan_bits, of_bits}
use lib.Ieee.Bits.{nan_bits_is}

only_nan : (v : Float) → is_nan v ≡ true → nan ≡ v
unfolding is_nan
only_nan nan e = refl
only_nan (inf s) e = absurd (subst T (sym e) tt)
only_nan (fin s m k) e = absurd (subst T (sym e) tt)

module _ (f : Format) (bits : ℕ) where
  pub bits_nan : nan_bits f bits ≡ true → nan ≡ of_bits f bits
  bits_nan e = only_nan (of_bits f bits) (sym (nan_bits_is f bits) ∙ e)

  pub bits_read : nan_bits f bits ≡ false → T (not (nan_bits f bits))
  bits_read e = subst (λ (b : Bool). T (not b)) (sym e) tt
