-- `wire::number::twos_of` meets its contract: it is what std writes a signed number as, 2 ^ 64 - 1 - n for -1 - n.
use mathlib.Core.Path.{◌≡◌, refl, ap, ◌∙◌}
use native.Mathlib.Omega.{arith}
use mir.Facts.{to_z-of_z}
use lib.IntN.{ℤ, pos, negsuc}
use mir.Syntax.{w64}
use mir.Val.{of_z}
use Rattle.wire.specs.Number.{twos_of}
use Rattle.wire.proofs.number.twos_of.Goals as goal

written : (z : ℤ) → of_z w64 z ≡ twos_of 8 z
unfolding twos_of
written (pos n) = refl
written (negsuc n) = omega arith

pub returns : goal.returns
returns c = c.cast_unsigned.ensures ∙ ap (of_z w64) (to_z-of_z c.ranges.z) ∙ written c.args.z
