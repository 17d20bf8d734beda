-- `wire::number::signed_of` meets its contract.
use mathlib.Core.Path.{◌≡◌, refl, sym, ◌∙◌, ap, subst}
use Prim.Native.Nat.{ℕ, zero, suc, ◌+◌, ◌-◌, ◌<◌, ◌≤◌}
use native.Mathlib.Nat.{zero-add}
use native.Mathlib.Omega.{arith}
use lib.IntN.{ℤ, pos, negsuc, ◌-ℤ◌}
use mir.Syntax.{w64}
use mir.Val.{SFits, to_z}
use mir.Facts.{to_z_pos, to_z-of_z}
use borrow.Author.Tests.{le-ltb, lt-ltb}
use Rattle.wire.proofs.number.signed_of.Goals as goal

minus : (k : ℕ) → negsuc 0 -ℤ pos k ≡ negsuc k
minus zero = refl
minus (suc j) = ap (λ (n : ℕ). negsuc (suc n)) (zero-add j)

minus-read : (k : ℕ) → k < 9223372036854775808 → negsuc 0 -ℤ to_z w64 k ≡ negsuc k
minus-read k h = ap (λ (z : ℤ). negsuc 0 -ℤ z) (to_z_pos w64 h) ∙ minus k

minus-fits : (k : ℕ) → k < 9223372036854775808 → SFits w64 (negsuc 0 -ℤ to_z w64 k)
minus-fits k h = subst (SFits w64) (sym (minus-read k h)) (record { sfits = h })

below : (v h : ℕ) → 0 < h → h ≤ 9223372036854775808 → h - 1 - (v - h) < 9223372036854775808
below v h p l = omega arith

pub overflow_sub-result : goal.overflow_sub-result
overflow_sub-result c = minus-fits _ (below c.args.v c.args.h c.requires.0 c.requires.1)

pub returns-then-v-h : goal.returns-then-v-h
returns-then-v-h c = rw (lt-ltb c.args.v c.args.h c.if-v-h.true) (to_z_pos w64 (omega arith))

pub returns-else-v-h : goal.returns-else-v-h
returns-else-v-h c =
    let a = c.args in
    let h = below a.v a.h c.requires.0 c.requires.1 in
    let e : a.h - 1 - (a.v - a.h) ≡ a.h + a.h - 1 - a.v = omega arith in
    rw (le-ltb a.v a.h c.if-v-h.false) (to_z-of_z (minus-fits _ h) ∙ minus-read _ h ∙ ap negsuc e)
