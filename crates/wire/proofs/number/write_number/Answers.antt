use mathlib.Core.Path.{◌≡◌}
use Prim.Native.Nat.{◌-◌}
use native.Mathlib.Nat.{add-zero, sub-zero, div-one}
use native.Mathlib.Omega.{arith}
use Rattle.wire.specs.Number.{number_bytes}
use Rattle.wire.proofs.NumberLaws.{number_store, number_rest}
use Rattle.wire.proofs.number.write_number.Goals as goal

pub loop-i-init : goal.loop-i-init
unfolding number_bytes
loop-i-init c = let z : c.args.w - c.args.w ≡ 0 = omega arith in (rw (z, div-one), rw z)

pub loop-i-preserved : goal.loop-i-preserved
loop-i-preserved c =
    let a = c.args in
    let t = c.loop-i in (
      rw t.invariant.0 (number_rest a.w t.i a.v c.loop-i-test.true t.auto.i),
      rw (t.invariant.0, t.invariant.1) (number_store a.w t.i a.v c.loop-i-test.true t.auto.i a.out.now a.at),
    )

pub returns : goal.returns
returns c =
    let t = c.loop-i in
    let z : t.i ≡ 0 = omega arith in
    rw (z, sub-zero, add-zero) at t.invariant.1
