use mathlib.Core.Path.{◌≡◌, refl, sym, ap, ◌∙◌}
use Prim.Native.Nat.{ℕ, ◌+◌}
use native.Mathlib.Omega.{arith}
use lib.Seq.{slice}
use Rattle.wire.specs.Number.{big, number_of}
use Rattle.wire.proofs.NumberLaws.{run_length, run_read, read_none, read_more, read_below, read_room}
use Rattle.wire.proofs.number.read_number.Goals as goal

pub loop-i-init : goal.loop-i-init
loop-i-init c = sym (read_none c.args.p.now c.args.at 0 refl)

pub overflow_mul-v : goal.overflow_mul-v
overflow_mul-v c =
    let a = c.args in
    let n = run_length a.p.now a.at a.w c.requires.0 in
    omega (arith, read_room a.p.now a.at c.loop-i.i (omega arith) (λ i. (c.type_inv.p i).fits) (omega arith))

pub overflow_add-v : goal.overflow_add-v
overflow_add-v c =
    let a = c.args in
    let i = c.loop-i.i in
    let n = run_length a.p.now a.at a.w c.requires.0 in
    omega (arith, read_room a.p.now a.at i (omega arith) (λ j. (c.type_inv.p j).fits) (omega arith))

pub loop-i-preserved : goal.loop-i-preserved
loop-i-preserved c =
    let a = c.args in
    let i = c.loop-i.i in
    let n = run_length a.p.now a.at a.w c.requires.0 in
    omega (arith, read_more a.p.now a.at i (omega arith), run_read a.p.now a.at a.w c.requires.0 i c.from.ensures (omega arith) (omega arith))

pub returns : goal.returns
returns c =
    let a = c.args in
    let n = run_length a.p.now a.at a.w c.requires.0 in
    let e : c.loop-i.i ≡ a.w = omega arith in
    let is : c.loop-i.v ≡ number_of big (slice a.at (a.at + a.w) a.p.now) =
    c.loop-i.invariant ∙ ap (λ (i : ℕ). number_of big (slice a.at (a.at + i) a.p.now)) e in
    (is, rw is (read_below a.p.now a.at a.w (omega arith) (λ j. (c.type_inv.p j).fits)))
