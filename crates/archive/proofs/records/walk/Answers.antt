use mathlib.Core.Path.{◌≡◌, sym, ap, ◌∙◌}
use Prim.Native.Nat.{◌-◌}
use native.Mathlib.Omega.{arith}
use Rattle.archive.specs.Walking.{walked_from}
use Rattle.archive.proofs.WalkLaws.{none_fits, some_fits, cut_sized, walk_turn, walk_stop, walk_end, told_past, told_in}
use Rattle.archive.proofs.records.walk.Goals as goal

pub returns-then-file-size : goal.returns-then-file-size
returns-then-file-size c = ap (walked_from 0) (told_past _ _ (omega arith))

pub loop-at-init : goal.loop-at-init
loop-at-init c =
    let a = c.args in
    (omega arith, omega arith, omega arith, ap (walked_from 0) (told_in a.file.now a.size (omega arith)))

pub returns : goal.returns
returns c =
    let a = c.args in
    let t = c.loop-at in
    let e : t.at ≡ a.size = omega arith in
    sym (t.invariant.3 ∙ rw e (walk_end (a.size - t.count) a.size t.count a.file.now))

pub returns-in_err-at : goal.returns-in_err-at
returns-in_err-at c =
    let a = c.args in
    let t = c.loop-at in
    c.from_residual.ensures
    ∙ sym (t.invariant.3 ∙ walk_stop a.file.now t.at a.size (omega arith) (omega arith) t.count (omega arith) (none_fits _ c.in_err-at.ensures))

pub overflow_add-at : goal.overflow_add-at
overflow_add-at c =
    let a = c.args in
    let t = c.loop-at in
    let f = some_fits _ _ c.in_ok-at.ensures in
    omega (arith, f.1, cut_sized a.file.now t.at a.size (omega arith) (omega arith) f.0)

pub loop-at-smaller : goal.loop-at-smaller
loop-at-smaller c =
    let a = c.args in
    let t = c.loop-at in
    let f = some_fits _ _ c.in_ok-at.ensures in
    omega (arith, f.1, cut_sized a.file.now t.at a.size (omega arith) (omega arith) f.0)

pub loop-at-preserved : goal.loop-at-preserved
loop-at-preserved c =
    let a = c.args in
    let t = c.loop-at in
    let f = some_fits _ _ c.in_ok-at.ensures in
    let sized = cut_sized a.file.now t.at a.size (omega arith) (omega arith) f.0 in (
      omega (arith, f.1, sized),
      omega (arith, f.1, sized),
      omega arith,
      rw f.1 (t.invariant.3 ∙ walk_turn a.file.now t.at a.size (omega arith) (omega arith) t.count (omega arith) f.0),
    )
