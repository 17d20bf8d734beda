use mathlib.Core.Path.{◌≡◌, refl, sym, ◌∙◌}
use Prim.Native.Nat.{◌+◌, ◌-◌, ◌*◌}
use native.Mathlib.Omega.{arith}
use Rattle.payload.proofs.Rules.CellLaws.{find_end, part_hit, part_miss}
use Rattle.payload.proofs.table.find_in.Goals as goal

pub returns-in-Some-clause-is : goal.returns-in-Some-clause-is
returns-in-Some-clause-is c =
    let l = c.loop-at in
    let f = c.in-Some.ensures in
    sym (l.invariant.2 ∙ part_hit c.args.cells.now _ _ _ _ l.at (l.at + 4 - l.at) c.requires.2 refl (omega arith)
    (λ i p q. c.requires.4 i (omega arith) (omega arith)) c.in-Some.n f.found.0 f.found.1 f.before)

pub loop-at-preserved : goal.loop-at-preserved
loop-at-preserved c =
    let l = c.loop-at in
    let f = c.in_default.ensures in
    let z : l.at + (l.at + 4 - l.at) ≡ l.at + 4 = omega arith in (
      omega arith,
      omega arith,
      rw z at (l.invariant.2 ∙ part_miss c.args.cells.now _ _ _ _ l.at (l.at + 4 - l.at) c.requires.2 refl (omega arith)
          (λ i p q. c.requires.4 i (omega arith) (omega arith)) (omega arith) f.before),
    )

pub returns-in_err-n-clause-is : goal.returns-in_err-n-clause-is
returns-in_err-n-clause-is c =
    let a = c.args in
    let l = c.loop-at in
    let f = c.in_err-n.ensures in
    let z : l.at + (a.stop - l.at) ≡ a.stop = omega arith in
    let missed = part_miss a.cells.now a.stop a.level a.ident (a.ident * 16 + a.level) l.at (a.stop - l.at) c.requires.2 refl (omega arith)
    (λ i p q. c.requires.4 i (omega arith) (omega arith)) (omega arith) f.before in
    rw c.from_residual.ensures (sym (l.invariant.2 ∙ (rw z at missed) ∙ find_end a.cells.now a.stop a.stop a.level a.ident (omega arith)))

pub returns-clause-is : goal.returns-clause-is
returns-clause-is c =
    let l = c.loop-at in
    let f = c.in_ok-n.ensures in
    sym (l.invariant.2 ∙ part_hit c.args.cells.now _ _ _ _ l.at (c.args.stop - l.at) c.requires.2 refl (omega arith)
    (λ i p q. c.requires.4 i (omega arith) (omega arith)) c.in_ok-n.n f.found.0 f.found.1 f.before)
