use mathlib.Core.Path.{◌≡◌, sym, ap, ◌∙◌}
use Prim.Native.Nat.{◌≤◌}
use lib.ListN.{length}
use native.Mathlib.Omega.{arith}
use native.Mathlib.Numerals.{add-one}
use Rattle.payload.specs.Cells.{level_in, required_in}
use Rattle.payload.proofs.Joined.{clash}
use Rattle.payload.proofs.Walking.LackLaws.{shown_absent, lacks_this, lacks_next, lacks_stop}
use Rattle.payload.proofs.read.Walker.lacks.Goals as goal
use Rattle.payload.proofs.read.Walker.lacks.Goals.{then-is_absent+else-level, else-level-via-then-level+else-is_required, else-level-via-else-level, else-is_absent}

pub returns-then-is_required-clause-is : goal.returns-then-is_required-clause-is
returns-then-is_required-clause-is c =
    let w = c.args.self.now in
    let s = c.requires.0 in
    let same = c.loop-i.invariant.0 in
    let few : w.table.now.count ≤ length w.rows = omega (arith, c.requires.1, w.table.now.sound.fine.few) in
    let cell = rw same at c.cell-cell.ensures in
    sym (c.loop-i.invariant.1
    ∙ lacks_this _ _ _ _ few c.loop-i.i (omega (arith, s.to, c.loop-i-test.true)) (sym (c.level.ensures ∙ ap level_in cell) ∙ c.if-level.true)
    (sym (c.is_required.ensures ∙ ap required_in cell) ∙ c.if-is_required.true) (sym (rw same at c.is_absent.ensures) ∙ c.if-is_absent.true))

pub loop-i-preserved : goal.loop-i-preserved
loop-i-preserved c =
    let w = c.args.self.now in
    let s = c.requires.0 in
    let same = c.loop-i.invariant.0 in
    let few : w.table.now.count ≤ length w.rows = omega (arith, c.requires.1, w.table.now.sound.fine.few) in
    let absent = rw same at c.is_absent.ensures in
    let next = lacks_next _ _ _ _ few c.loop-i.i (omega (arith, s.to, c.loop-i-test.true)) (s.deep _ (omega arith) c.loop-i-test.true) in
    rw (add-one c.loop-i.i) (
    elim c.if-is_absent.branch [
      | then-is_absent+else-level v ↦
          let cell = rw same at v.cell-cell.ensures in (
            v.self-is ∙ shown_absent _ _ (sym c.is_absent.ensures ∙ v.if-is_absent.true) ∙ same,
            c.loop-i.invariant.1 ∙ next (λ e r z.
                elim v.else-level.branch [
                  | else-level-via-then-level+else-is_required u ↦ clash (sym u.if-is_required.false ∙ u.is_required.ensures ∙ ap required_in cell ∙ r)
                  | else-level-via-else-level u ↦ u.if-level.false (v.level.ensures ∙ ap level_in cell ∙ e)
                ]),
          )
      | else-is_absent v ↦ (
        v.self-is ∙ same,
        c.loop-i.invariant.1 ∙ next (λ e r z. clash (sym v.if-is_absent.false ∙ absent ∙ z)),
      )
    ])

pub returns-clause-is : goal.returns-clause-is
returns-clause-is c =
    let w = c.args.self.now in
    let s = c.requires.0 in
    let few : w.table.now.count ≤ length w.rows = omega (arith, c.requires.1, w.table.now.sound.fine.few) in
    let z : c.loop-i.i ≡ c.args.level.stop = omega (arith, s.from) in
    sym (c.loop-i.invariant.1 ∙ rw z (lacks_stop _ _ _ _ few c.args.level.stop s.shut))
