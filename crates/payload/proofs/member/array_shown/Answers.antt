-- `payload::member::array_shown` meets its contract.
use mathlib.Core.Path.{refl, ap, ◌∙◌}
use native.Mathlib.Omega.{arith}
use Rattle.std.specs.Prelude.{Ok}
use Rattle.wire.specs.Kind.{size_of}
use Rattle.wire.proofs.KindLaws.{number_some}
use Rattle.payload.proofs.Walking.ShownLaws.{shows_array, shows_no_array}
use Rattle.payload.proofs.member.array_shown.Goals as goal

pub nonzero_rem-end : goal.nonzero_rem-end
nonzero_rem-end c =
    let q = c.requires in
    let n = c.elem.ensures in
    omega (arith, c.size_of.ensures.0, number_some c.elem.result (omega (arith, c.args.cell.fine.array_in q.0)) (omega (arith, c.args.cell.fine.elem_in_lem)))

pub returns-then-end-from-ne0 : goal.returns-then-end-from-ne0
returns-then-end-from-ne0 c = λ p l.
    shows_no_array p _ _ l _ c.requires.0 _ (c.size_of.ensures.0 ∙ ap size_of c.elem.ensures) c.if-end-from-ne0.true refl

pub returns : goal.returns
returns c = λ p l.
    shows_array p _ _ l _ c.requires.0 _ (c.size_of.ensures.0 ∙ ap size_of c.elem.ensures) c.if-end-from-ne0.false (ap Ok c.plain.ensures)
