-- `payload::member::shown` meets its contract.
use mathlib.Core.Path.{◌≡◌, ap}
use Prim.Native.Nat.{◌+◌, ◌-◌, ◌<◌}
use native.Mathlib.Omega.{arith}
use Rattle.std.specs.Prelude.{Ok}
use Rattle.payload.specs.Cells.{kind_in}
use Rattle.payload.proofs.Walking.ShownLaws.{shows_number}
use Rattle.payload.proofs.member.shown.Goals as goal

pub returns-in_default : goal.returns-in_default
returns-in_default c =
    let a = c.args in
    let few : kind_in a.cell.bits < 12 = omega (arith, c.kind-kind.ensures) in
    let to : a.content.from + (a.content.end - a.content.from) ≡ a.content.end = omega (arith, c.requires.1) in
    shows_number _ _ _ c.requires.2 _ few _ to _ c.number_at.ensures.0 (ap Ok (rw (← c.kind-kind.ensures) c.number_row.ensures))
