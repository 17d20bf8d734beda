-- `payload::judge::signed_fits` meets its contract, answer by answer.
use mathlib.Core.Path.{ap, ◌∙◌}
use mir.Facts.{to_z-of_z}
use Rattle.wire.specs.Number.{twos_of}
use Rattle.payload.specs.Judging.{flip_of}
use native.Mathlib.Omega.{arith}
use Rattle.payload.proofs.Writing.ValueLaws.{signed_other, signed_in_lem}
use Rattle.payload.proofs.judge.signed_fits.Goals as goal

pub returns-in-6-to-9 : goal.returns-in-6-to-9
returns-in-6-to-9 c =
    signed_in_lem c.args.kind c.args.z (omega arith) (omega arith) c.ranges.z
    _ c.size_of.ensures.0
    _ (c.flipped.ensures ∙ ap flip_of (c.twos_of.ensures ∙ ap (twos_of 8) (to_z-of_z c.ranges.z)))
    _ c.below.ensures

pub returns-in_default : goal.returns-in_default
returns-in_default c = signed_other _ _ (λ a b. omega arith)

pub returns-in_default-2 : goal.returns-in_default-2
returns-in_default-2 c = signed_other _ _ (λ a b. omega arith)
