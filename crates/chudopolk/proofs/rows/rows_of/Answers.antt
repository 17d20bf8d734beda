use mathlib.Core.Path.{◌≡◌, refl, ap, ◌∙◌}
use Prim.Native.Nat.{ℕ}
use native.Mathlib.Omega.{arith}
use Rattle.chudopolk.specs.Rows.{rows_up_to}
use Rattle.chudopolk.proofs.ValueLaws.{rows_up_to_none, rows_up_to_more, lent_within, rows_of_is}
use Rattle.chudopolk.proofs.rows.rows_of.Goals as goal

pub loop-i-init : goal.loop-i-init
loop-i-init c =
    let within = lent_within _ _ c.lent-n.ensures in
    record { few = within.0; held = within.1; made = rows_up_to_none _ _ refl }

pub loop-i-preserved : goal.loop-i-preserved
loop-i-preserved c =
    let loop = c.loop-i.invariant in
    record { few = loop.few; held = loop.held; made = rows_up_to_more _ _ _ _ loop.made c.row_at.ensures }

pub returns : goal.returns
returns c =
    let done : c.loop-i.i ≡ c.lent-n.result = omega arith in
    rows_of_is _ _ _ c.lent-n.ensures (c.loop-i.invariant.made ∙ ap (λ (m : ℕ). rows_up_to m c.args.values.now) done)
