use mathlib.Core.Path.{◌≡◌, ap, ◌∙◌}
use Prim.Native.Nat.{ℕ, ◌*◌, ◌<◌}
use mathlib.Core.List.{◌++◌}
use lib.ListN.{length, take, drop}
use native.Mathlib.Omega.{arith}
use Rattle.chudopolk.specs.Rows.{flat}
use Rattle.chudopolk.proofs.RowLaws.{flat_none, flat_more}
use Rattle.chudopolk.proofs.rows.put_rows.Goals as goal

pub loop-i-init : goal.loop-i-init
loop-i-init c = flat_none _

pub loop-i-preserved : goal.loop-i-preserved
loop-i-preserved c =
    let a = c.args in
    let loop = c.loop-i in
    let few : loop.i < length a.rows = omega (arith, c.requires.1) in
    c.put_row.ensures ∙ flat_more a.rows a.out.now loop.out loop.i c.from.result few (omega arith) loop.invariant c.from.ensures

pub returns : goal.returns
returns c =
    let done : c.loop-i.i ≡ c.args.n = omega arith in
    c.loop-i.invariant ∙ ap (λ (k : ℕ). flat (take k c.args.rows) ++ drop (4 * k) c.args.out.now) done
