-- `wire::part::part_of` meets its contract for every part.
use mathlib.Core.Path.{refl, ap, ◌∙◌}
use native.Mathlib.Omega.{arith}
use Rattle.std.proofs.Common.{Bor}
use mathlib.Core.List.{List}
use Prim.Native.Nat.{ℕ}
use Rattle.wire.proofs.PartLaws.{got_part, got_from, got_upto}
use Rattle.wire.proofs.part.part_of.Goals as goal

pub returns : goal.returns
returns c =
    let a = c.args in
    let now = λ (x : Bor (List ℕ)). x.now in
    got_part a.d.now a.p c.unwrap_or.result.now c.unwrap_or-2.result.now
    (ap now c.unwrap_or.ensures ∙ got_from a.d.now a.p.at _ refl c.get.result c.get.ensures.lookup (omega arith))
    (ap now c.unwrap_or-2.ensures ∙ got_upto c.unwrap_or.result.now a.p.len _ refl c.get-2.result c.get-2.ensures.lookup)
