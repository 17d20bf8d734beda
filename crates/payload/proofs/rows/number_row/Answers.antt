-- `payload::rows::number_row` meets its contract, kind by kind.
use mathlib.Core.Path.{◌≡◌, ◌∙◌}
use Prim.Native.Nat.{◌<◌, ◌≤◌}
use native.Mathlib.Omega.{arith}
use borrow.Author.Rules.{sfits_of}
use mir.Facts.{to_z-of_z}
use borrow.Author.Tests.{ne_eqb, lt-ltb, le-ltb}
use Rattle.wire.specs.Number.{signed_of}
use Rattle.payload.specs.Row.{number_row}
use Rattle.payload.proofs.rows.number_row.Goals as goal

pub returns-in-1 : goal.returns-in-1
unfolding number_row
returns-in-1 c = rw c.in-1.is c.plain.ensures

pub returns-in-0-to-5 : goal.returns-in-0-to-5
unfolding number_row
returns-in-0-to-5 c =
    let ne : c.args.k ≡ 1 → ⊥ = omega arith in
    let few : c.args.k < 6 = omega arith in
    c.plain-in-0-to-5.ensures ∙ simp (ne_eqb _ _ ne, lt-ltb _ _ few)

pub signed_of-requires : goal.signed_of-requires
signed_of-requires c = omega (arith, c.half_of.ensures.1, c.half_of.ensures.2, c.half_of.ensures.3, c.requires.2)

pub returns-in-6-to-9 : goal.returns-in-6-to-9
unfolding number_row signed_of
returns-in-6-to-9 c =
    let ne : c.args.k ≡ 1 → ⊥ = omega arith in
    let many : 6 ≤ c.args.k = omega arith in
    let few : c.args.k < 10 = omega arith in
    c.plain-in-6-to-9.ensures
    ∙ rw (to_z-of_z (sfits_of c.signed_of.type_inv), c.signed_of.ensures, c.half_of.ensures.0)
    (simp (ne_eqb _ _ ne, le-ltb _ _ many, lt-ltb _ _ few))

pub returns-in-10 : goal.returns-in-10
unfolding number_row
returns-in-10 c = rw (c.in-10.is, c.float32_of.ensures)

pub returns-in_default : goal.returns-in_default
unfolding number_row
returns-in_default c =
    let many : 11 ≤ c.args.k = omega arith in
    let ne1 : c.args.k ≡ 1 → ⊥ = omega arith in
    let ne10 : c.args.k ≡ 10 → ⊥ = omega arith in
    let many6 : 6 ≤ c.args.k = omega arith in
    let many10 : 10 ≤ c.args.k = omega arith in
    rw c.float64_of.ensures (simp (ne_eqb _ _ ne1, le-ltb _ _ many6, le-ltb _ _ many10, ne_eqb _ _ ne10))
