-- `wire::text::plain_passed` meets its contract: what it passes changes nothing.
use mathlib.Core.Path.{◌≡◌, sym, ◌∙◌, ap}
use mathlib.Core.Bool.{not}
use mathlib.Core.List.{List}
use borrow.Author.Rules.{rules}
use native.Mathlib.Omega.{arith}
use Prim.Native.Nat.{ℕ}
use lib.ListN.{length}
use Rattle.std.specs.Prelude.{Option, unwrap_or, position}
use Rattle.std.proofs.lemmas.Iterator.{YieldsList-from_slice}
use Rattle.std.proofs.lemmas.Iterator.Search.{position_from_yields_List}
use Rattle.std.proofs.lemmas.List.{length-take}
use Rattle.std.proofs.lemmas.Slice.{between_to_end}
use Rattle.wire.specs.Text.{text_fits}
use Rattle.wire.proofs.TextLaws.{plain, passed_at}
use Rattle.wire.proofs.text.plain_passed.Goals as goal
use Rattle.wire.proofs.text.plain_passed.Goals.{After-position}

-- the first byte of the four that is not plain
first : (c : After-position) → c.position.result ≡ position (λ x. not (plain x)) c.in-Some.four.now
first c = position_from_yields_List (λ x. not (plain x)) _ _ _ c.position.ensures.ran (YieldsList-from_slice c.in-Some.four.now cc) (λ x b q h. search rules)

pub returns-in-Some-position-clause-same : goal.returns-in-Some-position-clause-same
returns-in-Some-position-clause-same c =
    let xs = c.loop-four.rest.now in
    let n = c.in-Some-position.n in
    let four = c.in-Some.four.now in
    let p = first (goal.at.returns-in-Some-position-clause-same c).After-position in
    let is = ap (λ (o : Option ℕ). unwrap_or o (length four)) c.in-Some-position.is in
    c.loop-four.invariant.1 ∙ passed_at 4 xs four c.position.result n c.in-Some.ensures.cases.0 p is
    ∙ sym (ap (λ (l : List ℕ). text_fits l) (between_to_end xs n (length xs) (omega arith)))

pub loop-four-preserved : goal.loop-four-preserved
loop-four-preserved c =
    let xs = c.loop-four.rest.now in
    let four = c.in-Some.four.now in
    let cut = c.in-Some.ensures.cases in
    let p = first (goal.at.loop-four-preserved c).After-position in
    let is = ap (λ (o : Option ℕ). unwrap_or o (length four)) c.in_default-position.is in
    let all : length four ≡ 4 = ap length cut.0 ∙ length-take 4 xs ∙ omega (arith, cut.2) in
    (omega arith, c.loop-four.invariant.1 ∙ passed_at 4 xs four c.position.result 4 cut.0 p (is ∙ all) ∙ sym (ap (λ (l : List ℕ). text_fits l) cut.1))
