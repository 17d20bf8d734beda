-- `wire::text::text_fits` meets its contract.
use mathlib.Core.Path.{◌≡◌, refl, sym, ◌∙◌, ap}
use mathlib.Core.Bool.{true}
use mathlib.Core.List.{List, [], ◌∷◌}
use Prim.Native.Nat.{ℕ, ◌<◌}
use native.Mathlib.Omega.{arith}
use lib.ListN.{length, get_or}
use Rattle.std.proofs.lemmas.Slice.{first_rest}
use Rattle.wire.specs.Text.{text_fits, text_from}
use Rattle.wire.proofs.TextLaws.{text_one}
use Rattle.wire.proofs.text.text_fits.Goals as goal

pub loop-rest-preserved-then-is_plain : goal.loop-rest-preserved-then-is_plain
loop-rest-preserved-then-is_plain c =
    let xs = c.loop-rest.rest.now in
    c.loop-rest.invariant ∙ ap (λ (l : List ℕ). text_fits l) (first_rest xs 0 (omega arith))
    ∙ text_one (get_or xs 0 0) _ (sym c.is_plain.ensures ∙ c.if-is_plain.true) ∙ c.plain_passed-rest.ensures.same

nothing : (l : List ℕ) → length l < 1 → text_fits l ≡ true
unfolding text_from
nothing [] h = refl
nothing (x ∷ l) h = absurd (omega arith)

pub returns : goal.returns
returns c = sym (c.loop-rest.invariant ∙ nothing c.loop-rest.rest.now c.in_default.len_below)
