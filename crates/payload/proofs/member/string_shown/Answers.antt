-- `payload::member::string_shown` meets its contract.
use mathlib.Core.Path.{◌≡◌, refl, sym, ap, ◌∙◌}
use mathlib.Core.List.{List}
use Prim.Native.Nat.{ℕ}
use lib.Seq.{slice}
use Rattle.std.specs.Prelude.{Ok}
use Rattle.wire.specs.Text.{string_fits}
use Rattle.wire.proofs.PartLaws.{cut_slice}
use Rattle.payload.proofs.Walking.ShownLaws.{string_long, shows_text, shows_no_text}
use Rattle.payload.proofs.member.string_shown.Goals as goal
use Rattle.payload.proofs.member.string_shown.Goals.{After-string_fits}

-- what the test gave
fits : (c : After-string_fits) → string_fits (slice c.args.content.from c.args.content.end c.args.bytes.now) ≡ c.string_fits.result
fits c = ap (λ (l : List ℕ). string_fits l) (sym (cut_slice c.args.content.from c.args.content.end c.args.bytes.now c.requires.1)) ∙ sym c.string_fits.ensures

pub returns-then-not-string_fits : goal.returns-then-not-string_fits
returns-then-not-string_fits c =
    shows_no_text _ _ _ c.requires.2 _ c.requires.0 (fits (goal.at.returns-then-not-string_fits c).After-string_fits ∙ c.if-not-string_fits.true) refl

pub overflow_sub-end-2 : goal.overflow_sub-end-2
overflow_sub-end-2 c = string_long _ _ _ c.requires.2 (fits (goal.at.overflow_sub-end-2 c).After-string_fits ∙ c.if-not-string_fits.false)

pub returns : goal.returns
returns c = shows_text _ _ _ c.requires.2 _ c.requires.0 (fits (goal.at.returns c).After-string_fits ∙ c.if-not-string_fits.false) _ refl (ap Ok c.plain.ensures)
