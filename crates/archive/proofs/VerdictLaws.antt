-- Verdicts by their numbers.
-- Assumes nothing.
use mathlib.Core.Path.{◌≡◌, refl, sym, ap, ◌∙◌}
use mathlib.Core.List.{List, [], ◌∷◌}
use Prim.Native.Nat.{ℕ, ◌-◌, ◌<◌}
use native.Mathlib.Omega.{arith}
use lib.ListN.{get_or}
use Rattle.archive.specs.Verdict.{verdict_number}
use Rattle.archive.specs.declared.verdict.Verdict.{Verdict}
use Rattle.archive.specs.declared.verdict.Verdict.TheVariants.{Accepted, Full, Trailer, Records, NoMessage, NoRecord}

-- the verdict of a number less 49
verdicts : List Verdict
verdicts = Accepted ∷ Full ∷ Trailer ∷ Records ∷ NoMessage ∷ NoRecord ∷ []

back : (v : Verdict) → get_or verdicts (verdict_number v - 49) Accepted ≡ v
unfolding verdicts
back Accepted = refl
back Full = refl
back Trailer = refl
back Records = refl
back NoMessage = refl
back NoRecord = refl

-- two verdicts of one number are one
pub verdict_one : (v u : Verdict) → verdict_number v ≡ verdict_number u → v ≡ u
verdict_one v u e = sym (back v) ∙ ap (λ (n : ℕ). get_or verdicts (n - 49) Accepted) e ∙ back u

-- a verdict above 0 is no acceptance
pub refusal : (v : Verdict) → 0 < verdict_number v → v ≡ Accepted → ⊥
refusal v h e = omega (arith, ap verdict_number e)
