-- Two verdicts of one number are one.
-- Assumes nothing.
use mathlib.Core.Path.{◌≡◌, refl, sym, ap, ◌∙◌}
use mathlib.Core.List.{List, [], ◌∷◌}
use Prim.Native.Nat.{ℕ}
use lib.ListN.{get_or}
use Rattle.wire.specs.Verdict.{verdict_number}
use Rattle.wire.specs.declared.verdict.Verdict.{Verdict}
use Rattle.wire.specs.declared.verdict.Verdict.TheVariants.{
  Accepted,
  Table,
  Room,
  Short,
  Length,
  Protocol,
  Service,
  Interface,
  Method,
  MessageType,
  Large,
  TagCut,
  Wire,
  Twice,
  FieldCut,
  Overrun,
  Array,
  Text,
  Missing,
  Value,
  Outside,
  Wide,
  Heavy,
}

-- the verdict of a number; a number that none has is the first's here
verdicts : List Verdict
verdicts =
    Accepted ∷ Table ∷ Room ∷ Accepted ∷ Accepted ∷ Accepted ∷ Accepted ∷ Accepted ∷ Accepted ∷ Accepted
    ∷ Short ∷ Length ∷ Protocol ∷ Service ∷ Interface ∷ Method ∷ MessageType ∷ Large ∷ Accepted ∷ Accepted
    ∷ TagCut ∷ Wire ∷ Twice ∷ FieldCut ∷ Overrun ∷ Array ∷ Text ∷ Missing ∷ Accepted ∷ Accepted
    ∷ Value ∷ Outside ∷ Wide ∷ Heavy ∷ []

back : (v : Verdict) → get_or verdicts (verdict_number v) Accepted ≡ v
unfolding verdicts
back Accepted = refl
back Table = refl
back Room = refl
back Short = refl
back Length = refl
back Protocol = refl
back Service = refl
back Interface = refl
back Method = refl
back MessageType = refl
back Large = refl
back TagCut = refl
back Wire = refl
back Twice = refl
back FieldCut = refl
back Overrun = refl
back Array = refl
back Text = refl
back Missing = refl
back Value = refl
back Outside = refl
back Wide = refl
back Heavy = refl

pub verdict_one : (v u : Verdict) → verdict_number v ≡ verdict_number u → v ≡ u
verdict_one v u e = sym (back v) ∙ ap (λ (n : ℕ). get_or verdicts n Accepted) e ∙ back u
