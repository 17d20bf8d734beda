-- One of two by a test, and tests joined.
use Rattle.std.specs.Prelude.{Bool, true, false}

abbrev pub pick {ℓ} : {X : Type ℓ} → Bool → X → X → X
pick true x y = x
pick false x y = y

abbrev pub and : Bool → Bool → Bool
and true b = b
and false b = false

abbrev pub or : Bool → Bool → Bool
or true b = true
or false b = b
