-- Tests joined: what both being true gives.
-- Assumes nothing.
use mathlib.Core.Path.{◌≡◌, refl}
use mathlib.Core.Bool.{Bool, true, false}
use Rattle.wire.specs.Choose.{and}

pub and_left : (a b : Bool) → and a b ≡ true → a ≡ true
and_left true b e = refl
and_left false b e = e

pub and_right : (a b : Bool) → and a b ≡ true → b ≡ true
and_right true b e = e
and_right false b e = cc

pub and_false : (b : Bool) → and b false ≡ false
and_false true = refl
and_false false = refl
