-- Digits that are read one at a time write at least what the first of them write.
use Rattle.std.proofs.Common.{◌≤◌, ◌<◌, ◌+◌, ◌*◌, ℕ, List, [], ◌∷◌, length, drop}
use mathlib.Core.Path.{refl}
use native.Mathlib.Omega.{arith}
use native.Mathlib.Nat.{le-mul_of_pos_right}
use lib.ListN.{get_or}
use Rattle.std.specs.Char.{digit_value}
use Rattle.std.specs.Str.Parse.{digits_value, digits_value_after}
use Rattle.std.proofs.str.Numerals.{SoFar, one_more}

grows : (radix n : ℕ) (ds : List ℕ) → 0 < radix → n ≤ digits_value_after radix n ds
grows radix n [] h = omega arith
grows radix n (c ∷ cs) h = omega (arith, grows radix (n * radix + digit_value c) cs h, le-mul_of_pos_right n h)

pub at_least : (radix : ℕ) (all : List ℕ) (at n : ℕ) → SoFar radix all (drop at all) n → at < length all → 0 < radix → digit_value (get_or all at 0) < radix → n * radix + digit_value (get_or all at 0) ≤ digits_value radix all
at_least radix all at n s h z d =
    let m = n * radix + digit_value (get_or all at 0) in
    omega (arith, (one_more radix all all at n s h m d refl).same, grows radix m (drop (at + 1) all) z)
