-- Stores in lent bytes: how runs of them join, and one turn of the loop that copies.
-- Assumes nothing.
use mathlib.Core.Path.{◌≡◌, sym, ◌∙◌}
use mathlib.Core.List.{List, [], ◌∷◌, ◌++◌}
use Prim.Native.Nat.{ℕ, suc, ◌+◌, ◌<◌}
use native.Mathlib.Nat.{add-zero, add-suc, suc-add}
use native.Mathlib.Omega.{arith}
use lib.ListN.{length, get_or, take, drop, set, length-drop}
use lib.Seq.{sets, take-suc, get_or-drop, length-take-le}
use Rattle.wire.specs.Part.{run_of}

pub sets_append : (xs ys l : List ℕ) (i : ℕ) → sets l i (xs ++ ys) ≡ sets (sets l i xs) (i + length xs) ys
sets_append [] ys l i = rw add-zero
sets_append (a ∷ xs) ys l i = rw (add-suc, ← suc-add) (sets_append xs ys (set l i a) (suc i))

-- stores one after the other, as the code has them
pub two_stores : (l xs ys : List ℕ) (at n : ℕ) → length xs ≡ n → sets (sets l at xs) (at + n) ys ≡ sets l at (xs ++ ys)
two_stores l xs ys at n e = rw (← e) (sym (sets_append xs ys l at))

pub three_stores : (l xs ys zs : List ℕ) (at m n : ℕ) → length xs ≡ m → length ys ≡ n → sets (sets (sets l at xs) (at + m) ys) (at + m + n) zs
    ≡ sets l at (xs ++ (ys ++ zs))
three_stores l xs ys zs at m n ex ey = two_stores (sets l at xs) ys zs (at + m) n ey ∙ two_stores l xs (ys ++ zs) at m ex

-- one byte more of a run
pub run_store : (l buf : List ℕ) (at place i : ℕ) → place + i < length buf
    → set (sets l at (run_of buf place i)) (at + i) (get_or buf (place + i) 0) ≡ sets l at (run_of buf place (i + 1))
run_store l buf at place i h =
    let one : i + 1 ≡ suc i = omega arith in
    let below : i < length (drop place buf) = omega (arith, length-drop place buf) in
    let upto : length (take i (drop place buf)) ≡ i = length-take-le i (drop place buf) (omega arith) in
    rw (one, take-suc (drop place buf) i 0 below, sets_append (take i (drop place buf)), upto, get_or-drop)
