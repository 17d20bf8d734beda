-- Parts of lent bytes as the code cuts them: from a place to an end.
-- Assumes nothing.
use mathlib.Core.Path.{◌≡◌, refl, sym, ap, ◌∙◌}
use mathlib.Core.Bool.{Bool, true, false}
use Prim.Native.Nat.{ℕ, zero, suc, ◌+◌, ◌-◌, ◌≤◌, ◌<◌}
use native.Mathlib.Omega.{arith}
use mathlib.Core.List.{List, [], ◌∷◌}
use lib.ListN.{length, take, drop, length-drop}
use lib.Dec.{leb}
use native.Mathlib.Nat.{sub-zero}
use Rattle.std.proofs.Common.{Bor}
use Rattle.std.specs.Prelude.{Option, Some, None, unwrap_or}
use Rattle.std.specs.Slice.{IsGetRangeResult}
use Rattle.std.proofs.lemmas.List.{drop_all}
use Rattle.std.proofs.lemmas.Slice.{between_to_end}
use Rattle.wire.specs.Choose.{pick}
use lib.Seq.{slice, take-nil}
use borrow.Author.Tests.{le-leb, lt-leb, leb-true, leb-false}
use Rattle.wire.specs.declared.part.Part.{Part}
use Rattle.wire.specs.Part.{part_of}

-- so many bytes from a place on are a slice
pub take_drop : (a m : ℕ) (l : List ℕ) → take m (drop a l) ≡ slice a (a + m) l
take_drop zero m l = let e : 0 + m ≡ m = omega arith in rw e
take_drop (suc a) m [] = let e : suc a + m ≡ suc (a + m) = omega arith in rw e (take-nil m)
take_drop (suc a) m (x ∷ xs) = let e : suc a + m ≡ suc (a + m) = omega arith in rw e (take_drop a m xs)

pub cut_slice : (a e : ℕ) (l : List ℕ) → a ≤ e → take (e - a) (drop a l) ≡ slice a e l
cut_slice a e l h = let s : a + (e - a) ≡ e = omega arith in take_drop a (e - a) l ∙ rw s

module _ (d : List ℕ) (p : Part) where
  -- a part that lies in what was lent
  pub part_inside : p.at + p.len ≤ length d → part_of d p ≡ slice p.at (p.at + p.len) d
  unfolding part_of
  part_inside h = rw (le-leb (p.at + p.len) (length d) h)

  -- one that does not
  pub part_outside : length d < p.at + p.len → part_of d p ≡ []
  unfolding part_of
  part_outside h = rw (lt-leb (p.at + p.len) (length d) h)

  pub cut_part : p.at + p.len ≤ length d → take (p.at + p.len - p.at) (drop p.at d) ≡ part_of d p
  cut_part h = cut_slice p.at (p.at + p.len) d (omega arith) ∙ sym (part_inside h)

  -- the bytes from its place on, and of those as many as it has, or none
  pub got_part : (from got : List ℕ) → from ≡ drop p.at d → got ≡ pick (leb p.len (length from)) (take p.len from) [] → got ≡ part_of d p
  got_part from got f g = g ∙ ap (λ (l : List ℕ). pick (leb p.len (length l)) (take p.len l) []) f ∙ go (leb (p.at + p.len) (length d)) refl
    where
      left : length (drop p.at d) ≡ length d - p.at
      left = length-drop p.at d

      out : (b : Bool) → leb p.len (length (drop p.at d)) ≡ b → length d < p.at + p.len → pick b (take p.len (drop p.at d)) [] ≡ []
      out true e h = let z : p.len ≡ 0 = omega (arith, leb-true p.len (length (drop p.at d)) e, left) in rw z
      out false e h = refl

      go : (b : Bool) → leb (p.at + p.len) (length d) ≡ b → pick (leb p.len (length (drop p.at d))) (take p.len (drop p.at d)) [] ≡ part_of d p
      go true e =
          let h = leb-true (p.at + p.len) (length d) e in
          rw (le-leb p.len (length (drop p.at d)) (omega (arith, left))) (take_drop p.at p.len d ∙ sym (part_inside h))
      go false e =
          let h = leb-false (p.at + p.len) (length d) e in
          out (leb p.len (length (drop p.at d))) refl (omega arith) ∙ sym (part_outside (omega arith))

-- what `get` gives from a place on and up to a place, with no bytes where it gives none
module _ (l : List ℕ) (n : ℕ) (e : Bor (List ℕ)) (z : e.now ≡ []) where
  pub got_from : {end : ℕ} (r : Option (Bor (List ℕ))) → IsGetRangeResult l n end r → end ≡ length l → (unwrap_or r e).now ≡ drop n l
  got_from {end} None g h = z ∙ sym (drop_all n l (omega arith))
  got_from {end} (Some x) g h = g.0.2 ∙ between_to_end l n end (omega arith)

  pub got_upto : (r : Option (Bor (List ℕ))) → IsGetRangeResult l 0 n r → (unwrap_or r e).now ≡ pick (leb n (length l)) (take n l) []
  got_upto None g = rw (lt-leb n (length l) (omega arith)) z
  got_upto (Some x) g = rw (le-leb n (length l) g.0.1) (g.0.2 ∙ rw sub-zero)
