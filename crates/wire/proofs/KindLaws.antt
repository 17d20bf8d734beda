-- The table of kinds: one test that is computed over all of its entries, and what it gives at each kind.
-- Assumes nothing.
use mathlib.Core.Path.{◌≡◌, refl, sym}
use mathlib.Core.Bool.{Bool, true}
use mathlib.Core.List.{List, [], ◌∷◌}
use Prim.Native.Nat.{ℕ, zero, suc, ◌+◌, ◌≤◌, ◌<◌}
use native.Mathlib.Nat.{add-zero, zero-add, add-suc, suc-add}
use native.Mathlib.Omega.{arith}
use lib.Dec.{leb, ltb, eqb}
use lib.ListN.{length, get_or}
use borrow.Author.Tests.{ltb-true, leb-true, eqb-true, lt-ltb, le-ltb, ne_eqb}
use Rattle.wire.specs.Choose.{pick, and}
use Rattle.wire.proofs.ChooseLaws.{and_left, and_right}
use Rattle.wire.specs.Tag.{fixed_size}
use Rattle.wire.specs.Kind.{kinds, kind_at, size_of, wire_fits}
use Rattle.wire.specs.declared.kind.Kind.{Kind}

-- within a list the default does not matter
pub get_d_default {ℓ} : {X : Type ℓ} (l : List X) (k : ℕ) (d e : X) → k < length l → get_or l k d ≡ get_or l k e
get_d_default [] k d e h = absurd (omega arith)
get_d_default (x ∷ l) zero d e h = refl
get_d_default (x ∷ l) (suc k) d e h = get_d_default l k d e (omega arith)

-- the test f passes at each entry and its place, counted from i
abbrev every {ℓ} : {X : Type ℓ} → (ℕ → X → Bool) → ℕ → List X → Bool
every f i [] = true
every f i (x ∷ l) = and (f i x) (every f (suc i) l)

passes {ℓ} : {X : Type ℓ} (f : ℕ → X → Bool) (d : X) (l : List X) (i : ℕ) → every f i l ≡ true → (k : ℕ) → k < length l → f (i + k) (get_or l k d) ≡ true
passes f d [] i e k h = absurd (omega arith)
passes f d (x ∷ l) i e zero h = rw (add-zero i) (and_left (f i x) (every f (suc i) l) e)
passes f d (x ∷ l) i e (suc k) h = rw (add-suc i k, ← suc-add i k) (passes f d l (suc i) (and_right (f i x) (every f (suc i) l) e) k (omega arith))

-- ---- the test

number : Kind → Bool
number x = and (ltb x.wire 4) (and (eqb x.size (fixed_size x.wire)) (ltb 0 x.size))

lengthed : Kind → Bool
lengthed x = and (eqb x.wire 4) (eqb x.size 0)

right : ℕ → Kind → Bool
right k x = and (leb x.size 8) (pick (eqb k 0) true (pick (ltb k 12) (number x) (lengthed x)))

all_right : (k : ℕ) → k < 15 → right k (kind_at k) ≡ true
unfolding right number lengthed
all_right k h = rw (zero-add k) at (passes right (kind_at 0) kinds 0 refl k h)

-- ---- what it gives

pub size_small : (k : ℕ) → k < 15 → size_of k ≤ 8
unfolding right
size_small k h = leb-true (size_of k) 8 (and_left _ _ (all_right k h))

-- kinds 1 to 11 are numbers
module _ (k : ℕ) (some : 0 < k) (few : k < 12) where
  is_number : number (kind_at k) ≡ true
  unfolding right
  is_number =
      rw (ne_eqb k 0 (λ e. omega arith), lt-ltb k 12 few) at
      (and_right (leb (size_of k) 8) (pick (eqb k 0) true (pick (ltb k 12) (number (kind_at k)) (lengthed (kind_at k)))) (all_right k (omega arith)))

  is_fixed : and (eqb (size_of k) (fixed_size (kind_at k).wire)) (ltb 0 (size_of k)) ≡ true
  unfolding number
  is_fixed = and_right (ltb (kind_at k).wire 4) _ is_number

  pub number_wire : (kind_at k).wire < 4
  unfolding number
  number_wire = ltb-true (kind_at k).wire 4 (and_left _ _ is_number)

  pub number_size : size_of k ≡ fixed_size (kind_at k).wire
  number_size = eqb-true (size_of k) (fixed_size (kind_at k).wire) (and_left _ _ is_fixed)

  pub number_some : 0 < size_of k
  number_some = ltb-true 0 (size_of k) (and_right (eqb (size_of k) (fixed_size (kind_at k).wire)) _ is_fixed)

  pub number_fits : (wire : ℕ) → wire_fits k wire ≡ true → wire ≡ (kind_at k).wire
  number_fits wire e = eqb-true wire (kind_at k).wire (rw (lt-ltb (kind_at k).wire 4 number_wire) at e)

  -- such a wire type tells the size
  pub number_fixed : (wire : ℕ) → wire_fits k wire ≡ true → (wire < 4) × (fixed_size wire ≡ size_of k)
  number_fixed wire e = rw (number_fits wire e) (number_wire, sym number_size)

-- kinds 12 to 14 have a length field
module _ (k : ℕ) (many : 12 ≤ k) (few : k < 15) where
  is_lengthed : lengthed (kind_at k) ≡ true
  unfolding right
  is_lengthed =
      rw (ne_eqb k 0 (λ e. omega arith), le-ltb k 12 many) at
      (and_right (leb (size_of k) 8) (pick (eqb k 0) true (pick (ltb k 12) (number (kind_at k)) (lengthed (kind_at k)))) (all_right k few))

  pub lengthed_wire : (kind_at k).wire ≡ 4
  unfolding lengthed
  lengthed_wire = eqb-true (kind_at k).wire 4 (and_left _ _ is_lengthed)

  pub lengthed_size : size_of k ≡ 0
  unfolding lengthed
  lengthed_size = eqb-true (size_of k) 0 (and_right (eqb (kind_at k).wire 4) _ is_lengthed)

  pub lengthed_fits : (wire : ℕ) → wire_fits k wire ≡ leb 4 wire
  lengthed_fits wire = rw lengthed_wire
