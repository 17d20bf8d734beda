-- Value rows as numbers: four to a row, one row behind the other.
-- Assumes nothing.
use mathlib.Core.Path.{◌≡◌, refl, sym, ap, ◌∙◌}
use Prim.Native.Nat.{ℕ, zero, suc, ◌+◌, ◌*◌, ◌≤◌, ◌<◌}
use native.Mathlib.Omega.{arith}
use native.Mathlib.Numerals.{add-one}
use mathlib.Core.List.{List, [], ◌∷◌, ◌++◌}
use lib.ListN.{length, set, take, drop, get_or, length-append, length-drop}
use lib.Seq.{sets, sets-eq, take-suc, take_at, drop_at, drop-append-add, drop-drop, length-take-le, get_or-take}
use Rattle.payload.specs.declared.row.Row.{Row}
use Rattle.payload.specs.declared.row.Value.{Value}
use Rattle.payload.specs.Row.{absent_row}
use Rattle.chudopolk.specs.declared.rows.Numbers.{Numbers}
use Rattle.chudopolk.specs.Rows.{numbers_of, listed, four_of, flat}

-- ---- a row

-- the numbers of a value that is known
pub shown : (v w : Value) (bits : ℕ) (n : Numbers) → v ≡ w → n ≡ numbers_of w bits → n ≡ numbers_of v bits
shown v w bits n h e = e ∙ ap (λ (u : Value). numbers_of u bits) (sym h)

pub stored_four : (l : List ℕ) (i a b c d : ℕ) → set (set (set (set l i a) (i + 1) b) (i + 2) c) (i + 3) d ≡ sets l i (a ∷ b ∷ c ∷ d ∷ [])
stored_four l i a b c d =
    let e1 : i + 1 ≡ suc i = omega arith in
    let e2 : i + 2 ≡ suc (suc i) = omega arith in
    let e3 : i + 3 ≡ suc (suc (suc i)) = omega arith in
    rw (e1, e2, e3)

-- ---- the numbers of rows

pub length_flat : (rows : List Row) → length (flat rows) ≡ 4 * length rows
unfolding flat
length_flat [] = refl
length_flat (r ∷ rows) = omega (arith, length-append (four_of r) (flat rows), length_flat rows)

flat_append : (a b : List Row) → flat (a ++ b) ≡ flat a ++ flat b
unfolding flat
flat_append [] b = refl
flat_append (r ∷ a) b = ap (λ (l : List ℕ). four_of r ++ l) (flat_append a b)

flat_one : (r : Row) → flat (r ∷ []) ≡ four_of r
unfolding flat
flat_one r = refl

flat_suc : (rows : List Row) (i : ℕ) → i < length rows → flat (take (suc i) rows) ≡ flat (take i rows) ++ four_of (get_or rows i absent_row)
flat_suc rows i h =
    ap flat (take-suc rows i absent_row h) ∙ flat_append (take i rows) (get_or rows i absent_row ∷ [])
    ∙ ap (λ (l : List ℕ). flat (take i rows) ++ l) (flat_one (get_or rows i absent_row))

-- a list's part behind 4 · i, with four numbers stored at its start
over : (f vs old : List ℕ) (k : ℕ) → length f ≡ k → length vs ≡ 4 → k + 4 ≤ length old
    → sets (f ++ drop k old) k vs ≡ (f ++ vs) ++ drop (k + 4) old
over f vs old k hf hv hk =
    let room : k + length vs ≤ length (f ++ drop k old) = omega (arith, length-append f (drop k old), length-drop k old) in
    let front : take k (f ++ drop k old) ≡ f = take_at f (drop k old) k hf in
    let back : drop (k + length vs) (f ++ drop k old) ≡ drop (k + 4) old =
    rw (hv, ← hf) (drop-append-add f (drop (length f) old) 4 ∙ drop-drop 4 (length f) old) in
    sets-eq vs (f ++ drop k old) k room ∙ ap (λ (l : List ℕ). l ++ vs ++ drop (k + length vs) (f ++ drop k old)) front
    ∙ ap (λ (l : List ℕ). f ++ vs ++ l) back

pub flat_more : (rows : List Row) (old out : List ℕ) (i : ℕ) (n : Numbers) → i < length rows → 4 * i + 4 ≤ length old
    → out ≡ flat (take i rows) ++ drop (4 * i) old → n ≡ numbers_of (get_or rows i absent_row).value (get_or rows i absent_row).bits
    → sets out (4 * i) (listed n) ≡ flat (take (i + 1) rows) ++ drop (4 * (i + 1)) old
flat_more rows old out i n h room e m =
    let size : length (flat (take i rows)) ≡ 4 * i = length_flat (take i rows) ∙ ap (λ (k : ℕ). 4 * k) (length-take-le i rows (omega arith)) in
    let next : 4 * i + 4 ≡ 4 * (i + 1) = omega arith in
    rw (e, m) (over (flat (take i rows)) (four_of (get_or rows i absent_row)) old (4 * i) size refl room
    ∙ ap (λ (l : List ℕ). l ++ drop (4 * i + 4) old) (sym (flat_suc rows i h))
    ∙ ap (λ (k : ℕ). flat (take k rows) ++ drop (4 * i + 4) old) (sym (add-one i))
    ∙ ap (λ (k : ℕ). flat (take (i + 1) rows) ++ drop k old) next)

pub flat_none : (old : List ℕ) → old ≡ flat [] ++ old
unfolding flat
flat_none old = refl

pub flat_long : (rows : List Row) (old out : List ℕ) (i : ℕ) → i ≤ length rows → 4 * i ≤ length old → out ≡ flat (take i rows) ++ drop (4 * i) old
    → length out ≡ length old
flat_long rows old out i h room e =
    let size : length (flat (take i rows)) ≡ 4 * i = length_flat (take i rows) ∙ ap (λ (k : ℕ). 4 * k) (length-take-le i rows h) in
    rw e (omega (arith, length-append (flat (take i rows)) (drop (4 * i) old), length-drop (4 * i) old))

-- ---- by row

flat_at : (rows : List Row) (i : ℕ) (rest : List ℕ) → i < length rows → take 4 (drop (4 * i) (flat rows ++ rest)) ≡ four_of (get_or rows i absent_row)
unfolding flat
flat_at [] i rest h = absurd (omega arith)
flat_at (r ∷ rows) zero rest h = refl
flat_at (r ∷ rows) (suc i) rest h =
    let four-on : 4 * suc i ≡ suc (suc (suc (suc (4 * i)))) = omega arith in
    rw four-on (flat_at rows i rest (omega arith))

-- the numbers of the first n rows, with old ones behind them
module _ (rows : List Row) (old : List ℕ) (n : ℕ) (few : n ≤ length rows) (room : 4 * n ≤ length old) where
  pub after_long : length (flat (take n rows) ++ drop (4 * n) old) ≡ length old
  after_long = flat_long rows old (flat (take n rows) ++ drop (4 * n) old) n few room refl

  pub after_row : (i : ℕ) → i < n → take 4 (drop (4 * i) (flat (take n rows) ++ drop (4 * n) old)) ≡ four_of (get_or rows i absent_row)
  after_row i h =
      flat_at (take n rows) i (drop (4 * n) old) (omega (arith, length-take-le n rows few)) ∙ ap four_of (get_or-take n rows i absent_row h)

  pub after_rest : drop (4 * n) (flat (take n rows) ++ drop (4 * n) old) ≡ drop (4 * n) old
  after_rest =
      drop_at (flat (take n rows)) (drop (4 * n) old) (4 * n) (length_flat (take n rows) ∙ ap (λ (k : ℕ). 4 * k) (length-take-le n rows few))
