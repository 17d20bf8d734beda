-- Text as document 01 has it and the computed test agree; strings; and one turn of each loop that reads text.
-- Assumes nothing.
use mathlib.Core.Path.{◌≡◌, refl, sym, ap, ◌∙◌}
use Prim.Native.Nat.{ℕ, zero, suc, ◌+◌, ◌-◌, ◌≤◌, ◌<◌}
use native.Mathlib.Omega.{arith}
use native.Mathlib.Numerals.{one-add}
use mathlib.Core.Bool.{Bool, true, false, not, cond}
use Rattle.std.specs.Prelude.{Option, Some, None, MatchOption, unwrap_or, position, ◌&&◌}
use Rattle.std.specs.List.{position_or_len, list_all, IsSplitAt}
use Rattle.std.specs.Bool.{then_some}
use Rattle.std.proofs.Common.{Bor}
use Rattle.std.proofs.lemmas.List.Sums.{prefix_len-le-length}
use mathlib.Core.List.{List, [], ◌∷◌, ◌++◌}
use native.Mathlib.Nat.{add-zero, suc-add}
use lib.ListN.{length, take, drop, get_or, length-append}
use lib.Seq.{slice, length-slice, get_or-take, get_or-drop, take-take, drop-drop, take-nil, take-suc, take_all, take-append_seam, get_or-append_seam}
use lib.Dec.{leb, ltb, eqb}
use borrow.Author.Tests.{eq-eqb, ne_eqb, lt-ltb, le-ltb, le-leb, eqb-true, eqb-false, ltb-true, ltb-false, leb-true}
use Rattle.wire.proofs.ChooseLaws.{and_left, and_right, and_false}
use Rattle.wire.specs.Choose.{pick, and}
use Rattle.wire.specs.Text.{following, follows, text_from, text_fits, In, Text, none, alone, two, three, four, string_bytes, text_of, string_fits}

-- too few bytes
text_short : (k : ℕ) (xs : List ℕ) → length xs < k → text_from k xs ≡ false
unfolding text_from
text_short k [] h = ne_eqb k 0 (λ e. omega arith)
text_short zero (x ∷ xs) h = absurd (omega arith)
text_short (suc k) (x ∷ xs) h = rw (text_short k xs (omega arith), and_false)

-- ---- what the code passes

-- a byte that stands alone
abbrev pub plain : ℕ → Bool
plain x = eqb (following x) 0

pub text_one : (x : ℕ) (xs : List ℕ) → plain x ≡ true → text_fits (x ∷ xs) ≡ text_fits xs
unfolding text_from
text_one x xs e = let z : following x ≡ 0 = eqb-true (following x) 0 e in rw z

-- as many as the first k begin with
plain_passed : (k : ℕ) (xs : List ℕ) → text_fits xs ≡ text_fits (drop (position_or_len (λ x. not (plain x)) (take k xs)) xs)
plain_passed zero xs = refl
plain_passed (suc k) [] = refl
plain_passed (suc k) (x ∷ xs) = go (plain x) refl (plain_passed k xs)
  where
    n : ℕ
    n = position_or_len (λ x. not (plain x)) (take k xs)

    go : (b : Bool) → plain x ≡ b → text_fits xs ≡ text_fits (drop n xs) → text_fits (x ∷ xs) ≡ text_fits (drop (cond (not (not b)) (1 + n) 0) (x ∷ xs))
    go true e h = text_one x xs e ∙ h ∙ rw one-add
    go false e h = refl

position_is : (p : ℕ → Bool) (xs : List ℕ) → unwrap_or (position p xs) (length xs) ≡ position_or_len p xs
position_is p xs = go (ltb (position_or_len p xs) (length xs)) refl
  where
    go : (b : Bool) → ltb (position_or_len p xs) (length xs) ≡ b → unwrap_or (cond b (Some (position_or_len p xs)) None) (length xs) ≡ position_or_len p xs
    go true e = refl
    go false e = omega (arith, ltb-false (position_or_len p xs) (length xs) e, prefix_len-le-length (λ x. not (p x)) xs)

pub passed_at : (k : ℕ) (xs first : List ℕ) (r : Option ℕ) (n : ℕ) → first ≡ take k xs → r ≡ position (λ x. not (plain x)) first
    → unwrap_or r (length first) ≡ n → text_fits xs ≡ text_fits (drop n xs)
passed_at k xs first r n e p d =
    let at : position_or_len (λ x. not (plain x)) (take k xs) ≡ n =
    ap (position_or_len (λ x. not (plain x))) (sym e)
    ∙ sym (position_is (λ x. not (plain x)) first) ∙ ap (λ (o : Option ℕ). unwrap_or o (length first)) (sym p) ∙ d in
    plain_passed k xs ∙ ap (λ (j : ℕ). text_fits (drop j xs)) at

module _ (x : ℕ) (xs : List ℕ) where
  pub text_bad : following x ≡ 4 → text_fits (x ∷ xs) ≡ false
  unfolding text_from
  text_bad e = rw (eq-eqb (following x) 4 e)

  text_first : (n : ℕ) → n ≡ following x → n < 4 → text_fits (x ∷ xs) ≡ text_from n xs
  unfolding text_from
  text_first n e h = rw (ne_eqb (following x) 4 (λ z. omega arith), e)

  pub text_cut : (n : ℕ) → n ≡ following x → n < 4 → length xs < n → text_fits (x ∷ xs) ≡ false
  text_cut n e h few = text_first n e h ∙ text_short n xs few

-- the bytes that follow a first one, and what is left
pub text_follow : (n : ℕ) (xs : List ℕ) → n ≤ length xs → text_from n xs ≡ and (list_all follows (take n xs)) (text_fits (drop n xs))
unfolding text_from
text_follow zero xs h = refl
text_follow (suc n) [] h = absurd (omega arith)
text_follow (suc n) (x ∷ xs) h = go (follows x) (text_follow n xs (omega arith))
  where
    go : (b : Bool) → text_from n xs ≡ and (list_all follows (take n xs)) (text_fits (drop n xs))
        → and b (text_from n xs) ≡ and (b && list_all follows (take n xs)) (text_fits (drop n xs))
    go true h = h
    go false h = refl

-- what is left of a text behind a first byte and those that follow it, or nothing where it is none
abbrev pub Left : ℕ → List ℕ → Option (Bor (List ℕ)) → Type 0
Left x xs r = MatchOption r (text_fits (x ∷ xs) ≡ false) (λ left. text_fits (x ∷ xs) ≡ text_fits left.now)

pub text_left : (x n : ℕ) (xs front : List ℕ) (left : Bor (List ℕ)) (b : Bool) → n ≡ following x → n < 4 → IsSplitAt xs n front left.now
    → b ≡ list_all follows front → Left x xs (then_some b left)
text_left x n xs front left b e h s all = go b (sym all)
  where
    whole : text_fits (x ∷ xs) ≡ and (list_all follows front) (text_fits left.now)
    whole = text_first x xs n e h ∙ text_follow n xs s.0 ∙ rw (s.1, s.2)

    go : (b : Bool) → list_all follows front ≡ b → Left x xs (then_some b left)
    go true d = rw d at whole
    go false d = rw d at whole

-- ---- a string's content, by places

-- mark, terminator and text
abbrev pub marked : List ℕ → ℕ → ℕ → Bool
marked p from end =
    and (eqb (get_or p from 0) 0xEF)
    (and (eqb (get_or p (from + 1) 0) 0xBB)
    (and (eqb (get_or p (from + 2) 0) 0xBF)
    (and (eqb (get_or p (end - 1) 0) 0)
    (text_fits (slice (from + 3) (end - 1) p)))))

abbrev pub string_at : List ℕ → ℕ → ℕ → Bool
string_at p from end = and (leb 4 (end - from)) (marked p from end)

take_of_drop {ℓ} : {X : Type ℓ} (k m : ℕ) (l : List X) → take m (drop k l) ≡ drop k (take (k + m) l)
take_of_drop zero m l = let e : 0 + m ≡ m = omega arith in rw e
take_of_drop (suc k) m [] = rw (suc-add k m, take-nil m)
take_of_drop (suc k) m (x ∷ l) = rw (suc-add k m) (take_of_drop k m l)

module _ (p : List ℕ) (from end : ℕ) (h : from ≤ end) (in_p : end ≤ length p) where
  slice_at : (i : ℕ) → from + i < end → get_or (slice from end p) i 0 ≡ get_or p (from + i) 0
  slice_at i k = get_or-drop from (take end p) i 0 ∙ get_or-take end p (from + i) 0 k

  inner_slice : 4 ≤ end - from → take (end - from - 4) (drop 3 (slice from end p)) ≡ slice (from + 3) (end - 1) p
  inner_slice k =
      let e : from + 3 + (end - from - 4) ≡ end - 1 = omega arith in
      rw (drop-drop 3 from (take end p), take_of_drop (from + 3) (end - from - 4) (take end p), e, take-take (end - 1) end p (omega arith))

  pub string_at_lem : string_fits (slice from end p) ≡ string_at p from end
  unfolding string_fits
  string_at_lem = rw (length-slice from end p in_p) (go (leb 4 (end - from)) refl)
    where
      go : (b : Bool) → leb 4 (end - from) ≡ b →
          and b
          (and (eqb (get_or (slice from end p) 0 0) 0xEF)
          (and (eqb (get_or (slice from end p) 1 0) 0xBB)
          (and (eqb (get_or (slice from end p) 2 0) 0xBF)
          (and (eqb (get_or (slice from end p) (end - from - 1) 0) 0)
          (text_fits (take (end - from - 4) (drop 3 (slice from end p))))))))
          ≡ and b (marked p from end)
      go true e =
          let k = leb-true 4 (end - from) e in
          let z : from + (end - from - 1) ≡ end - 1 = omega arith in
          rw (
            slice_at 0 (omega arith),
            slice_at 1 (omega arith),
            slice_at 2 (omega arith),
            slice_at (end - from - 1) (omega arith),
            inner_slice k,
            add-zero from,
            z,
          )
      go false e = refl

-- ---- text as a grammar

follows_in : (x : ℕ) → In 0x80 0xBF x → follows x ≡ true
unfolding follows
follows_in x h = rw (le-leb 0x80 x h.0, lt-ltb x 0xC0 (omega arith))

module _ (x : ℕ) where
  pub following_alone : In 0x01 0x7F x → following x ≡ 0
  unfolding following
  following_alone h = rw (ne_eqb x 0 (λ e. omega arith), lt-ltb x 0x80 (omega arith))

  pub following_two : In 0xC2 0xDF x → following x ≡ 1
  unfolding following
  following_two h = rw (ne_eqb x 0 (λ e. omega arith), le-ltb x 0x80 (omega arith), le-ltb x 0xC2 (omega arith), lt-ltb x 0xE0 (omega arith))

  pub following_three : In 0xE0 0xEF x → following x ≡ 2
  unfolding following
  following_three h =
      rw (ne_eqb x 0 (λ e. omega arith), le-ltb x 0x80 (omega arith), le-ltb x 0xC2 (omega arith), le-ltb x 0xE0 (omega arith), lt-ltb x 0xF0 (omega arith))

  pub following_four : In 0xF0 0xF4 x → following x ≡ 3
  unfolding following
  following_four h =
      rw (
        ne_eqb x 0 (λ e. omega arith),
        le-ltb x 0x80 (omega arith),
        le-ltb x 0xC2 (omega arith),
        le-ltb x 0xE0 (omega arith),
        le-ltb x 0xF0 (omega arith),
        lt-ltb x 0xF5 (omega arith),
      )

pub text_fits_lem : {xs : List ℕ} → Text xs → text_fits xs ≡ true
unfolding text_from
text_fits_lem none = refl
text_fits_lem (alone {x} h t) = rw (following_alone x h) (text_fits_lem t)
text_fits_lem (two {x} {a} h i t) = rw (following_two x h, follows_in a i) (text_fits_lem t)
text_fits_lem (three {x} {a} {b} h i j t) = rw (following_three x h, follows_in a i, follows_in b j) (text_fits_lem t)
text_fits_lem (four {x} {a} {b} {c} h i j k t) = rw (following_four x h, follows_in a i, follows_in b j, follows_in c k) (text_fits_lem t)

-- k bytes that follow, then text
data Rest : ℕ → List ℕ → Type 0 where
  done : {xs : List ℕ} → Text xs → Rest zero xs
  more : {k x : ℕ} {xs : List ℕ} → In 0x80 0xBF x → Rest k xs → Rest (suc k) (x ∷ xs)

text_rest : {xs : List ℕ} → Rest zero xs → Text xs
text_rest (done t) = t

two_rest : {x : ℕ} {xs : List ℕ} → In 0xC2 0xDF x → Rest (suc zero) xs → Text (x ∷ xs)
two_rest h (more i r) = two h i (text_rest r)

three_rest : {x : ℕ} {xs : List ℕ} → In 0xE0 0xEF x → Rest (suc (suc zero)) xs → Text (x ∷ xs)
three_rest h (more i (more j r)) = three h i j (text_rest r)

four_rest : {x : ℕ} {xs : List ℕ} → In 0xF0 0xF4 x → Rest (suc (suc (suc zero))) xs → Text (x ∷ xs)
four_rest h (more i (more j (more k r))) = four h i j k (text_rest r)

in_follows : (x : ℕ) → follows x ≡ true → In 0x80 0xBF x
unfolding follows
in_follows x e = go (leb 0x80 x) refl e
  where
    go : (b : Bool) → leb 0x80 x ≡ b → and b (ltb x 0xC0) ≡ true → In 0x80 0xBF x
    go true d e = (leb-true 0x80 x d, omega (arith, ltb-true x 0xC0 e))
    go false d e = let z : ◌≡◌ {A = ℕ} 0 1 = cc in absurd (omega arith)

first_rest : (x : ℕ) (xs : List ℕ) → ((k : ℕ) → text_from k xs ≡ true → Rest k xs) → text_fits (x ∷ xs) ≡ true → Text (x ∷ xs)
unfolding text_from following
first_rest x xs f e = go (eqb x 0) (ltb x 0x80) (ltb x 0xC2) (ltb x 0xE0) (ltb x 0xF0) (ltb x 0xF5) refl refl refl refl refl refl e
  where
    go : (a b c d g h : Bool) → eqb x 0 ≡ a → ltb x 0x80 ≡ b → ltb x 0xC2 ≡ c → ltb x 0xE0 ≡ d → ltb x 0xF0 ≡ g → ltb x 0xF5 ≡ h
        → pick (eqb (pick a 4 (pick b 0 (pick c 4 (pick d 1 (pick g 2 (pick h 3 4)))))) 4) false
        (text_from (pick a 4 (pick b 0 (pick c 4 (pick d 1 (pick g 2 (pick h 3 4)))))) xs) ≡ true
        → Text (x ∷ xs)
    go true b c d g h ea eb ec ed eg eh e = let z : ◌≡◌ {A = ℕ} 0 1 = cc in absurd (omega arith)
    go false true c d g h ea eb ec ed eg eh e = alone (some (eqb-false x 0 ea), omega (arith, ltb-true x 0x80 eb)) (text_rest (f 0 e))
      where
        some : (x ≡ 0 → ⊥) → 1 ≤ x
        some ne = omega arith
    go false false true d g h ea eb ec ed eg eh e = let z : ◌≡◌ {A = ℕ} 0 1 = cc in absurd (omega arith)
    go false false false true g h ea eb ec ed eg eh e = two_rest (ltb-false x 0xC2 ec, omega (arith, ltb-true x 0xE0 ed)) (f 1 e)
    go false false false false true h ea eb ec ed eg eh e = three_rest (ltb-false x 0xE0 ed, omega (arith, ltb-true x 0xF0 eg)) (f 2 e)
    go false false false false false true ea eb ec ed eg eh e = four_rest (ltb-false x 0xF0 eg, omega (arith, ltb-true x 0xF5 eh)) (f 3 e)
    go false false false false false false ea eb ec ed eg eh e = let z : ◌≡◌ {A = ℕ} 0 1 = cc in absurd (omega arith)

rest_of : (k : ℕ) (xs : List ℕ) → text_from k xs ≡ true → Rest k xs
unfolding text_from
rest_of zero [] e = done none
rest_of (suc k) [] e = let z = eqb-true (suc k) 0 e in absurd (omega arith)
rest_of zero (x ∷ xs) e = done (first_rest x xs (λ k. rest_of k xs) e)
rest_of (suc k) (x ∷ xs) e = more (in_follows x (and_left _ _ e)) (rest_of k xs (and_right (follows x) _ e))

pub fits_text : (xs : List ℕ) → text_fits xs ≡ true → Text xs
fits_text xs e = text_rest (rest_of zero xs e)

-- ---- what follows of text

pub text_append : {xs ys : List ℕ} → Text xs → Text ys → Text (xs ++ ys)
text_append none u = u
text_append (alone h t) u = alone h (text_append t u)
text_append (two h i t) u = two h i (text_append t u)
text_append (three h i j t) u = three h i j (text_append t u)
text_append (four h i j k t) u = four h i j k (text_append t u)

pub fits_append : (xs ys : List ℕ) → text_fits xs ≡ true → text_fits ys ≡ true → text_fits (xs ++ ys) ≡ true
fits_append xs ys e d = text_fits_lem (text_append (fits_text xs e) (fits_text ys d))

-- no zero byte
pub text_some : {xs : List ℕ} → Text xs → (i : ℕ) → i < length xs → 0 < get_or xs i 0
text_some none i h = absurd (omega arith)
text_some (alone a t) zero h = omega arith
text_some (alone a t) (suc i) h = text_some t i (omega arith)
text_some (two a b t) zero h = omega arith
text_some (two a b t) (suc zero) h = omega arith
text_some (two a b t) (suc (suc i)) h = text_some t i (omega arith)
text_some (three a b c t) zero h = omega arith
text_some (three a b c t) (suc zero) h = omega arith
text_some (three a b c t) (suc (suc zero)) h = omega arith
text_some (three a b c t) (suc (suc (suc i))) h = text_some t i (omega arith)
text_some (four a b c d t) zero h = omega arith
text_some (four a b c d t) (suc zero) h = omega arith
text_some (four a b c d t) (suc (suc zero)) h = omega arith
text_some (four a b c d t) (suc (suc (suc zero))) h = omega arith
text_some (four a b c d t) (suc (suc (suc (suc i)))) h = text_some t i (omega arith)

-- ---- strings

pub string_is : (text : List ℕ) → string_fits (string_bytes text) ≡ text_fits text
unfolding string_fits string_bytes
string_is text =
    let n : length (text ++ (0 ∷ [])) ≡ length text + 1 = length-append text (0 ∷ []) in
    let few : 4 ≤ suc (suc (suc (length (text ++ (0 ∷ []))))) = omega arith in
    let last : suc (suc (suc (length (text ++ (0 ∷ []))))) - 1 ≡ suc (suc (suc (length text))) = omega arith in
    let inner : suc (suc (suc (length (text ++ (0 ∷ []))))) - 4 ≡ length text = omega arith in
    rw (le-leb 4 _ few, last, inner, get_or-append_seam text 0 [] 0, take-append_seam text (0 ∷ []))

-- the text of a string's content

pub string_fits_lem : (c : List ℕ) → string_fits c ≡ true → (c ≡ string_bytes (text_of c)) × (text_fits (text_of c) ≡ true)
unfolding string_fits string_bytes
string_fits_lem c e = go c (leb-true 4 (length c) (and_left _ _ e)) (and_right (leb 4 (length c)) _ e)
  where
    go : (c : List ℕ) → 4 ≤ length c
        → and (eqb (get_or c 0 0) 0xEF)
        (and (eqb (get_or c 1 0) 0xBB)
        (and (eqb (get_or c 2 0) 0xBF)
        (and (eqb (get_or c (length c - 1) 0) 0)
        (text_fits (take (length c - 4) (drop 3 c))))))
        ≡ true
        → (c ≡ 0xEF ∷ 0xBB ∷ 0xBF ∷ (take (length c - 4) (drop 3 c) ++ (0 ∷ []))) × (text_fits (take (length c - 4) (drop 3 c)) ≡ true)
    go [] h e = absurd (omega arith)
    go (x ∷ []) h e = absurd (omega arith)
    go (x ∷ y ∷ []) h e = absurd (omega arith)
    go (x ∷ y ∷ z ∷ l) h e =
        let e1 = and_right (eqb x 0xEF) _ e in
        let e2 = and_right (eqb y 0xBB) _ e1 in
        let e3 = and_right (eqb z 0xBF) _ e2 in
        let x-is = eqb-true x 0xEF (and_left _ _ e) in
        let y-is = eqb-true y 0xBB (and_left _ _ e1) in
        let z-is = eqb-true z 0xBF (and_left _ _ e2) in
        let m = length l - 1 in
        let n : suc (suc (suc (length l))) - 4 ≡ m = omega arith in
        let k : suc (suc (suc (length l))) - 1 ≡ suc (suc (suc m)) = omega arith in
        let last : get_or l m 0 ≡ 0 = rw k at (eqb-true (get_or (x ∷ y ∷ z ∷ l) (suc (suc (suc (length l))) - 1) 0) 0 (and_left _ _ e3)) in
        let whole : l ≡ take m l ++ (get_or l m 0 ∷ []) =
        sym (take_all (suc m) l (omega arith)) ∙ take-suc l m 0 (omega arith) in
        let t = rw last at whole in
        (rw (n, x-is, y-is, z-is) (ap (λ (r : List ℕ). 0xEF ∷ 0xBB ∷ 0xBF ∷ r) t), and_right (eqb (get_or (x ∷ y ∷ z ∷ l) (suc (suc (suc (length l))) - 1) 0) 0) _ e3)
