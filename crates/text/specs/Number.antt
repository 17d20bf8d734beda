-- Numbers as people write them.
use Rattle.std.specs.Prelude.{ℕ, Bool, true, false, List, [], ◌∷◌, drop, cond, ◌==◌}

-- whether a byte is x or X
abbrev pub is_mark : ℕ → Bool
is_mark c = cond (c == 120) true (c == 88)

-- whether a word begins with 0x or 0X
abbrev pub is_prefixed : List ℕ → Bool
is_prefixed [] = false
is_prefixed (_ ∷ []) = false
is_prefixed (first ∷ second ∷ _) = cond (first == 48) (is_mark second) false

-- the radix of the digits of a word
abbrev pub radix_of : List ℕ → ℕ
radix_of word = cond (is_prefixed word) 16 10

-- the digits of a word: all of it, or what stands behind its 0x
abbrev pub digits_of : List ℕ → List ℕ
digits_of word = drop (cond (is_prefixed word) 2 0) word
