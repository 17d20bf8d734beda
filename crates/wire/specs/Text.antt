-- Strings (document 01, Members): EF BB BF, then text, then one 00.
use Rattle.std.specs.Prelude.{ℕ, zero, suc, ◌-◌, ◌≤◌, Bool, false, Option, Some, None, List, [], ◌∷◌, ◌++◌, length, take, drop, get_or, leb, ltb, eqb}
use Rattle.wire.specs.Choose.{pick, and}

-- How many bytes follow a first byte: a byte below 0x80 stands alone, 0xC2 to 0xDF is followed by one, 0xE0 to 0xEF by two, 0xF0 to 0xF4
-- by three. 4: no text has it there, a zero byte among them.
unfoldable pub following : ℕ → ℕ
following x =
    pick (eqb x 0) 4
    (pick (ltb x 0x80) 0
    (pick (ltb x 0xC2) 4
    (pick (ltb x 0xE0) 1
    (pick (ltb x 0xF0) 2
    (pick (ltb x 0xF5) 3
    4)))))

-- the same number, or none where no text has the byte
abbrev pub following_in : ℕ → Option ℕ
following_in x = pick (ltb (following x) 4) (Some (following x)) None

-- the bytes that follow are 0x80 to 0xBF
unfoldable pub follows : ℕ → Bool
follows x = and (leb 0x80 x) (ltb x 0xC0)

-- text of which k more bytes of a character are to come
unfoldable pub text_from : ℕ → List ℕ → Bool
text_from k [] = eqb k 0
text_from zero (x ∷ xs) = pick (eqb (following x) 4) false (text_from (following x) xs)
text_from (suc k) (x ∷ xs) = and (follows x) (text_from k xs)

abbrev pub text_fits : List ℕ → Bool
text_fits text = text_from 0 text

-- The same as a grammar: each character is one of these sequences, and nothing else occurs.
abbrev pub In : ℕ → ℕ → ℕ → Type 0
In least most x = (least ≤ x) × (x ≤ most)

pub data Text : List ℕ → Type 0 where
  none : Text []
  alone : {x : ℕ} {xs : List ℕ} → In 0x01 0x7F x → Text xs → Text (x ∷ xs)
  two : {x a : ℕ} {xs : List ℕ} → In 0xC2 0xDF x → In 0x80 0xBF a → Text xs → Text (x ∷ a ∷ xs)
  three : {x a b : ℕ} {xs : List ℕ} → In 0xE0 0xEF x → In 0x80 0xBF a → In 0x80 0xBF b → Text xs → Text (x ∷ a ∷ b ∷ xs)
  four : {x a b c : ℕ} {xs : List ℕ} → In 0xF0 0xF4 x → In 0x80 0xBF a → In 0x80 0xBF b → In 0x80 0xBF c → Text xs
      → Text (x ∷ a ∷ b ∷ c ∷ xs)

-- EF BB BF, text, 00
unfoldable pub string_bytes : List ℕ → List ℕ
string_bytes text = 0xEF ∷ 0xBB ∷ 0xBF ∷ (text ++ (0 ∷ []))

-- the text of a string's content
abbrev pub text_of : List ℕ → List ℕ
text_of c = take (length c - 4) (drop 3 c)

-- a content is such a string
unfoldable pub string_fits : List ℕ → Bool
string_fits c =
    and (leb 4 (length c))
    (and (eqb (get_or c 0 0) 0xEF)
    (and (eqb (get_or c 1 0) 0xBB)
    (and (eqb (get_or c 2 0) 0xBF)
    (and (eqb (get_or c (length c - 1) 0) 0)
    (text_fits (text_of c))))))
