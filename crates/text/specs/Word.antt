-- Words of a line.
use Rattle.std.specs.Prelude.{ℕ, ◌≡◌, ◌<◌, ◌-◌, ◌++◌, List, drop, length, map}
use Rattle.std.specs.Char.{to_ascii_lowercase}

-- two words are the same, their letters in either case
abbrev pub AreAlike : List ℕ → List ℕ → Type 0
AreAlike a b = map to_ascii_lowercase a ≡ map to_ascii_lowercase b

-- a line ends with a word, which has a byte or more, and what is left behind it
abbrev pub TakesWord : List ℕ → List ℕ → List ℕ → Type 0
TakesWord line word rest = (0 < length word) × (drop (length line - length (word ++ rest)) line ≡ word ++ rest)
