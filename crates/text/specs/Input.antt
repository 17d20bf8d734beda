-- Inputs that are read.
use Rattle.std.specs.Prelude.{ℕ, ◌≡◌, ◌≤◌, List, Option, IfSome, length, take}

-- what was read is the first bytes, at most so many, of some source, where it is known what that gives
abbrev pub IsStartOfOne : {S : Type 0} → (S → Option (List ℕ)) → ℕ → List ℕ → Type 0
IsStartOfOne {S} remaining most start = (source : S) × IfSome (remaining source) (λ all. start ≡ take most all)

-- what was read is all that some source gives, where that is known
abbrev pub IsWholeOfOne : {S : Type 0} → (S → Option (List ℕ)) → List ℕ → Type 0
IsWholeOfOne {S} remaining whole = (source : S) × IfSome (remaining source) (λ all. whole ≡ all)

-- some source gives so many bytes or more, where it is known what it gives
abbrev pub OneFills : {S : Type 0} → (S → Option (List ℕ)) → ℕ → Type 0
OneFills {S} remaining room = (source : S) × IfSome (remaining source) (λ all. room ≤ length all)
