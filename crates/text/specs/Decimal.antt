-- Floats as decimals.
use Rattle.std.specs.Prelude.{ℕ, List, Result, Ok}
use Rattle.text.specs.declared.number.NumberError.{NumberError}
use Rattle.text.specs.declared.number.NumberError.TheVariants.{NotANumber}
use Rattle.text.specs.declared.number.NumberError.TheVariants.{TooLarge as NumberTooLarge}
use Rattle.text.specs.declared.decimal.DecimalError.{DecimalError}
use Rattle.text.specs.declared.decimal.DecimalError.TheVariants.{NotADecimal, TooFar}

-- why a decimal is none whose exponent is no number
abbrev pub decimal_error_of : NumberError → DecimalError
decimal_error_of NotANumber = NotADecimal
decimal_error_of NumberTooLarge = TooFar

-- n are the bits of the float that a word is read as, where `gives` and `has_bits` say what the float's type reads and has
abbrev pub IsBitsOfRead : {F E : Type 0} → (List ℕ → Result F E → Type 0) → (F → ℕ → Type 0) → List ℕ → ℕ → Type 0
IsBitsOfRead {F} gives has_bits word n = (x : F) × (gives word (Ok x) × has_bits x n)
