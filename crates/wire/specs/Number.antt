-- Numbers as bytes (document 01, Members; source 001, 5.1.2): big-endian, signed ones in two's complement, floats by their bits.
use Rattle.std.specs.Prelude.{ℕ, zero, suc, ◌+◌, ◌-◌, ◌*◌, ◌/◌, ◌%◌, ◌^◌, ◌<◌, List, [], ◌∷◌, length, get_or, ltb, ℤ, pos, negsuc}
use Rattle.wire.specs.Choose.{pick}

-- a list of bytes
abbrev pub AreBytes : List ℕ → Type 0
AreBytes xs = (i : ℕ) → get_or xs i 0 < 256

-- the order of a number's bytes: in `big` the first byte is the highest
pub data Order : Type 0 where
  big : Order

-- the number that bytes are
unfoldable pub number_of : Order → List ℕ → ℕ
number_of big [] = 0
number_of big (x ∷ xs) = x * 256 ^ length xs + number_of big xs

-- the low w bytes of a number
unfoldable pub number_bytes : Order → ℕ → ℕ → List ℕ
number_bytes big zero v = []
number_bytes big (suc w) v = v / 256 ^ w % 256 ∷ number_bytes big w v

-- half of the numbers that w bytes hold
abbrev pub half : ℕ → ℕ
half w = 2 ^ (8 * w - 1)

-- Two's complement: of the numbers below twice h, one below h is itself, one from h on is twice h less.
abbrev pub signed_by : ℕ → ℕ → ℤ
signed_by h v = pick (ltb v h) (pos v) (negsuc (h + h - 1 - v))

-- the signed number of w bytes
unfoldable pub signed_of : ℕ → ℕ → ℤ
signed_of w v = signed_by (half w) v

-- the number of w bytes that stands for a signed one
unfoldable pub twos_of : ℕ → ℤ → ℕ
twos_of w (pos n) = n
twos_of w (negsuc n) = half w + half w - 1 - n

-- a signed number is one of w bytes
pub data Within (w : ℕ) : ℤ → Type 0 where
  up : {n : ℕ} → n < half w → Within w (pos n)
  down : {n : ℕ} → n < half w → Within w (negsuc n)
