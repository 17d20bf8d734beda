-- What stands where in a file, for any bytes.
use Rattle.std.specs.Prelude.{ℕ, ◌+◌, List, length, leb}
use Rattle.wire.specs.Choose.{pick}
use Rattle.wire.specs.Header.{field_at}

-- the number of the w bytes at a place, and 0 past the end
abbrev pub field_or : ℕ → ℕ → List ℕ → ℕ
field_or at w d = pick (leb (at + w) (length d)) (field_at at w d) 0
