-- Parts of lent bytes.
use Rattle.std.specs.Prelude.{ℕ, ◌+◌, List, [], length, take, drop, leb}
use Rattle.std.proofs.Math.Seq.{slice}
use Rattle.wire.specs.Choose.{pick}
use Rattle.wire.specs.declared.part.Part.{Part}

abbrev pub part : ℕ → ℕ → Part
part at len = record { at = at; len = len }

-- an empty part
abbrev pub no_part : Part
no_part = part 0 0

-- The bytes from a part's place on, as many as it has; none where the part does not lie in what was lent.
unfoldable pub part_of : List ℕ → Part → List ℕ
part_of d p = pick (leb (p.at + p.len) (length d)) (slice p.at (p.at + p.len) d) []

-- so many bytes from a place on
abbrev pub run_of : List ℕ → ℕ → ℕ → List ℕ
run_of buf place len = take len (drop place buf)
