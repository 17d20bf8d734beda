-- The archive's verdicts (document 02, Five), each with its number.
use Rattle.std.specs.Prelude.{ℕ}
use Rattle.archive.specs.declared.verdict.Verdict.{Verdict}
use Rattle.archive.specs.declared.verdict.Verdict.TheVariants.{Accepted, Full, Trailer, Records, NoMessage, NoRecord}

abbrev pub verdict_number : Verdict → ℕ
verdict_number Accepted = 0
verdict_number Full = 50
verdict_number Trailer = 51
verdict_number Records = 52
verdict_number NoMessage = 53
verdict_number NoRecord = 54
