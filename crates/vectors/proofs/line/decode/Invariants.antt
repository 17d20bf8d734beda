-- `vectors::line::decode`: a line's bytes never pass the most. Each turn takes one more; a line as it stands has at most 65,536.
use Rattle.std.proofs.Common.{◌≤◌, ◌-◌}
use Rattle.arrayvec.specs.ArrayVec.{array_vec_len}
use Rattle.vectors.proofs.line.decode.Given as goal

abbrev pub invariant-loop-digits : goal.invariant-loop-digits
invariant-loop-digits l = array_vec_len l.bytes ≤ 2048

abbrev pub decreases-loop-digits : goal.decreases-loop-digits
decreases-loop-digits l = 65536 - array_vec_len l.bytes
