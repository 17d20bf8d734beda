-- `read_level`, `read_member` and `read_known` of a walker, which call each other. The bytes that are left fall. The loop's invariant: the walk
-- from where the level began is the walk from here.
use Rattle.std.proofs.Common.{◌-◌, ◌+◌, ◌*◌}
use Rattle.payload.proofs.Walking.LevelLaws.{OnWay}
use Rattle.payload.proofs.read.Walker.+walk.Given as goal

abbrev pub decreases-read_level : goal.decreases-read_level
decreases-read_level l = (l.level.span.end - l.level.span.from) * 3 + 2

abbrev pub decreases-read_member : goal.decreases-read_member
decreases-read_member l = (l.level.span.end - l.at) * 3 + 1

abbrev pub decreases-read_known : goal.decreases-read_known
decreases-read_known l = (l.level.span.end - l.at) * 3

abbrev pub invariant-read_level-loop-at : goal.invariant-read_level-loop-at
invariant-read_level-loop-at l = OnWay l.fn.self l.initial.at l.level l.self l.at

abbrev pub decreases-read_level-loop-at : goal.decreases-read_level-loop-at
decreases-read_level-loop-at l = l.level.span.end - l.at
