-- `vectors::lines::Lines::line_feed`: what has been searched lies between where the line begins and what has been read.
use Rattle.std.proofs.Common.{◌≤◌}
use Rattle.vectors.proofs.lines.Lines.line_feed.Given as goal

abbrev pub invariant-loop : goal.invariant-loop
invariant-loop g l = (l.self.from ≤ l.seen) × (l.seen ≤ l.self.to)
