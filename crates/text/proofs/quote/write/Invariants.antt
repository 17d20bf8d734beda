-- `text::quote::write` ends: each turn takes a character off what is left.
use Rattle.std.proofs.Common.{length}
use Rattle.text.proofs.quote.write.Given as goal

abbrev pub decreases-loop-first : goal.decreases-loop-first
decreases-loop-first g l = length l.rest
