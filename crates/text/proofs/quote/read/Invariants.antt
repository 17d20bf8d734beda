-- `text::quote::read`: the text so far lies in the buffer. Each turn takes a byte or an escape off what is left.
use Rattle.std.proofs.Common.{◌≡◌, ◌≤◌, length}
use Rattle.text.proofs.quote.read.Given as goal

abbrev pub invariant-loop-first : goal.invariant-loop-first
invariant-loop-first l = (l.len ≤ length l.buf) × (length l.buf ≡ length l.initial.buf)

abbrev pub decreases-loop-first : goal.decreases-loop-first
decreases-loop-first l = length l.rest
