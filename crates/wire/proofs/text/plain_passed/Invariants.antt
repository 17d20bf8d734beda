-- `wire::text::plain_passed` meets its contract. The loop's invariant: what was passed changes nothing. The measure is what is left.
use mathlib.Core.Path.{◌≡◌}
use Prim.Native.Nat.{◌≤◌}
use lib.ListN.{length}
use Rattle.wire.specs.Text.{text_fits}
use Rattle.wire.proofs.text.plain_passed.Given as goal

abbrev pub invariant-loop-four : goal.invariant-loop-four
invariant-loop-four l = (length l.rest ≤ length l.text) × (text_fits l.text ≡ text_fits l.rest)

abbrev pub decreases-loop-four : goal.decreases-loop-four
decreases-loop-four l = length l.rest
