-- `wire::text::text_fits` meets its contract. The loop's invariant: the whole is text exactly if what is left is. The measure is what is left.
use mathlib.Core.Path.{◌≡◌}
use lib.ListN.{length}
use Rattle.wire.specs.Text.{text_fits}
use Rattle.wire.proofs.text.text_fits.Given as goal

abbrev pub invariant-loop-rest : goal.invariant-loop-rest
invariant-loop-rest l = text_fits l.text ≡ text_fits l.rest

abbrev pub decreases-loop-rest : goal.decreases-loop-rest
decreases-loop-rest l = length l.rest
