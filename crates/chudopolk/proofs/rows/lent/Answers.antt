-- `chudopolk::rows::lent` meets its contract.
use mathlib.Core.Path.{◌∙◌}
use Rattle.chudopolk.proofs.ValueLaws.{lent_min}
use Rattle.chudopolk.proofs.rows.lent.Goals as goal

pub returns : goal.returns
returns c = c.min.ensures ∙ lent_min c.args.len
