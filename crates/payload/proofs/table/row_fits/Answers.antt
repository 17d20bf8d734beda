-- `row_fits` meets its contract: a row that fails a test breaks a rule.
use Rattle.std.proofs.Common.{rules}
use Rattle.payload.specs.Table.{row_fits}
use Rattle.payload.proofs.table.row_fits.Goals as goal

pub returns-then-matches : goal.returns-then-matches
unfolding row_fits
returns-then-matches c = search rules

pub returns-else-matches : goal.returns-else-matches
unfolding row_fits
returns-else-matches c = search rules
