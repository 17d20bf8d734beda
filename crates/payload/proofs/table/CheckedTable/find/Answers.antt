-- `CheckedTable::find` meets its contract: the rows of a level are enough for a search of it.
use mathlib.Core.Path.{◌∙◌}
use Rattle.payload.proofs.Rules.CellLaws.{level_search, level_within}
use Rattle.payload.proofs.table.CheckedTable.find.Goals as goal

pub returns-clause-is : goal.returns-clause-is
returns-clause-is c = c.find_in.ensures.is ∙ level_search _ _ _ _ _ _ c.requires.1 c.requires.0

pub returns-clause-within : goal.returns-clause-within
returns-clause-within c = level_within _ _ _ _ _ c.args.ident c.requires.1 c.requires.0 _ c.find_in.ensures.within
