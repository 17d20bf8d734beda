-- `checked` meets its contract. The loop's invariant, `Passed`: the first i rows keep their rules and stand in the cells; the table fits, and
-- its Data IDs rise, if those from row i on do.
use Rattle.payload.proofs.Rules.CheckLaws.{Passed}
use Rattle.payload.proofs.table.checked.Given as goal

abbrev pub invariant-loop-i : goal.invariant-loop-i
invariant-loop-i l = Passed l.t l.initial.lasts l.i l.most l.rising l.cells l.lasts
