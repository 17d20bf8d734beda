-- `archive::find::first_of` meets its contract. The loop's invariant: no message passed has the Session ID.
use Rattle.archive.proofs.FindLaws.{Seeking}
use Rattle.archive.proofs.find.first_of.Given as goal

abbrev pub invariant-loop-i : goal.invariant-loop-i
invariant-loop-i l = Seeking l.file l.session.0 l.i
