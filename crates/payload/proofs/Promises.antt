-- The promises of specs/Promises.antt, each by the law that shows it.
-- Assumes nothing.
use mathlib.Core.Path.{sym, ◌∙◌}
use Rattle.payload.specs.Promises.{TableDecided, RowUnique, RowFound, OneReading, AcceptedExactly, OneTree, RefusalClears, RowsSet, NothingPast, InnerEnds, OneWriting, CheckedReads, FiveOutcomes, FewRows, AllRows, RoomLast, DoneExactly, OneFit, WithinLevel}
use Rattle.payload.specs.Settled.{WriteSettled}
use Rattle.payload.specs.WriteWhen.{WriteVerdicts}
use Rattle.payload.specs.Paths.{ReadByPaths}
use Rattle.payload.specs.Demand3.{Demand3Holds, AbsentArrives}
use Rattle.payload.specs.Demand3Cases.{Demand3Shown}
use Rattle.payload.proofs.Writing.WriteWhen as verdicts
use Rattle.payload.proofs.Writing.RoomLaws as rooms
use Rattle.payload.proofs.Paths.Demand3 as paths
use Rattle.payload.proofs.Paths.Demand3Cases as path-cases
use Rattle.payload.proofs.Paths.ByPath as by_path
use Rattle.payload.proofs.Rules.CheckLaws.{fits_tests}
use Rattle.payload.proofs.Walking.ReadLaws.{checked_reading}
use Rattle.payload.specs.Demand2.{Demand2Holds, Demand2Answered, CasesWritten, CasesBack}
use Rattle.payload.proofs.Writing.WrittenLaws as settled
use Rattle.payload.proofs.Round.Demand2 as demand
use Rattle.payload.proofs.Round.Demand2Cases as cases
use Rattle.payload.proofs.Rules.TableLaws as table
use Rattle.payload.proofs.Trees.Accepted.{accept_law}
use Rattle.payload.proofs.Trees.Unique.{tree_unique}
use Rattle.payload.proofs.Trees.Refusals.{reading_outcome, reading_size, reading_refused, reading_filled, reading_place, reading_inside, reading_shown}
use Rattle.payload.proofs.Trees.Inner.{entered}
use Rattle.payload.proofs.Trees.Bounds.{walk_bounds}

pub table_decided : TableDecided
table_decided t all = record { fits_keeps = table.fits_keeps t all; keeps_fits = table.keeps_fits t all }

pub row_unique : RowUnique
row_unique types u l first x = table.row_unique types l first x u

pub row_found : RowFound
row_found types u l first x = table.row_found types l first x u

pub one_reading : OneReading
one_reading p t room r s d e = d ∙ sym e

pub accepted_exactly : AcceptedExactly
accepted_exactly = accept_law

pub one_tree : OneTree
one_tree width types m m2 = tree_unique width types 1 0 m m2

pub refusal_clears : RefusalClears
refusal_clears = reading_refused

pub rows_set : RowsSet
rows_set = reading_filled

pub nothing_past : NothingPast
nothing_past p t room = record { only_walk = reading_place p t room; place_in = reading_inside p t room; runs_in = reading_shown p t room }

pub inner_ends : InnerEnds
inner_ends = entered

pub one_writing : OneWriting
one_writing rows room t buf old r s out out2 a b c d = (a ∙ sym c, b ∙ sym d)

pub write_settled : WriteSettled
write_settled = settled.write_settled

pub demand_2 : Demand2Holds
demand_2 = demand.demand_2

pub demand_2_answered : Demand2Answered
demand_2_answered = demand.demand_2_answered

pub cases_written : CasesWritten
cases_written = cases.cases_written

pub cases_back : CasesBack
cases_back = cases.cases_back

pub write_verdicts : WriteVerdicts
write_verdicts = verdicts.write_verdicts

pub demand_3 : Demand3Holds
demand_3 = paths.demand_3

pub absent_arrives : AbsentArrives
absent_arrives = paths.absent_arrives

pub demand3_shown : Demand3Shown
demand3_shown = path-cases.demand3_shown

pub read_by_paths : ReadByPaths
read_by_paths = by_path.read_by_paths

pub checked_reads : CheckedReads
checked_reads = checked_reading

pub five_outcomes : FiveOutcomes
five_outcomes = reading_outcome

pub few_rows : FewRows
few_rows t e = (fits_tests t e).few

pub all_rows : AllRows
all_rows = reading_size

pub room_last : RoomLast
room_last = rooms.room_last

pub done_exactly : DoneExactly
done_exactly = rooms.done_exactly

pub one_fit : OneFit
one_fit t r s d e = d ∙ sym e

pub within_level : WithinLevel
within_level = walk_bounds
