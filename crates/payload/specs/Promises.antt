-- What this crate promises, a statement under each sentence. The proofs cite them in proofs/Promises.antt, in the same order.
use Rattle.std.specs.Prelude.{◌≡◌, ℕ, ◌+◌, ◌≤◌, Bool, true, List, length, drop, get_or, replicate, ltb}
use Rattle.std.proofs.Math.Option.{some}
use Rattle.wire.specs.Choose.{pick}
use Rattle.wire.specs.declared.verdict.Verdict.TheVariants.{Accepted, Room}
use Rattle.payload.specs.declared.table.TypeRow.{TypeRow}
use Rattle.payload.specs.declared.table.Table.{Table}
use Rattle.payload.specs.declared.row.Row.{Row}
use Rattle.payload.specs.declared.read.Reading.{Reading}
use Rattle.payload.specs.declared.write.Written.{Written}
use Rattle.payload.specs.Table.{find, idents_differ, table_fits, TableRules, RowOf}
use Rattle.payload.specs.Cells.{table_in, Checked}
use Rattle.payload.specs.Row.{absent_row}
use Rattle.payload.specs.Reading.{enter, step_of, walk, payload_most, checked_of, reading_of}
use Rattle.payload.specs.Writing as writing
use Rattle.payload.specs.Writing.{refused, done, outcome_of, writing_of, output_of}
use Rattle.payload.specs.Settled as settled
use Rattle.payload.specs.Settled.{payload_of}
use Rattle.payload.specs.Tree.{Members, bytes_of}
use Rattle.payload.specs.Formed.{Formed}
use Rattle.payload.specs.Bounds.{ByWalk, RunIn, Bounded, Entered}
use Rattle.payload.specs.Outcome.{changes_none, Outcome, AcceptLaw}

-- P1. A table passes the test exactly when it keeps the rules.
pub record TableIs (t : Table) : Type 0 where
  pub fits_keeps : table_fits t ≡ true → TableRules t
  pub keeps_fits : TableRules t → table_fits t ≡ true

abbrev pub TableDecided : Type 0
TableDecided = (t : Table) → length t.rows ≡ 64 → TableIs t

-- P2. In a valid table the row of a Data ID at a level is unique, and is the one that is found.
abbrev pub RowUnique : Type 0
RowUnique = (types : List TypeRow) → idents_differ types ≡ true → (l first x i j : ℕ) → RowOf types l first x i → RowOf types l first x j → i ≡ j

abbrev pub RowFound : Type 0
RowFound = (types : List TypeRow) → idents_differ types ≡ true → (l first x k : ℕ) → RowOf types l first x (first + k)
    → find l x (drop first types) ≡ some k

-- P3. Any two readings of a payload under a table are equal, with any number of lent rows and whatever they held.
abbrev pub OneReading : Type 0
OneReading = (p : List ℕ) (t : Table) (room : ℕ) (r s : Reading) → r ≡ reading_of p t room → s ≡ reading_of p t room → r ≡ s

-- P4. A payload is accepted exactly when it is the bytes of a well-formed tree of members; rows and count are the tree's.
abbrev pub AcceptedExactly : Type 0
AcceptedExactly = (p : List ℕ) (t : Table) (room : ℕ) → AcceptLaw p t room

-- P5. Bytes have one tree.
abbrev pub OneTree : Type 0
OneTree = (width : ℕ) (types : List TypeRow) (m m2 : Members) → Formed width types 1 0 m → Formed width types 1 0 m2
    → bytes_of width m ≡ bytes_of width m2 → m ≡ m2

-- P6. A refusal counts nothing, and leaves absent rows with all fields 0.
abbrev pub RefusalClears : Type 0
RefusalClears = (p : List ℕ) (t : Table) (room : ℕ) → ((reading_of p t room).verdict ≡ Accepted → ⊥)
    → ((reading_of p t room).skipped ≡ 0) × ((reading_of p t room).rows ≡ replicate 64 absent_row)

-- P7. As many lent rows are set as the table has, and none after 1 and 2.
abbrev pub RowsSet : Type 0
RowsSet = (p : List ℕ) (t : Table) (room : ℕ) → (reading_of p t room).filled ≡ pick (changes_none (reading_of p t room).verdict) 0 t.count

-- P8. Only the verdicts 20 to 27 have a place other than 0, and no place and no run of bytes lies past the payload's end.
pub record PlacesIn (p : List ℕ) (t : Table) (room : ℕ) : Type 0 where
  pub only_walk : (ByWalk (reading_of p t room).verdict → ⊥) → (reading_of p t room).place ≡ 0
  pub place_in : (reading_of p t room).place ≤ length p
  pub runs_in : (j : ℕ) → RunIn 0 (length p) (get_or (reading_of p t room).rows j absent_row)

abbrev pub NothingPast : Type 0
NothingPast = (p : List ℕ) (t : Table) (room : ℕ) → PlacesIn p t room

-- P9. A struct's content is what its length says: what stands behind it in the level changes neither its row nor its bytes.
abbrev pub InnerEnds : Type 0
InnerEnds = (width : ℕ) (types : List TypeRow) (l first place : ℕ) (bytes : List ℕ) (rows : List Row) (i p : ℕ) (c : List ℕ) (next : ℕ) (behind : List ℕ)
    → step_of width types l first place bytes rows ≡ enter i p c next behind
    → Entered width types l first place bytes rows i p c next behind

-- P10. Any two writings of the same rows under a table, with the same content buffer and output, are equal: the answer and every byte.
abbrev pub OneWriting : Type 0
OneWriting = (rows : List Row) (room : ℕ) (t : Table) (buf old : List ℕ) (r s : Written) (out out2 : List ℕ)
    → r ≡ writing_of rows room t buf (length old) → out ≡ output_of rows room t buf old
    → s ≡ writing_of rows room t buf (length old) → out2 ≡ output_of rows room t buf old
    → (r ≡ s) × (out ≡ out2)

-- P11. A writing is accepted exactly when every test is met; the output is then the bytes of the tree of present rows, and behind them the old
-- bytes; a refused one changes nothing: WriteSettled, in specs/Settled.antt.

-- P12. Values written are read back the same, byte runs by their bytes; what our writer made, read and written again, gives the same bytes;
-- what it made is the bytes of the tree of present rows: Demand2Holds and, by the writer's answer, Demand2Answered, in specs/Demand2.antt.

-- P13. Not empty: the writer accepts the rows of cases a, c and m and gives their bytes: CasesWritten and CasesBack, in specs/Demand2.antt.

-- P14. When a writing has each verdict, in the paper's order: WriteVerdicts, in specs/WriteWhen.antt.

-- P15. Two valid tables of one width that agree where they meet; any payload that the writer makes from one, its members in any order at each
-- level: the reader under the other shows each member as written and absent where none was, or gives 27 exactly when a member that it requires
-- is absent at a present level: Demand3Holds and, of what was left out, AbsentArrives, in specs/Demand3.antt; a closed instance in
-- specs/Demand3Cases.antt. The law behind it, for every tree of members: ReadByPaths, in specs/Paths.antt.

-- ---- what the layer above relies on

-- P16. Under a checked table, with room enough, the answer of the walk over the table's cells is the reading.
abbrev pub CheckedReads : Type 0
CheckedReads = (p : List ℕ) (t : Table) (room : ℕ) (cells : List ℕ) (fits : Bool) → Checked t cells fits → fits ≡ true → t.count ≤ room
    → checked_of p (table_in t.count cells) t.count t.width ≡ reading_of p t room

-- P17. Every reading is one of the five outcomes.
abbrev pub FiveOutcomes : Type 0
FiveOutcomes = (p : List ℕ) (t : Table) (room : ℕ) → Outcome p t room (reading_of p t room)

-- P18. A table that keeps its rules has 64 rows at most, and a reading has 64.
abbrev pub FewRows : Type 0
FewRows = (t : Table) → table_fits t ≡ true → t.count ≤ 64

abbrev pub AllRows : Type 0
AllRows = (p : List ℕ) (t : Table) (room : ℕ) → length (reading_of p t room).rows ≡ 64

-- P19. The output's room is asked last: no payload that is written has more than 1,400 bytes, and with less room the outcome is the same, or 2
-- where the payload is longer than the room.
abbrev pub within : ℕ → writing.Outcome → writing.Outcome
within space (refused v) = refused v
within space (done p) = pick (ltb space (length p)) (refused Room) (done p)

abbrev pub RoomLast : Type 0
RoomLast = (rows : List Row) (room : ℕ) (t : Table) (buf : List ℕ) (space : ℕ)
    → outcome_of rows room t buf space ≡ within space (outcome_of rows room t buf payload_most)

-- P20. A writing gives a payload exactly when every test is met, and the payload is that of the rows. No refusal has verdict 0.
pub record DoneLaw (rows : List Row) (room : ℕ) (t : Table) (buf : List ℕ) (space : ℕ) : Type 0 where
  pub done_meets : (p : List ℕ) → outcome_of rows room t buf space ≡ done p → settled.Accepts rows room t buf space × (p ≡ payload_of t buf rows)
  pub meets_done : settled.Accepts rows room t buf space → outcome_of rows room t buf space ≡ done (payload_of t buf rows)
  pub refuses_truly : outcome_of rows room t buf space ≡ refused Accepted → ⊥

abbrev pub DoneExactly : Type 0
DoneExactly = (rows : List Row) (room : ℕ) (t : Table) (buf : List ℕ) (space : ℕ) → DoneLaw rows room t buf space

-- ---- a table

-- P21. Any two answers to the question whether a table keeps its rules are equal.
abbrev pub OneFit : Type 0
OneFit = (t : Table) (r s : Bool) → r ≡ table_fits t → s ≡ table_fits t → r ≡ s

-- ---- a level

-- P22. No place read or shown lies past the end of its enclosing level, at whatever level: a refusal's place and each run that the walk of a
-- level's bytes gives are within them.
abbrev pub WithinLevel : Type 0
WithinLevel = (turns width : ℕ) (types : List TypeRow) (l first place : ℕ) (bytes : List ℕ) (rows : List Row) (n : ℕ)
    → Bounded place (place + length bytes) rows (walk turns width types l first place bytes rows n)
