-- The output's room is asked last; a writing gives a payload exactly when every test is met, and no refused writing has verdict 0.
-- Assumes nothing.
use mathlib.Core.Path.{◌≡◌, refl}
use Prim.Native.Nat.{ℕ}
use mathlib.Core.Bool.{Bool, true, false}
use mathlib.Core.List.{List}
use lib.ListN.{length}
use lib.Dec.{ltb}
use Rattle.wire.specs.Choose.{pick}
use Rattle.wire.specs.declared.verdict.Verdict.TheVariants.{Accepted, Table as NoTable, Room, Wide, Heavy}
use Rattle.payload.specs.declared.table.Table.{Table}
use Rattle.payload.specs.declared.row.Row.{Row}
use Rattle.payload.specs.Judging.{Judged}
use Rattle.payload.specs.Judging.{Fine, Outside, Unfit}
use Rattle.payload.specs.Table.{type_rows, table_fits}
use Rattle.payload.specs.Reading.{payload_most}
use Rattle.payload.specs.Judging.{judged_of}
use Rattle.payload.specs.Writing.{tree_of, some_wide, refused, done, sized_of, if_fine, outcome_of, answer_is, writing_of}
use Rattle.payload.specs.Settled.{payload_of, Accepts}
use Rattle.payload.specs.Promises.{within, RoomLast, DoneExactly}
use Rattle.payload.proofs.Joined.{clash}
use Rattle.payload.proofs.Writing.WrittenLaws.{accepts_outcome, accepted_accepts}

pub room_last : RoomLast
unfolding outcome_of if_fine sized_of
room_last rows room t buf space =
    go (table_fits t) (ltb room t.count) (judged_of buf (type_rows t) rows) (some_wide t.width (tree_of t buf rows))
    (ltb payload_most (length (payload_of t buf rows))) refl
  where
    go : (a b : Bool) (j : Judged) (d f : Bool) → ltb payload_most (length (payload_of t buf rows)) ≡ f
        → pick a (pick b (refused Room) (if_fine j (pick d (refused Wide) (pick f (refused Heavy)
        (pick (ltb space (length (payload_of t buf rows))) (refused Room) (done (payload_of t buf rows))))))) (refused NoTable)
        ≡ within space (pick a (pick b (refused Room) (if_fine j (pick d (refused Wide) (pick f (refused Heavy)
        (pick (ltb payload_most (length (payload_of t buf rows))) (refused Room) (done (payload_of t buf rows))))))) (refused NoTable))
    go false b j d f e = refl
    go true true j d f e = refl
    go true false Outside d f e = refl
    go true false Unfit d f e = refl
    go true false Fine true f e = refl
    go true false Fine false true e = refl
    go true false Fine false false e = rw e

module _ (rows : List Row) (room : ℕ) (t : Table) (buf : List ℕ) (space : ℕ) where
  meets : (p : List ℕ) → outcome_of rows room t buf space ≡ done p → Accepts rows room t buf space × (p ≡ payload_of t buf rows)
  unfolding writing_of answer_is
  meets p e =
      let a = accepted_accepts rows room t buf space (rw e) in
      let d = accepts_outcome rows room t buf space a in
      (a, cc)

  truly : outcome_of rows room t buf space ≡ refused Accepted → ⊥
  unfolding writing_of answer_is
  truly e =
      let d = accepts_outcome rows room t buf space (accepted_accepts rows room t buf space (rw e)) in
      clash (cc)

pub done_exactly : DoneExactly
done_exactly rows room t buf space = record {
  done_meets = meets rows room t buf space;
  meets_done = accepts_outcome rows room t buf space;
  refuses_truly = truly rows room t buf space;
}
