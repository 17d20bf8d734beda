-- A writing has each verdict exactly when the table says so.
-- Assumes nothing.
use mathlib.Core.Path.{◌≡◌, refl, subst}
use mathlib.Core.Bool.{Bool, true, false}
use mathlib.Core.Logic.{inl, inr}
use mathlib.Core.List.{List}
use Prim.Native.Nat.{ℕ}
use lib.ListN.{length}
use lib.Dec.{ltb}
use borrow.Author.Tests.{lt-ltb, le-ltb, ltb-true, ltb-false}
use Rattle.wire.specs.Choose.{pick}
use Rattle.wire.specs.declared.verdict.Verdict.{Verdict}
use Rattle.wire.specs.declared.verdict.Verdict.TheVariants.{
  Accepted,
  Table as NoTable,
  Room,
  Short,
  Length,
  Protocol,
  Service,
  Interface,
  Method,
  MessageType,
  Large,
  TagCut,
  Wire,
  Twice,
  FieldCut,
  Overrun,
  Array,
  Text,
  Missing,
  Value as NoValue,
  Outside as Past,
  Wide,
  Heavy,
}
use Rattle.payload.specs.declared.table.Table.{Table}
use Rattle.payload.specs.declared.row.Row.{Row}
use Rattle.payload.specs.Judging.{Judged}
use Rattle.payload.specs.Judging.{Fine, Outside, Unfit}
use Rattle.payload.specs.Table.{type_rows, table_fits}
use Rattle.payload.specs.Reading.{payload_most}
use Rattle.payload.specs.Judging.{judged_of}
use Rattle.payload.specs.Writing.{tree_of, some_wide, refused, done, sized_of, if_fine, outcome_of, answer_is, writing_of}
use Rattle.payload.specs.Settled.{payload_of}
use Rattle.payload.specs.WriteWhen.{WrittenWhen, WriteVerdicts}

module _ (rows : List Row) (room : ℕ) (t : Table) (buf : List ℕ) (space : ℕ) where
  given : (v : Verdict) → (writing_of rows room t buf space).verdict ≡ v → WrittenWhen rows room t buf space v
  unfolding writing_of outcome_of answer_is if_fine sized_of
  given v =
      go (table_fits t) (ltb room t.count) (judged_of buf (type_rows t) rows) (some_wide t.width (tree_of t buf rows))
      (ltb payload_most (length (payload_of t buf rows))) (ltb space (length (payload_of t buf rows))) refl refl refl refl refl refl
    where
      size : ℕ
      size = length (payload_of t buf rows)

      by : (u : Verdict) → WrittenWhen rows room t buf space u → u ≡ v → WrittenWhen rows room t buf space v
      by u w e = subst (WrittenWhen rows room t buf space) e w

      go : (a b : Bool) (j : Judged) (d f g : Bool) → table_fits t ≡ a → ltb room t.count ≡ b → judged_of buf (type_rows t) rows ≡ j
          → some_wide t.width (tree_of t buf rows) ≡ d → ltb payload_most (length (payload_of t buf rows)) ≡ f
          → ltb space (length (payload_of t buf rows)) ≡ g
          → (answer_is (pick a (pick b (refused Room) (if_fine j (pick d (refused Wide)
          (pick f (refused Heavy) (pick g (refused Room) (done (payload_of t buf rows))))))) (refused NoTable))).verdict ≡ v
          → WrittenWhen rows room t buf space v
      go false b j d f g ea eb ej ed ef eg = by NoTable ea
      go true true j d f g ea eb ej ed ef eg = by Room (inl (ea, ltb-true room t.count eb))
      go true false Outside d f g ea eb ej ed ef eg = by Past (record { table_fits_lem = ea; room_fits = ltb-false room t.count eb }, ej)
      go true false Unfit d f g ea eb ej ed ef eg = by NoValue (record { table_fits_lem = ea; room_fits = ltb-false room t.count eb }, ej)
      go true false Fine true f g ea eb ej ed ef eg = by Wide (record { table_fits_lem = ea; room_fits = ltb-false room t.count eb }, ej, ed)
      go true false Fine false true g ea eb ej ed ef eg =
          by Heavy (record { table_fits_lem = ea; room_fits = ltb-false room t.count eb }, ej, ed, ltb-true payload_most size ef)
      go true false Fine false false true ea eb ej ed ef eg =
          by Room
          (inr (
            record {
              table = ea;
              lent = ltb-false room t.count eb;
              judged = ej;
              narrow = ed;
              light = ltb-false payload_most size ef;
              fits = ltb-false payload_most size ef;
            },
            ltb-true space size eg,
          ))
      go true false Fine false false false ea eb ej ed ef eg =
          by Accepted
          (record {
            table = ea;
            lent = ltb-false room t.count eb;
            judged = ej;
            narrow = ed;
            light = ltb-false payload_most size ef;
            fits = ltb-false space size eg;
          })

  gives : (v : Verdict) → WrittenWhen rows room t buf space v → (writing_of rows room t buf space).verdict ≡ v
  unfolding writing_of outcome_of answer_is if_fine sized_of
  gives Accepted a =
      rw (
        a.table,
        le-ltb room t.count a.lent,
        a.judged,
        a.narrow,
        le-ltb payload_most (length (payload_of t buf rows)) a.light,
        le-ltb space (length (payload_of t buf rows)) a.fits,
      )
  gives NoTable e = rw e
  gives Room (inl (e, h)) = rw (e, lt-ltb room t.count h)
  gives Room (inr (a, h)) =
      rw (
        a.table,
        le-ltb room t.count a.lent,
        a.judged,
        a.narrow,
        le-ltb payload_most (length (payload_of t buf rows)) a.light,
        lt-ltb space (length (payload_of t buf rows)) h,
      )
  gives Past (l, j) = rw (l.table_fits_lem, le-ltb room t.count l.room_fits, j)
  gives NoValue (l, j) = rw (l.table_fits_lem, le-ltb room t.count l.room_fits, j)
  gives Wide (l, j, w) = rw (l.table_fits_lem, le-ltb room t.count l.room_fits, j, w)
  gives Heavy (l, j, w, h) =
      rw (l.table_fits_lem, le-ltb room t.count l.room_fits, j, w, lt-ltb payload_most (length (payload_of t buf rows)) h)
  gives Short w = absurd w
  gives Length w = absurd w
  gives Protocol w = absurd w
  gives Service w = absurd w
  gives Interface w = absurd w
  gives Method w = absurd w
  gives MessageType w = absurd w
  gives Large w = absurd w
  gives TagCut w = absurd w
  gives Wire w = absurd w
  gives Twice w = absurd w
  gives FieldCut w = absurd w
  gives Overrun w = absurd w
  gives Array w = absurd w
  gives Text w = absurd w
  gives Missing w = absurd w

pub write_verdicts : WriteVerdicts
write_verdicts rows room t buf space v = (given rows room t buf space v, gives rows room t buf space v)
