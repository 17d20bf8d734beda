-- Writing a payload (document 01, Value rows and Verdicts): the tree of present rows, and the writer's answer and output.
use Rattle.std.specs.Prelude.{ℕ, suc, ◌^◌, Bool, false, true, List, [], ◌∷◌, length, leb, ltb, eqb, Result, Ok, Err}
use Rattle.std.proofs.lemmas.List.Edits.{sets}
use Rattle.wire.specs.Choose.{pick, and, or}
use Rattle.wire.specs.Number.{big, number_bytes, twos_of}
use Rattle.wire.specs.Tag.{wire_of, tag_of, field_width}
use Rattle.wire.specs.Kind.{kind_at, size_of, string}
use Rattle.wire.specs.Text.{string_bytes}
use Rattle.wire.specs.Part.{run_of}
use Rattle.wire.specs.declared.verdict.Verdict.{Verdict}
use Rattle.wire.specs.declared.verdict.Verdict.TheVariants.{Accepted, Table as NoTable, Room, Value as NoValue, Outside as Past, Wide, Heavy}
use Rattle.payload.specs.declared.table.TypeRow.{TypeRow}
use Rattle.payload.specs.declared.table.Table.{Table}
use Rattle.payload.specs.declared.row.Row.{Row}
use Rattle.payload.specs.declared.row.Value.{Value}
use Rattle.payload.specs.declared.row.Value.TheVariants.{Absent, Unsigned, Signed, Float32, Float64, Bytes, Members as Branch}
use Rattle.payload.specs.declared.write.Written.{Written}
use Rattle.payload.specs.Table.{type_rows, table_fits}
use Rattle.payload.specs.Tree.{Members, stop, mem, bytes_of}
use Rattle.payload.specs.Reading.{payload_most}
use Rattle.payload.specs.Judging.{Judged, Fine, Outside, Unfit, judged_of}

-- ---- a row's member

-- Wire type 4 if the table says static, else 5, 6 or 7 for width 1, 2 or 4.
unfoldable pub run_wire : ℕ → Bool → ℕ
run_wire width fixed = pick fixed 4 (pick (eqb width 1) 5 (pick (eqb width 2) 6 7))

-- A number's wire type is its kind's. The writer sets bit 15 to 0.
unfoldable pub tag_for : ℕ → TypeRow → ℕ
tag_for ws r = tag_of 0 (pick (ltb r.kind string) (kind_at r.kind).wire ws) r.ident

-- What a row puts into the payload: nothing, a leaf's content, or a struct, whose members are rows of their own.
pub data Put : Type 0 where
  nothing : Put
  leaf : List ℕ → Put
  branch : Put

-- A float's bits alone are written. To a string's text the writer adds mark and terminator.
unfoldable pub put_of : List ℕ → TypeRow → Value → ℕ → Put
put_of buf r Absent bits = nothing
put_of buf r (Unsigned n) bits = leaf (number_bytes big (size_of r.kind) n)
put_of buf r (Signed z) bits = leaf (number_bytes big (size_of r.kind) (twos_of (size_of r.kind) z))
put_of buf r (Float32 x) bits = leaf (number_bytes big (size_of r.kind) bits)
put_of buf r (Float64 x) bits = leaf (number_bytes big (size_of r.kind) bits)
put_of buf r (Bytes place len) bits = leaf (pick (eqb r.kind string) (string_bytes (run_of buf place len)) (run_of buf place len))
put_of buf r Branch bits = branch

-- a row's level, its tag, and what it puts there
pub record Part : Type 0 where
  pub level : ℕ
  pub tag : ℕ
  pub put : Put

abbrev pub part_of : ℕ → List ℕ → TypeRow → Row → Part
part_of ws buf r v = record { level = r.level; tag = tag_for ws r; put = put_of buf r v.value v.bits }

unfoldable pub parts_of : ℕ → List ℕ → List TypeRow → List Row → List Part
parts_of ws buf [] vs = []
parts_of ws buf (r ∷ rs) [] = []
parts_of ws buf (r ∷ rs) (v ∷ vs) = part_of ws buf r v ∷ parts_of ws buf rs vs

-- ---- the tree of present rows, in table order

unfoldable pub placed : ℕ → Put → Members → Members → Members
placed tag nothing inner after = after
placed tag (leaf c) inner after = mem tag false c stop after
placed tag branch inner after = mem tag true [] inner after

-- The members of level l among the rows from here on. Deeper rows belong to the structs before them; a row above the level ends it.
unfoldable pub nested : ℕ → List Part → Members
nested l [] = stop
nested l (p ∷ ps) =
    pick (ltb p.level l) stop
    (pick (eqb p.level l) (placed p.tag p.put (nested (suc l) ps) (nested l ps))
    (nested l ps))

unfoldable pub tree_of : Table → List ℕ → List Row → Members
tree_of t buf rows = nested 1 (parts_of (run_wire t.width t.fixed) buf (type_rows t) rows)

-- ---- sizes

-- content of n bytes over what the length field holds
abbrev pub too_wide : ℕ → ℕ → ℕ → Bool
too_wide width tag n = and (leb 4 (wire_of tag)) (leb (256 ^ field_width width (wire_of tag)) n)

-- 32: the content of some member
unfoldable pub some_wide : ℕ → Members → Bool
some_wide width stop = false
some_wide width (mem tag s c inner after) =
    or (too_wide width tag (length (pick s (bytes_of width inner) c)))
    (or (some_wide width inner) (some_wide width after))

-- A refusal, or the payload that is written.
pub data Outcome : Type 0 where
  refused : Verdict → Outcome
  done : List ℕ → Outcome

-- 32, 33, then 2 for the output, which has `space` bytes
unfoldable pub sized_of : ℕ → Members → ℕ → Outcome
sized_of width tree space =
    pick (some_wide width tree) (refused Wide)
    (pick (ltb payload_most (length (bytes_of width tree))) (refused Heavy)
    (pick (ltb space (length (bytes_of width tree))) (refused Room)
    (done (bytes_of width tree))))

-- ---- a writing

unfoldable pub if_fine : Judged → Outcome → Outcome
if_fine Fine later = later
if_fine Outside later = refused Past
if_fine Unfit later = refused NoValue

-- 1, 2 for value rows, of which `room` are lent, then row by row 31 before 30, then 32, 33, then 2 for the output
unfoldable pub outcome_of : List Row → ℕ → Table → List ℕ → ℕ → Outcome
outcome_of rows room t buf space =
    pick (table_fits t)
    (pick (ltb room t.count) (refused Room)
    (if_fine (judged_of buf (type_rows t) rows)
    (sized_of t.width (tree_of t buf rows) space)))
    (refused NoTable)

-- what a writing gives: the payload's length, or why it is refused
abbrev pub result_is : Outcome → Result ℕ Verdict
result_is (refused v) = Err v
result_is (done bytes) = Ok (length bytes)

-- the answer of a result
abbrev pub written_is : Result ℕ Verdict → Written
written_is (Ok n) = record { verdict = Accepted; len = n }
written_is (Err v) = record { verdict = v; len = 0 }

-- A write answers its verdict and the payload's length, 0 on refusal.
unfoldable pub answer_is : Outcome → Written
answer_is o = written_is (result_is o)

-- A refused write changes no output byte; an accepted one changes the payload's bytes only, from the output's start.
unfoldable pub output_is : List ℕ → Outcome → List ℕ
output_is old (refused v) = old
output_is old (done bytes) = sets old 0 bytes

unfoldable pub writing_of : List Row → ℕ → Table → List ℕ → ℕ → Written
writing_of rows room t buf space = answer_is (outcome_of rows room t buf space)

unfoldable pub output_of : List Row → ℕ → Table → List ℕ → List ℕ → List ℕ
output_of rows room t buf old = output_is old (outcome_of rows room t buf (length old))
