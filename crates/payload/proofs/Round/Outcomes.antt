-- An accepted writing: what it went through, and where its payload stands in the output.
-- Assumes nothing.
use mathlib.Core.Path.{◌≡◌, refl, sym, ap, ◌∙◌}
use Prim.Native.Nat.{ℕ, ◌+◌, ◌≤◌, ◌<◌}
use native.Mathlib.Omega.{arith}
use mathlib.Core.Bool.{Bool, true, false}
use mathlib.Core.List.{List}
use lib.ListN.{length, take, drop}
use lib.Seq.{sets-eq, take_at}
use lib.Dec.{ltb}
use borrow.Author.Tests.{ltb-false, le-ltb}
use Rattle.wire.specs.Choose.{pick}
use Rattle.wire.specs.declared.verdict.Verdict.{Verdict}
use Rattle.wire.specs.declared.verdict.Verdict.TheVariants.{Accepted, Table as NoTable, Room, Value as NoValue, Outside as Past, Wide, Heavy}
use Rattle.wire.specs.Verdict.{verdict_number}
use Rattle.payload.specs.declared.table.Table.{Table}
use Rattle.payload.specs.declared.row.Row.{Row}
use Rattle.payload.specs.Judging.{Judged}
use Rattle.payload.specs.Judging.{Fine, Outside, Unfit}
use Rattle.payload.specs.Table.{type_rows, table_fits}
use Rattle.payload.specs.Reading.{payload_most}
use Rattle.payload.specs.Tree.{bytes_of}
use Rattle.payload.specs.Judging.{judged_of}
use Rattle.payload.specs.Writing.{tree_of, some_wide, Outcome, refused, done, sized_of, if_fine, outcome_of, answer_is, output_is, writing_of, output_of}
use Rattle.payload.proofs.Trees.Walk.{pick_all}

-- ---- what an accepted writing went through

pub record AllFits (rows : List Row) (room : ℕ) (t : Table) (buf : List ℕ) (space : ℕ) (p : List ℕ) : Type 0 where
  pub table_fits_lem : table_fits t ≡ true
  pub room_fits : t.count ≤ room
  pub judged : judged_of buf (type_rows t) rows ≡ Fine
  pub narrow : some_wide t.width (tree_of t buf rows) ≡ false
  pub size_fits : length p ≤ payload_most
  pub space_fits : length p ≤ space
  pub bytes_are : p ≡ bytes_of t.width (tree_of t buf rows)

never {ℓ} : {X : Type ℓ} {v : Verdict} {p : List ℕ} → refused v ≡ done p → X
never e = let z : ◌≡◌ {A = ℕ} 0 1 = cc in absurd (omega arith)

module _ (rows : List Row) (room : ℕ) (t : Table) (buf : List ℕ) (space : ℕ) (p : List ℕ) where
  pub outcome_fits : outcome_of rows room t buf space ≡ done p → AllFits rows room t buf space p
  unfolding outcome_of if_fine sized_of
  outcome_fits e =
      go (table_fits t) refl (ltb room t.count) refl (judged_of buf (type_rows t) rows) refl (some_wide t.width (tree_of t buf rows)) refl
      (ltb payload_most (length (bytes_of t.width (tree_of t buf rows)))) refl (ltb space (length (bytes_of t.width (tree_of t buf rows)))) refl e
    where
      go : (a : Bool) → table_fits t ≡ a → (b : Bool) → ltb room t.count ≡ b → (j : Judged) → judged_of buf (type_rows t) rows ≡ j
          → (c : Bool) → some_wide t.width (tree_of t buf rows) ≡ c
          → (x : Bool) → ltb payload_most (length (bytes_of t.width (tree_of t buf rows))) ≡ x
          → (y : Bool) → ltb space (length (bytes_of t.width (tree_of t buf rows))) ≡ y
          → pick a
          (pick b (refused Room)
          (if_fine j (pick c (refused Wide) (pick x (refused Heavy) (pick y (refused Room) (done (bytes_of t.width (tree_of t buf rows))))))))
          (refused NoTable) ≡ done p
          → AllFits rows room t buf space p
      go false ea b eb j ej c ec x ex y ey e = never e
      go true ea true eb j ej c ec x ex y ey e = never e
      go true ea false eb Outside ej c ec x ex y ey e = never e
      go true ea false eb Unfit ej c ec x ex y ey e = never e
      go true ea false eb Fine ej true ec x ex y ey e = never e
      go true ea false eb Fine ej false ec true ex y ey e = never e
      go true ea false eb Fine ej false ec false ex true ey e = never e
      go true ea false eb Fine ej false ec false ex false ey e =
          let z : bytes_of t.width (tree_of t buf rows) ≡ p = cc in
          record {
            table_fits_lem = ea;
            room_fits = ltb-false room t.count eb;
            judged = ej;
            narrow = ec;
            size_fits = rw (← z) (ltb-false payload_most _ ex);
            space_fits = rw (← z) (ltb-false space _ ey);
            bytes_are = sym z;
          }

  pub fits_outcome : AllFits rows room t buf space p → outcome_of rows room t buf space ≡ done p
  unfolding outcome_of if_fine sized_of
  fits_outcome w =
      rw (
        w.table_fits_lem,
        le-ltb room t.count w.room_fits,
        w.judged,
        w.narrow,
        ← w.bytes_are,
        le-ltb payload_most (length p) w.size_fits,
        le-ltb space (length p) w.space_fits,
      )

-- ---- by the writer's answer

-- a refusal's verdict isn't 0
abbrev Proper : Outcome → Type 0
Proper o = o ≡ refused Accepted → ⊥

proper_refusal : (v : Verdict) → 0 < verdict_number v → Proper (refused v)
proper_refusal v h e = let z : v ≡ Accepted = cc in omega (arith, ap verdict_number z)

proper_done : (p : List ℕ) → Proper (done p)
proper_done p e = never (sym e)

module _ (rows : List Row) (room : ℕ) (t : Table) (buf old : List ℕ) where
  proper : Proper (outcome_of rows room t buf (length old))
  unfolding outcome_of sized_of if_fine
  proper =
      pick_all Proper (table_fits t)
      (pick_all Proper (ltb room t.count) (proper_refusal Room (omega arith)) (fine (judged_of buf (type_rows t) rows)))
      (proper_refusal NoTable (omega arith))
    where
      b : List ℕ
      b = bytes_of t.width (tree_of t buf rows)

      fine : (j : Judged) → Proper (if_fine j (sized_of t.width (tree_of t buf rows) (length old)))
      fine Fine =
          pick_all Proper (some_wide t.width (tree_of t buf rows)) (proper_refusal Wide (omega arith))
          (pick_all Proper (ltb payload_most (length b)) (proper_refusal Heavy (omega arith))
          (pick_all Proper (ltb (length old) (length b)) (proper_refusal Room (omega arith)) (proper_done b)))
      fine Outside = proper_refusal Past (omega arith)
      fine Unfit = proper_refusal NoValue (omega arith)

  -- an accepted writing leaves the payload at the output's start
  pub answer_outcome : (writing_of rows room t buf (length old)).verdict ≡ Accepted
      → outcome_of rows room t buf (length old) ≡ done (take (writing_of rows room t buf (length old)).len (output_of rows room t buf old))
  unfolding writing_of output_of answer_is output_is
  answer_outcome v = go (outcome_of rows room t buf (length old)) refl v
    where
      go : (o : Outcome) → outcome_of rows room t buf (length old) ≡ o → (answer_is o).verdict ≡ Accepted
          → o ≡ done (take (answer_is o).len (output_is old o))
      go (refused v) e q = absurd (proper (e ∙ ap refused q))
      go (done p) e q =
          let w = outcome_fits rows room t buf (length old) p e in
          ap done (sym (ap (take (length p)) (sets-eq p old 0 (omega (arith, w.space_fits))) ∙ take_at p (drop (0 + length p) old) (length p) refl))
