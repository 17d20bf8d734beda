-- What a writing answers and leaves: accepted exactly when every test is met, and then the output begins with the bytes of the tree; a
-- refused one changes nothing; the bytes beyond stay.
-- Assumes nothing.
use mathlib.Core.Path.{◌≡◌, refl}
use mathlib.Core.Bool.{Bool, true, false}
use mathlib.Core.List.{List, ◌++◌}
use Prim.Native.Nat.{ℕ, ◌+◌, ◌≤◌}
use native.Mathlib.Nat.{zero-add}
use native.Mathlib.Omega.{arith}
use lib.ListN.{length, drop}
use lib.Seq.{sets-eq, length-sets, drop-append_seam}
use lib.Dec.{ltb}
use borrow.Author.Tests.{ltb-false, le-ltb}
use Rattle.wire.specs.Choose.{pick}
use Rattle.wire.specs.declared.verdict.Verdict.TheVariants.{Accepted, Table as NoTable, Room, Wide, Heavy}
use Rattle.payload.specs.declared.table.Table.{Table}
use Rattle.payload.specs.declared.row.Row.{Row}
use Rattle.payload.specs.Judging.{Judged}
use Rattle.payload.specs.Judging.{Fine, Outside, Unfit}
use Rattle.payload.specs.Table.{type_rows, table_fits}
use Rattle.payload.specs.Reading.{payload_most}
use Rattle.payload.specs.Judging.{judged_of}
use Rattle.payload.specs.Writing.{tree_of, some_wide, Outcome, refused, done, sized_of, if_fine, outcome_of, answer_is, output_is, writing_of, output_of}
use Rattle.payload.specs.Settled.{payload_of, Accepts, WriteSettled}
use Rattle.payload.proofs.Joined.{clash}

module _ (rows : List Row) (room : ℕ) (t : Table) (buf : List ℕ) where
  pub accepts_outcome : (space : ℕ) → Accepts rows room t buf space → outcome_of rows room t buf space ≡ done (payload_of t buf rows)
  unfolding outcome_of if_fine sized_of
  accepts_outcome space a =
      rw (
        a.table,
        le-ltb room t.count a.lent,
        a.judged,
        a.narrow,
        le-ltb payload_most (length (payload_of t buf rows)) a.light,
        le-ltb space
            (length (payload_of t buf rows)) a.fits,
      )

  -- a writing that is accepted meets every test
  pub accepted_accepts : (space : ℕ) → (writing_of rows room t buf space).verdict ≡ Accepted → Accepts rows room t buf space
  unfolding writing_of outcome_of answer_is if_fine sized_of
  accepted_accepts space =
      go (table_fits t) (ltb room t.count) (judged_of buf (type_rows t) rows) (some_wide t.width (tree_of t buf rows))
      (ltb payload_most (length (payload_of t buf rows))) (ltb space (length (payload_of t buf rows))) refl refl refl refl refl refl
    where
      go : (a b : Bool) (j : Judged) (d f g : Bool) → table_fits t ≡ a → ltb room t.count ≡ b → judged_of buf (type_rows t) rows ≡ j
          → some_wide t.width (tree_of t buf rows) ≡ d → ltb payload_most (length (payload_of t buf rows)) ≡ f
          → ltb space (length (payload_of t buf rows)) ≡ g
          → (answer_is (pick a (pick b (refused Room) (if_fine j (pick d (refused Wide)
          (pick f (refused Heavy) (pick g (refused Room) (done (payload_of t buf rows))))))) (refused NoTable))).verdict ≡ Accepted
          → Accepts rows room t buf space
      go false b j d f g ea eb ej ed ef eg e = clash (cc)
      go true true j d f g ea eb ej ed ef eg e = clash (cc)
      go true false Outside d f g ea eb ej ed ef eg e = clash (cc)
      go true false Unfit d f g ea eb ej ed ef eg e = clash (cc)
      go true false Fine true f g ea eb ej ed ef eg e = clash (cc)
      go true false Fine false true g ea eb ej ed ef eg e = clash (cc)
      go true false Fine false false true ea eb ej ed ef eg e = clash (cc)
      go true false Fine false false false ea eb ej ed ef eg e = record {
        table = ea;
        lent = ltb-false room t.count eb;
        judged = ej;
        narrow = ed;
        light = ltb-false payload_most (length (payload_of t buf rows)) ef;
        fits = ltb-false space (length (payload_of t buf rows)) eg;
      }

  pub accepts_answer : (space : ℕ) → Accepts rows room t buf space → writing_of rows room t buf space
      ≡ record { verdict = Accepted; len = length (payload_of t buf rows) }
  unfolding writing_of answer_is
  accepts_answer space a = rw (accepts_outcome space a)

  module _ (old : List ℕ) where
    -- an accepted writing: the payload, and then the old bytes from there on
    pub accepts_output : Accepts rows room t buf (length old) → output_of rows room t buf old
        ≡ (payload_of t buf rows) ++ drop (length (payload_of t buf rows)) old
    unfolding output_of output_is
    accepts_output a =
        rw (accepts_outcome (length old) a)
        (let h : 0 + length (payload_of t buf rows) ≤ length old = omega (arith, a.fits) in rw zero-add at (sets-eq (payload_of t buf rows) old 0 h))

    -- a refused writing changes no byte and has length 0
    pub refused_kept : ((writing_of rows room t buf (length old)).verdict ≡ Accepted → ⊥)
        → (output_of rows room t buf old ≡ old) × ((writing_of rows room t buf (length old)).len ≡ 0)
    unfolding writing_of output_of answer_is output_is
    refused_kept = go (outcome_of rows room t buf (length old))
      where
        go : (o : Outcome) → ((answer_is o).verdict ≡ Accepted → ⊥) → (output_is old o ≡ old) × ((answer_is o).len ≡ 0)
        go (refused v) h = (refl, refl)
        go (done bytes) h = absurd (h refl)

    -- the output is as long as it was
    pub length_output : length (output_of rows room t buf old) ≡ length old
    unfolding output_of output_is
    length_output = go (outcome_of rows room t buf (length old))
      where
        go : (o : Outcome) → length (output_is old o) ≡ length old
        go (refused v) = refl
        go (done bytes) = length-sets old 0 bytes

  -- what is written is no longer than a payload may be, nor than the output is
  pub written_most : (space : ℕ) → ((writing_of rows room t buf space).len ≤ payload_most) × ((writing_of rows room t buf space).len ≤ space)
  unfolding writing_of answer_is
  written_most space = go (outcome_of rows room t buf space) refl
    where
      go : (o : Outcome) → outcome_of rows room t buf space ≡ o → ((answer_is o).len ≤ payload_most) × ((answer_is o).len ≤ space)
      go (refused v) e = (omega arith, omega arith)
      go (done bytes) e =
          let v : (writing_of rows room t buf space).verdict ≡ Accepted = rw e in
          let a = accepted_accepts space v in
          let z : bytes ≡ (payload_of t buf rows) = let d = accepts_outcome space a in cc in
          rw z (a.light, a.fits)

  -- the bytes beyond stay
  pub beyond_kept : (old : List ℕ) → drop (writing_of rows room t buf (length old)).len (output_of rows room t buf old)
      ≡ drop (writing_of rows room t buf (length old)).len old
  unfolding writing_of output_of answer_is output_is
  beyond_kept old = go (outcome_of rows room t buf (length old)) refl
    where
      go : (o : Outcome) → outcome_of rows room t buf (length old) ≡ o → drop (answer_is o).len (output_is old o) ≡ drop (answer_is o).len old
      go (refused v) e = refl
      go (done bytes) e =
          let w = rw e at (written_most (length old)).1 in
          let h : 0 + length bytes ≤ length old = omega arith in
          rw (rw zero-add at (sets-eq bytes old 0 h)) (drop-append_seam bytes (drop (length bytes) old))

pub write_settled : WriteSettled
write_settled rows room t buf old = record {
  meets = accepted_accepts rows room t buf (length old);
  answer = accepts_answer rows room t buf (length old);
  output = accepts_output rows room t buf old;
  kept = refused_kept rows room t buf old;
  most = (written_most rows room t buf (length old)).0;
  within = (written_most rows room t buf (length old)).1;
  same_length = length_output rows room t buf old;
  beyond = beyond_kept rows room t buf old;
}
