-- A writing that is accepted: what it went through, and where its message stands in the output; and no refused one has verdict 0.
-- Assumes nothing.
use mathlib.Core.Path.{◌≡◌, refl, sym, ap, ◌∙◌}
use Prim.Native.Nat.{ℕ, ◌+◌, ◌≤◌}
use native.Mathlib.Omega.{arith}
use mathlib.Core.Bool.{Bool, true, false}
use mathlib.Core.List.{List}
use lib.ListN.{length, take, drop}
use lib.Seq.{take_at}
use lib.Dec.{ltb}
use borrow.Author.Tests.{le-ltb, ltb-false}
use Rattle.wire.specs.Choose.{pick}
use Rattle.wire.specs.Header.{header_len}
use Rattle.wire.specs.declared.verdict.Verdict.{Verdict}
use Rattle.wire.specs.declared.verdict.Verdict.TheVariants.{Accepted, Table as NoTable, Room}
use Rattle.payload.specs.declared.table.Table.{Table}
use Rattle.payload.specs.declared.row.Row.{Row}
use Rattle.payload.specs.Reading.{payload_most}
use Rattle.payload.specs.Writing.{Outcome, refused, done, outcome_of, answer_is, output_is}
use Rattle.payload.proofs.Promises.{done_exactly}
use Rattle.message.specs.declared.header.Header.{Header}
use Rattle.message.specs.MessageType.{is_one}
use Rattle.message.specs.Writing.{message_bytes, framed, sending_of, message_writing, message_output}
use Rattle.message.proofs.SendLaws.{message_size, part_front}

never {ℓ} : {X : Type ℓ} {v : Verdict} {m : List ℕ} → refused v ≡ done m → X
never e = let z : ◌≡◌ {A = ℕ} 0 1 = cc in absurd (omega arith)

pub record Given (h : Header) (rows : List Row) (room : ℕ) (t : Table) (buf : List ℕ) (space : ℕ) (m : List ℕ) : Type 0 where
  pub payload : List ℕ
  pub kind_one : is_one h.kind.0 ≡ true
  pub outcome : outcome_of rows room t buf payload_most ≡ done payload
  pub fits : header_len + length payload ≤ space
  pub message_is : m ≡ message_bytes h payload

module _ (h : Header) (rows : List Row) (room : ℕ) (t : Table) (buf : List ℕ) (space : ℕ) where
  module _ (m : List ℕ) where
    pub sending_given : sending_of h rows room t buf space ≡ done m → Given h rows room t buf space m
    unfolding sending_of framed
    sending_given = go (is_one h.kind.0) refl (outcome_of rows room t buf payload_most) refl
      where
        last : is_one h.kind.0 ≡ true → (p : List ℕ) → outcome_of rows room t buf payload_most ≡ done p
            → (b : Bool) → ltb space (header_len + length p) ≡ b → pick b (refused Room) (done (message_bytes h p)) ≡ done m
            → Given h rows room t buf space m
        last k p o true eb e = never e
        last k p o false eb e = record {
          payload = p;
          kind_one = k;
          outcome = o;
          fits = ltb-false space (header_len + length p) eb;
          message_is = cc;
        }

        go : (b : Bool) → is_one h.kind.0 ≡ b → (o : Outcome) → outcome_of rows room t buf payload_most ≡ o
            → pick b (framed h space o) (refused NoTable) ≡ done m → Given h rows room t buf space m
        go false k o eo e = never e
        go true k (refused v) eo e = never e
        go true k (done p) eo e = last k p eo (ltb space (header_len + length p)) refl e

    pub given_sending : Given h rows room t buf space m → sending_of h rows room t buf space ≡ done m
    unfolding sending_of framed
    given_sending g =
        rw (g.kind_one, g.outcome, le-ltb space (header_len + length g.payload) g.fits) (ap done (sym g.message_is))

  -- a refusal's verdict isn't 0
  pub sending_truly : sending_of h rows room t buf space ≡ refused Accepted → ⊥
  unfolding sending_of framed
  sending_truly = go (is_one h.kind.0) (outcome_of rows room t buf payload_most) (done_exactly rows room t buf payload_most).refuses_truly
    where
      last : (b : Bool) (m : List ℕ) → pick b (refused Room) (done m) ≡ refused Accepted → ⊥
      last true m e = let z : ◌≡◌ {A = ℕ} 0 1 = cc in omega arith
      last false m e = never (sym e)

      go : (b : Bool) (o : Outcome) → (o ≡ refused Accepted → ⊥) → pick b (framed h space o) (refused NoTable) ≡ refused Accepted → ⊥
      go false o n e = let z : ◌≡◌ {A = ℕ} 0 1 = cc in omega arith
      go true (refused v) n e = n e
      go true (done p) n e = last (ltb space (header_len + length p)) (message_bytes h p) e

-- ---- by the writer's answer

module _ (h : Header) (rows : List Row) (room : ℕ) (t : Table) (buf old : List ℕ) where
  -- an accepted writing leaves the message at the output's start
  pub answer_sending : (message_writing h rows room t buf (length old)).verdict ≡ Accepted
      → sending_of h rows room t buf (length old) ≡ done (take (message_writing h rows room t buf (length old)).len (message_output h rows room t buf old))
  unfolding message_writing message_output answer_is output_is
  answer_sending = go (sending_of h rows room t buf (length old)) refl
    where
      go : (o : Outcome) → sending_of h rows room t buf (length old) ≡ o → (answer_is o).verdict ≡ Accepted
          → o ≡ done (take (answer_is o).len (output_is old o))
      go (refused v) e q = absurd (sending_truly h rows room t buf (length old) (e ∙ ap refused q))
      go (done m) e q =
          let g = sending_given h rows room t buf (length old) m e in
          let s : length m ≤ length old = omega (arith, ap length g.message_is, message_size h g.payload, g.fits) in
          ap done (sym (ap (take (length m)) (part_front old m s) ∙ take_at m (drop (length m) old) (length m) refl))
