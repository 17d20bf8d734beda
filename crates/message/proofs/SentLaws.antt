-- What a writing of a message answers and leaves: accepted exactly when every test is met, and then the output begins with the header, each
-- field at its place, and the payload; a refused one changes nothing; the bytes beyond stay.
-- Assumes nothing.
use mathlib.Core.Path.{◌≡◌, refl, sym, ap, ◌∙◌}
use Prim.Native.Nat.{ℕ, ◌+◌, ◌/◌, ◌%◌, ◌^◌, ◌≤◌, ◌<◌}
use native.Mathlib.Omega.{arith}
use mathlib.Core.List.{List, ◌++◌, append_assoc}
use lib.ListN.{length, drop, get_or, get_or-append}
use lib.Seq.{length-sets, drop-append_seam, get_or-append-add}
use Rattle.wire.specs.Number.{number_bytes}
use Rattle.wire.specs.Header.{header_len}
use Rattle.wire.specs.declared.verdict.Verdict.TheVariants.{Accepted}
use Rattle.payload.specs.declared.table.Table.{Table}
use Rattle.payload.specs.declared.row.Row.{Row}
use Rattle.payload.specs.Reading.{payload_most}
use Rattle.payload.specs.Writing.{Outcome, refused, done, answer_is, output_is}
use Rattle.payload.specs.Settled.{payload_of}
use Rattle.payload.proofs.Promises.{done_exactly}
use Rattle.message.specs.declared.header.Header.{Header}
use Rattle.message.specs.Header.{header_bytes, Fitting}
use Rattle.message.specs.Writing.{message_bytes, sending_of, message_writing, message_output}
use Rattle.message.specs.Sent.{HeaderPlaces, Sends, SentSettled, OneSending}
use Rattle.message.proofs.SendLaws.{header_size, message_size, part_front}
use Rattle.message.proofs.Given.{sending_given, given_sending, sending_truly}

-- ---- the header's bytes by number

high_byte : (v : ℕ) → v < 256 ^ 2 → v / 256 ^ 1 % 256 ≡ v / 256
high_byte v h = omega arith

low_byte : (v : ℕ) → v / 256 ^ 0 % 256 ≡ v % 256
low_byte v = omega arith

one_byte : (v : ℕ) → v < 256 → v / 256 ^ 0 % 256 ≡ v
one_byte v h = omega arith

top_byte : (v : ℕ) → v < 16777216 → v / 256 ^ 3 % 256 ≡ v / 16777216
top_byte v h = omega arith

pub header_places : (h : Header) (n : ℕ) (x : List ℕ) → Fitting h → n ≤ payload_most → HeaderPlaces h n (header_bytes h n ++ x)
unfolding header_bytes number_bytes
header_places h n x f few = record {
  byte_0 = high_byte h.service.0 f.service_in;
  byte_1 = low_byte h.service.0;
  byte_2 = high_byte h.method.0 f.method_in;
  byte_3 = low_byte h.method.0;
  byte_4 = top_byte (8 + n) (omega arith);
  byte_5 = refl;
  byte_6 = refl;
  byte_7 = low_byte (8 + n);
  byte_8 = high_byte h.client.0 f.client_in;
  byte_9 = low_byte h.client.0;
  byte_10 = high_byte h.session.0 f.session_in_lem;
  byte_11 = low_byte h.session.0;
  byte_12 = refl;
  byte_13 = one_byte h.interface f.interface_in;
  byte_14 = one_byte h.kind.0 f.kind_in_lem;
  byte_15 = one_byte h.code f.code_in;
}

-- ---- answer and output

module _ (h : Header) (rows : List Row) (room : ℕ) (t : Table) (buf : List ℕ) where
  -- a message that is given is that of the rows, and every test is met
  given_sends : (space : ℕ) (m : List ℕ) → sending_of h rows room t buf space ≡ done m
      → Sends h rows room t buf space × (m ≡ message_bytes h (payload_of t buf rows))
  given_sends space m e =
      let g = sending_given h rows room t buf space m e in
      let d = (done_exactly rows room t buf payload_most).done_meets g.payload g.outcome in (
        record { kind_one = g.kind_one; accepts = d.0; fits = rw (← d.1) g.fits },
        g.message_is ∙ ap (message_bytes h) d.1,
      )

  sends_given : (space : ℕ) → Sends h rows room t buf space → sending_of h rows room t buf space ≡ done (message_bytes h (payload_of t buf rows))
  sends_given space s =
      given_sending h rows room t buf space (message_bytes h (payload_of t buf rows))
      (record {
        payload = payload_of t buf rows;
        kind_one = s.kind_one;
        outcome = (done_exactly rows room t buf payload_most).meets_done s.accepts;
        fits = s.fits;
        message_is = refl;
      })

  -- a message fits the output, and has no more bytes than the header and any payload
  given_size : (space : ℕ) (m : List ℕ) → sending_of h rows room t buf space ≡ done m → (length m ≤ header_len + payload_most) × (length m ≤ space)
  given_size space m e =
      let g = given_sends space m e in
      let z = ap length g.1 ∙ message_size h (payload_of t buf rows) in
      (omega (arith, z, g.0.accepts.light), omega (arith, z, g.0.fits))

  meets : (space : ℕ) → (message_writing h rows room t buf space).verdict ≡ Accepted → Sends h rows room t buf space
  unfolding message_writing answer_is
  meets space = go (sending_of h rows room t buf space) refl
    where
      go : (o : Outcome) → sending_of h rows room t buf space ≡ o → (answer_is o).verdict ≡ Accepted → Sends h rows room t buf space
      go (refused v) e q = absurd (sending_truly h rows room t buf space (e ∙ ap refused q))
      go (done m) e q = (given_sends space m e).0

  answered : (space : ℕ) → Sends h rows room t buf space
      → message_writing h rows room t buf space ≡ record { verdict = Accepted; len = header_len + length (payload_of t buf rows) }
  unfolding message_writing answer_is
  answered space s = rw (sends_given space s, message_size h (payload_of t buf rows))

  module _ (old : List ℕ) where
    output : Sends h rows room t buf (length old)
        → message_output h rows room t buf old ≡ message_bytes h (payload_of t buf rows) ++ drop (header_len + length (payload_of t buf rows)) old
    unfolding message_output output_is
    output s =
        rw (sends_given (length old) s)
        (part_front old (message_bytes h (payload_of t buf rows)) (omega (arith, message_size h (payload_of t buf rows), s.fits))
        ∙ rw (message_size h (payload_of t buf rows)))

    -- header, payload, and then the old bytes
    output_parts : Sends h rows room t buf (length old) → message_output h rows room t buf old
        ≡ header_bytes h (length (payload_of t buf rows)) ++ (payload_of t buf rows ++ drop (header_len + length (payload_of t buf rows)) old)
    unfolding message_bytes
    output_parts s = output s ∙ append_assoc (header_bytes h (length (payload_of t buf rows))) (payload_of t buf rows) (drop (header_len + length (payload_of t buf rows)) old)

    places : Fitting h → Sends h rows room t buf (length old) → HeaderPlaces h (length (payload_of t buf rows)) (message_output h rows room t buf old)
    places f s =
        rw (output_parts s)
        (header_places h (length (payload_of t buf rows)) (payload_of t buf rows ++ drop (header_len + length (payload_of t buf rows)) old) f s.accepts.light)

    payload_bytes : Sends h rows room t buf (length old) → (i : ℕ) → i < length (payload_of t buf rows)
        → get_or (message_output h rows room t buf old) (header_len + i) 0 ≡ get_or (payload_of t buf rows) i 0
    payload_bytes s i l =
        let hb = header_bytes h (length (payload_of t buf rows)) in
        let rest = drop (header_len + length (payload_of t buf rows)) old in
        let z : header_len + i ≡ length hb + i = omega (arith, header_size h (length (payload_of t buf rows))) in
        rw (output_parts s, z)
        (get_or-append-add hb (payload_of t buf rows ++ rest) i 0 ∙ get_or-append (payload_of t buf rows) rest 0 i l)

    kept : ((message_writing h rows room t buf (length old)).verdict ≡ Accepted → ⊥)
        → (message_output h rows room t buf old ≡ old) × ((message_writing h rows room t buf (length old)).len ≡ 0)
    unfolding message_writing message_output answer_is output_is
    kept = go (sending_of h rows room t buf (length old))
      where
        go : (o : Outcome) → ((answer_is o).verdict ≡ Accepted → ⊥) → (output_is old o ≡ old) × ((answer_is o).len ≡ 0)
        go (refused v) n = (refl, refl)
        go (done m) n = absurd (n refl)

    sizes : ((message_writing h rows room t buf (length old)).len ≤ header_len + payload_most) × ((message_writing h rows room t buf (length old)).len ≤ length old)
    unfolding message_writing answer_is
    sizes = go (sending_of h rows room t buf (length old)) refl
      where
        go : (o : Outcome) → sending_of h rows room t buf (length old) ≡ o → ((answer_is o).len ≤ header_len + payload_most) × ((answer_is o).len ≤ length old)
        go (refused v) e = (omega arith, omega arith)
        go (done m) e = given_size (length old) m e

    same_length : length (message_output h rows room t buf old) ≡ length old
    unfolding message_output output_is
    same_length = go (sending_of h rows room t buf (length old))
      where
        go : (o : Outcome) → length (output_is old o) ≡ length old
        go (refused v) = refl
        go (done m) = length-sets old 0 m

    beyond : drop (message_writing h rows room t buf (length old)).len (message_output h rows room t buf old) ≡ drop (message_writing h rows room t buf (length old)).len old
    unfolding message_writing message_output answer_is output_is
    beyond = go (sending_of h rows room t buf (length old)) refl
      where
        go : (o : Outcome) → sending_of h rows room t buf (length old) ≡ o → drop (answer_is o).len (output_is old o) ≡ drop (answer_is o).len old
        go (refused v) e = refl
        go (done m) e = rw (part_front old m (given_size (length old) m e).1) (drop-append_seam m (drop (length m) old))

-- every test met gives verdict 0
pub sent_accepts : (h : Header) (rows : List Row) (room : ℕ) (t : Table) (buf : List ℕ) (space : ℕ) → Sends h rows room t buf space
    → (message_writing h rows room t buf space).verdict ≡ Accepted
sent_accepts h rows room t buf space s = rw (answered h rows room t buf space s)

pub sent_settled : SentSettled
sent_settled h rows room t buf old = record {
  meets = meets h rows room t buf (length old);
  answered = answered h rows room t buf (length old);
  output = output h rows room t buf old;
  places = places h rows room t buf old;
  payload_bytes = payload_bytes h rows room t buf old;
  kept = kept h rows room t buf old;
  most = (sizes h rows room t buf old).0;
  fitting = (sizes h rows room t buf old).1;
  same_length = same_length h rows room t buf old;
  beyond = beyond h rows room t buf old;
}

pub one_sending : OneSending
one_sending h rows room t buf old r s o p (a, b) (c, d) = (a ∙ sym c, b ∙ sym d)
