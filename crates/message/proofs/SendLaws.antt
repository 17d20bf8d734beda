-- A message's writing, from the payload's: its verdicts, its answer and its output; and the header's stores as one run of bytes.
-- Assumes nothing.
use mathlib.Core.Path.{◌≡◌, refl, sym, ap, ◌∙◌}
use Prim.Native.Nat.{ℕ, ◌+◌, ◌-◌, ◌≤◌, ◌<◌, min}
use mathlib.Core.Logic.{◌⊎◌, inl, inr}
use Rattle.std.proofs.Common.{Ok, Err}
use native.Mathlib.Omega.{arith}
use native.Mathlib.Nat.{zero-add}
use mathlib.Core.Bool.{Bool, true, false}
use mathlib.Core.List.{List, [], ◌∷◌, ◌++◌, append_assoc, append-nil}
use lib.ListN.{length, take, drop, length-append, length-drop, take-append-drop}
use lib.Seq.{sets, sets-eq, length-take-le, drop_at, drop-drop, drop-length, take_all}
use lib.Dec.{ltb}
use borrow.Author.Tests.{lt-ltb, le-ltb, ltb-true, ltb-false}
use Rattle.wire.specs.Choose.{pick}
use Rattle.wire.specs.Number.{big, number_bytes}
use Rattle.wire.specs.Header.{header_len}
use Rattle.wire.specs.declared.verdict.Verdict.{Verdict}
use Rattle.wire.specs.declared.verdict.Verdict.TheVariants.{Table as NoTable, Room}
use Rattle.payload.specs.declared.table.Table.{Table}
use Rattle.payload.specs.declared.row.Row.{Row}
use Rattle.payload.specs.Reading.{payload_most}
use Rattle.payload.specs.Writing.{Outcome, refused, done, outcome_of, output_is, result_is}
use Rattle.payload.specs.Promises.{within}
use Rattle.payload.proofs.Promises.{room_last}
use Rattle.message.specs.declared.header.Header.{Header}
use Rattle.message.specs.MessageType.{is_one}
use Rattle.message.specs.Header.{header_bytes}
use Rattle.message.specs.Writing.{message_bytes, framed, sending_of}

-- ---- the header's nine stores

pub header_stores : (h : Header) (n : ℕ) (l l1 l2 l3 l4 l5 l6 l7 l8 l9 : List ℕ)
    → l1 ≡ sets l 0 (number_bytes big 2 h.service.0)
    → l2 ≡ sets l1 2 (number_bytes big 2 h.method.0)
    → l3 ≡ sets l2 4 (number_bytes big 4 (8 + n))
    → l4 ≡ sets l3 8 (number_bytes big 2 h.client.0)
    → l5 ≡ sets l4 10 (number_bytes big 2 h.session.0)
    → l6 ≡ sets l5 12 (number_bytes big 1 1)
    → l7 ≡ sets l6 13 (number_bytes big 1 h.interface)
    → l8 ≡ sets l7 14 (number_bytes big 1 h.kind.0)
    → l9 ≡ sets l8 15 (number_bytes big 1 h.code)
    → l9 ≡ sets l 0 (header_bytes h n)
unfolding header_bytes number_bytes
header_stores h n l l1 l2 l3 l4 l5 l6 l7 l8 l9 e1 e2 e3 e4 e5 e6 e7 e8 e9 = e9 ∙ rw (e8, e7, e6, e5, e4, e3, e2, e1)

pub header_size : (h : Header) (n : ℕ) → length (header_bytes h n) ≡ header_len
unfolding header_bytes number_bytes
header_size h n = refl

pub message_size : (h : Header) (p : List ℕ) → length (message_bytes h p) ≡ header_len + length p
unfolding message_bytes
message_size h p = length-append (header_bytes h (length p)) p ∙ rw (header_size h (length p))

-- ---- the output, with the payload's part put back behind the header's place

-- the part from a place on, as the code lends it
whole_part : (from : ℕ) (old : List ℕ) → take (length old - from) (drop from old) ≡ drop from old
whole_part from old = take_all (length old - from) (drop from old) (omega (arith, length-drop from old))

pub front_room : (from : ℕ) (old x : List ℕ) → from ≡ header_len → header_len ≤ length old → header_len ≤ length (take from old ++ x)
front_room from old x e h = rw e (omega (arith, length-append (take header_len old) x, length-take-le header_len old h))

-- nothing stands behind it
none_behind : (from : ℕ) (old : List ℕ) → drop (length old - from) (drop from old) ≡ []
none_behind from old = ap (λ (n : ℕ). drop n (drop from old)) (sym (length-drop from old)) ∙ drop-length (drop from old)

part_back : (from : ℕ) (old : List ℕ) → take from old ++ (drop from old ++ drop (length old - from) (drop from old)) ≡ old
part_back from old = rw (none_behind from old, append-nil (drop from old)) (take-append-drop from old)

pub part_front : (l : List ℕ) (p : List ℕ) → length p ≤ length l → sets l 0 p ≡ p ++ drop (length p) l
part_front l p h = let k : 0 + length p ≤ length l = omega arith in rw zero-add at (sets-eq p l 0 k)

module _ (h : Header) (old p : List ℕ) (f : header_len + length p ≤ length old) where
  pub behind : List ℕ
  behind = sets (drop header_len old) 0 p ++ drop (length old - header_len) (drop header_len old)

  -- the payload, and then what was behind it
  behind_is : behind ≡ p ++ drop (header_len + length p) old
  unfolding behind
  behind_is =
      rw (none_behind header_len old, append-nil (sets (drop header_len old) 0 p))
      (part_front (drop header_len old) p (omega (arith, length-drop header_len old)) ∙ rw (drop-drop (length p) header_len old))

  -- the header stored before it
  pub framed_output : sets (take header_len old ++ behind) 0 (header_bytes h (length p)) ≡ sets old 0 (message_bytes h p)
  unfolding message_bytes
  framed_output =
      let s : length (take header_len old) ≡ header_len = length-take-le header_len old (omega arith) in
      part_front (take header_len old ++ behind) (header_bytes h (length p))
      (omega (arith, header_size h (length p), length-append (take header_len old) behind))
      ∙ rw (header_size h (length p), drop_at (take header_len old) behind header_len s, behind_is)
      (sym (part_front old (header_bytes h (length p) ++ p) (omega (arith, length-append (header_bytes h (length p)) p, header_size h (length p)))
      ∙ rw (length-append (header_bytes h (length p)) p, header_size h (length p), append_assoc)))

-- ---- what is sent, by what the payload's writing gives

-- what a writing gives is a refusal, or a length
pub err_outcome : (v : Verdict) (o : Outcome) → Err v ≡ result_is o → o ≡ refused v
err_outcome v (refused u) e = let z : u ≡ v = cc in rw z
err_outcome v (done p) e = absurd (cc)

pub record Payload (o : Outcome) (n : ℕ) : Type 0 where
  pub bytes : List ℕ
  pub is : o ≡ done bytes
  pub size : n ≡ length bytes

pub ok_outcome : (n : ℕ) (o : Outcome) → Ok n ≡ result_is o → Payload o n
ok_outcome n (refused u) e = absurd (cc)
ok_outcome n (done p) e = record { bytes = p; is = refl; size = cc }

within_refused : (space : ℕ) (v : Verdict) (o : Outcome) → within space o ≡ refused v
    → (o ≡ refused v) ⊎ ((p : List ℕ) × (o ≡ done p) × (v ≡ Room) × (space < length p))
within_refused space v (refused u) e = inl e
within_refused space v (done p) e = go (ltb space (length p)) refl e
  where
    go : (b : Bool) → ltb space (length p) ≡ b → pick b (refused Room) (done p) ≡ refused v
        → (done p ≡ refused v) ⊎ ((q : List ℕ) × (done p ≡ done q) × (v ≡ Room) × (space < length q))
    go true eb e = let z : v ≡ Room = cc in inr (p, refl, z, ltb-true space (length p) eb)
    go false eb e = inl e

within_done : (space : ℕ) (p : List ℕ) (o : Outcome) → within space o ≡ done p → (o ≡ done p) × (length p ≤ space)
within_done space p (refused u) e = absurd (cc)
within_done space p (done q) e = go (ltb space (length q)) refl e
  where
    go : (b : Bool) → ltb space (length q) ≡ b → pick b (refused Room) (done q) ≡ done p → (done q ≡ done p) × (length p ≤ space)
    go true eb e = absurd (cc)
    go false eb e = let z : q ≡ p = cc in (e, rw z at (ltb-false space (length q) eb))

no_bytes : (l : List ℕ) → length l ≡ 0 → l ≡ []
no_bytes [] e = refl
no_bytes (x ∷ xs) e = absurd (omega arith)

module _ (h : Header) (rows : List Row) (room : ℕ) (t : Table) (buf old : List ℕ) where
  abbrev sent : Outcome
  sent = sending_of h rows room t buf (length old)

  pub sent_kind : is_one h.kind.0 ≡ false → sent ≡ refused NoTable
  unfolding sending_of
  sent_kind k = rw k

  module _ (k : is_one h.kind.0 ≡ true) (from : ℕ) (fe : from ≡ min (length old) header_len) where
    -- the output's part that the payload's writing is handed, and what that gives
    abbrev lent : List ℕ
    lent = take (length old - from) (drop from old)

    abbrev inner : Outcome
    inner = outcome_of rows room t buf (length lent)

    sending_is : sent ≡ framed h (length old) (outcome_of rows room t buf payload_most)
    unfolding sending_of
    sending_is = rw k

    lent_length : length lent ≡ length old - from
    lent_length = rw (whole_part from old) (length-drop from old)

    inner_is : inner ≡ within (length old - from) (outcome_of rows room t buf payload_most)
    inner_is = rw lent_length (room_last rows room t buf (length old - from))

    pub sent_refused : (v : Verdict) → inner ≡ refused v → sent ≡ refused v
    unfolding framed
    sent_refused v e = sending_is ∙ go (within_refused (length old - from) v _ (sym inner_is ∙ e))
      where
        go : (outcome_of rows room t buf payload_most ≡ refused v)
            ⊎ ((p : List ℕ) × (outcome_of rows room t buf payload_most ≡ done p) × (v ≡ Room) × (length old - from < length p))
            → framed h (length old) (outcome_of rows room t buf payload_most) ≡ refused v
        go (inl a) = rw a
        go (inr (p, a, b, d)) = rw (a, b, lt-ltb (length old) (header_len + length p) (omega arith))

    -- an output that a refusal leaves, put back together
    pub left_refused : (part : List ℕ) (v : Verdict) → inner ≡ refused v → part ≡ output_is lent inner
        → take from old ++ (part ++ drop (length old - from) (drop from old)) ≡ output_is old sent
    unfolding output_is
    left_refused part v e pe = rw (pe, e, sent_refused v e, whole_part from old) (part_back from old)

    module _ (p : List ℕ) (e : inner ≡ done p) where
      given : (outcome_of rows room t buf payload_most ≡ done p) × (length p ≤ length old - from)
      given = within_done (length old - from) p _ (sym inner_is ∙ e)

      pub sent_few : length p ≤ payload_most
      sent_few = (within_done payload_most p (outcome_of rows room t buf payload_most) (sym (room_last rows room t buf payload_most) ∙ given.0)).1

      module _ (s : length old < header_len) where
        pub sent_short : sent ≡ refused Room
        unfolding framed
        sent_short = sending_is ∙ rw (given.0, lt-ltb (length old) (header_len + length p) (omega arith))

        pub left_short : (part : List ℕ) → part ≡ output_is lent inner
            → take from old ++ (part ++ drop (length old - from) (drop from old)) ≡ output_is old sent
        unfolding output_is
        left_short part pe =
            let d0 : drop from old ≡ [] = no_bytes (drop from old) (omega (arith, length-drop from old)) in
            let p0 : p ≡ [] = no_bytes p (omega (arith, given.1)) in
            rw (pe, e, p0, sent_short, whole_part from old, d0) (rw d0 at (part_back from old))

      module _ (s : header_len ≤ length old) where
        sent_room : header_len + length p ≤ length old
        sent_room = omega (arith, given.1)

        sent_done : sent ≡ done (message_bytes h p)
        unfolding framed
        sent_done = sending_is ∙ rw (given.0, le-ltb (length old) (header_len + length p) sent_room)

        pub done_result : (n : ℕ) → n ≡ length p → Ok (header_len + n) ≡ result_is sent
        done_result n en = rw (en, sent_done, message_size h p)

        pub left_done : (part : List ℕ) → part ≡ output_is lent inner → (n : ℕ) → n ≡ length p → (after : List ℕ)
            → after ≡ sets (take from old ++ (part ++ drop (length old - from) (drop from old))) 0 (header_bytes h n) → after ≡ output_is old sent
        unfolding output_is behind
        left_done part pe n en after ea =
            let f : from ≡ header_len = omega arith in
            rw (ea, pe, e, sent_done, whole_part from old, f, en) (framed_output h old p sent_room)
