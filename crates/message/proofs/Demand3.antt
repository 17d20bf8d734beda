-- Demand 3 of a message: the payload's, behind a header that is found as it was written, whatever follows.
-- Assumes nothing.
use mathlib.Core.Path.{◌≡◌, refl, ap, ◌∙◌}
use mathlib.Core.Logic.{◌⊎◌, ⊎_elim}
use Prim.Native.Nat.{ℕ, ◌-◌, ◌≤◌}
use native.Mathlib.Omega.{arith}
use mathlib.Core.List.{List, ◌++◌}
use lib.ListN.{length}
use Rattle.wire.specs.Header.{header_len, client_of, session_of, code_of, end_of}
use Rattle.wire.specs.Part.{part, part_of}
use Rattle.wire.specs.declared.verdict.Verdict.{Verdict}
use Rattle.wire.specs.declared.verdict.Verdict.TheVariants.{Accepted, Missing}
use Rattle.payload.specs.declared.table.Table.{Table}
use Rattle.payload.specs.declared.row.Row.{Row}
use Rattle.payload.specs.Reading.{payload_most, reading_of}
use Rattle.payload.specs.Tree.{Members, bytes_of}
use Rattle.payload.specs.Demand3.{Sent, Arrives}
use Rattle.payload.proofs.Promises as payload
use Rattle.message.specs.declared.header.Header.{Header}
use Rattle.message.specs.Reading.{payload_shown, head_at, headed, message_of}
use Rattle.message.specs.Demand2.{expected_of}
use Rattle.message.specs.Demand3.{MessageSent, message_of_members, MessageArrives, MessageDemand3Holds, AbsentArrives}
use Rattle.message.proofs.Given.{Given, sending_given}
use Rattle.message.proofs.Demand2 as framed

-- after Accepted and after Missing the payload part is given
shown_for : (v : Verdict) (end : ℕ) → (v ≡ Accepted) ⊎ (v ≡ Missing) → payload_shown v end ≡ part header_len (end - header_len)
unfolding payload_shown
shown_for v end = ⊎_elim (λ e. rw e) (λ e. rw e)

module _ (h : Header) (t u : Table) (rows : List Row) (buf : List ℕ) (m : Members) (x : List ℕ) (room : ℕ) (s : MessageSent h t u rows buf m)
    (enough : u.count ≤ room) where
  given : Given h rows s.room t buf s.space s.message
  given = sending_given h rows s.room t buf s.space s.message s.makes

  -- the payload was sent
  sent : Sent t u rows buf m
  sent = record {
    room = s.room;
    space = payload_most;
    payload = given.payload;
    handed = s.handed;
    makes = given.outcome;
    two_tables = s.two_tables;
    reordered = s.reordered;
  }

  abbrev p : List ℕ
  p = bytes_of t.width m

  arrived : Arrives t u rows buf p m (reading_of p u room)
  arrived = payload.demand_3 t u rows buf m room sent enough

  few : length p ≤ payload_most
  few =
      let w = (payload.demand_2 rows s.room t buf payload_most given.payload s.handed given.outcome).is_tree in
      omega (arith, arrived.size_is, ap length w.bytes_are, w.size_fits)

  abbrev d : List ℕ
  d = message_of_members h t.width m ++ x

  pub read_is : message_of d (expected_of h) u room ≡ headed d (reading_of p u room)
  unfolding framed.d framed.m
  read_is = framed.read_is h s.fitting p few x u given.kind_one s.two_tables.reader_fits room enough

  d_is : d ≡ framed.d h s.fitting p few x
  unfolding framed.d framed.m
  d_is = refl

  end_there : end_of d - header_len ≡ length p
  unfolding framed.d framed.m
  end_there = omega (arith, framed.end_is h s.fitting p few x)

  headed_arrives : MessageArrives h t u rows buf m x (headed d (reading_of p u room))
  unfolding head_at framed.d framed.m
  headed_arrives = record {
    client_back = ap client_of (framed.d_is h s.fitting p few x) ∙ (framed.fields h s.fitting p few).client_back (p ++ x);
    session_back = ap session_of (framed.d_is h s.fitting p few x) ∙ (framed.fields h s.fitting p few).session_back (p ++ x);
    code_back = ap code_of (framed.d_is h s.fitting p few x) ∙ (framed.fields h s.fitting p few).code_back (p ++ x);
    payload_at = shown_for (reading_of p u room).verdict (end_of d) arrived.verdict_is ∙ ap (part header_len) end_there;
    rest_is = ap (part_of d) (framed.head_rest h s.fitting p few x) ∙ framed.shown_rest h s.fitting p few x;
    arrives = arrived;
  }

  message_arrives : MessageArrives h t u rows buf m x (message_of d (expected_of h) u room)
  message_arrives = rw read_is headed_arrives

pub message_demand_3 : MessageDemand3Holds
message_demand_3 = message_arrives

pub absent_arrives : AbsentArrives
absent_arrives h t u rows buf m x room s enough path j e a =
    rw (read_is h t u rows buf m x room s enough) (payload.absent_arrives t u rows buf m room (sent h t u rows buf m x room s enough) enough path j e a)
