-- What the writer gives is read back the same, whatever stands behind it, and is written again from what was read: by the payload's demand 2
-- and the header's fields, which are found as they were written.
-- Assumes nothing.
use mathlib.Core.Path.{◌≡◌, refl, sym, ap, ◌∙◌}
use Prim.Native.Nat.{ℕ, ◌+◌, ◌-◌, ◌≤◌}
use native.Mathlib.Omega.{arith}
use mathlib.Core.Bool.{true, false}
use mathlib.Core.List.{List, ◌++◌, append_assoc}
use lib.ListN.{length, take, drop, length-append}
use lib.Seq.{take_at, drop_at, take-length}
use borrow.Author.Tests.{le-ltb}
use Rattle.wire.specs.Header.{header_len, service_of, method_of, length_of, client_of, session_of, version_of, interface_of, type_of, code_of, end_of}
use Rattle.wire.specs.Part.{part, part_of}
use Rattle.wire.specs.declared.verdict.Verdict.TheVariants.{Accepted}
use Rattle.wire.proofs.PartLaws.{cut_slice, cut_part}
use Rattle.payload.specs.declared.table.Table.{Table}
use Rattle.payload.specs.declared.row.Row.{Row}
use Rattle.payload.specs.Table.{table_fits}
use Rattle.payload.specs.Reading.{payload_most, reading_of}
use Rattle.payload.specs.Writing.{done}
use Rattle.payload.specs.Demand2.{Demand2, Handed}
use Rattle.payload.proofs.Promises.{done_exactly, demand_2}
use Rattle.message.specs.declared.header.Header.{Header}
use Rattle.message.specs.MessageType.{is_one}
use Rattle.message.specs.Header.{header_bytes, Fitting}
use Rattle.message.specs.Reading.{payload_of, payload_shown, head_at, headed, length_fails, header_verdict, headed_of, message_of}
use Rattle.message.specs.Writing.{message_bytes, sending_of}
use Rattle.message.specs.Promises.{HeaderLaw}
use Rattle.message.specs.Demand2.{expected_of, body_of, MessageBack, MessageDemand2, MessageDemand2Holds, MessageDemand2Answered}
use Rattle.message.proofs.HeaderLaws.{verdict_none}
use Rattle.message.proofs.FieldLaws.{header_law}
use Rattle.message.proofs.SendLaws.{header_size, message_size}
use Rattle.message.proofs.Given.{Given, sending_given, given_sending, answer_sending}

-- ---- a message, with x behind it

module _ (h : Header) (f : Fitting h) (p : List ℕ) (few : length p ≤ payload_most) where
  unfoldable pub m : List ℕ
  m = message_bytes h p

  m_is : m ≡ message_bytes h p
  unfolding m
  m_is = refl

  pub fields : HeaderLaw h (length p)
  fields = header_law h (length p) f (omega arith)

  body_is : body_of m ≡ p
  unfolding m message_bytes
  body_is = drop_at (header_bytes h (length p)) p header_len (header_size h (length p))

  pub size_is : length m ≡ header_len + length p
  unfolding m
  size_is = message_size h p

  module _ (x : List ℕ) where
    unfoldable pub d : List ℕ
    d = m ++ x

    pub d_is : d ≡ header_bytes h (length p) ++ (p ++ x)
    unfolding d m message_bytes
    d_is = append_assoc (header_bytes h (length p)) p x

    pub length_is : length d ≡ header_len + length p + length x
    unfolding d
    length_is = length-append m x ∙ omega (arith, size_is)

    behind : drop header_len d ≡ p ++ x
    behind = rw (d_is, drop_at (header_bytes h (length p)) (p ++ x) header_len (header_size h (length p)))

    length_field : length_of d ≡ 8 + length p
    length_field = ap length_of d_is ∙ fields.length_back (p ++ x)

    pub end_is : end_of d ≡ header_len + length p
    end_is = omega (arith, length_field)

    cut : take (length p) (drop header_len d) ≡ p
    cut = rw (behind, take_at p x (length p) refl)

    payload_is : payload_of d ≡ p
    unfolding payload_of
    payload_is =
        let z : header_len + length p - header_len ≡ length p = omega arith in
        rw end_is (sym (cut_slice header_len (header_len + length p) d (omega arith)) ∙ rw (z, cut))

    fine : length_fails (length_of d) (length d) ≡ false
    unfolding length_fails
    fine =
        rw (length_field, le-ltb (8 + length p) 8 (omega arith), le-ltb (length d) (8 + (8 + length p)) (omega (arith, length_is)))

    verdict_is : header_verdict d (expected_of h) ≡ Accepted
    verdict_is =
        verdict_none d (expected_of h) (ap version_of d_is ∙ fields.version_back (p ++ x)) (ap service_of d_is ∙ fields.service_back (p ++ x))
        (ap interface_of d_is ∙ fields.interface_back (p ++ x)) (ap method_of d_is ∙ fields.method_back (p ++ x))
        (ap type_of d_is ∙ fields.type_back (p ++ x))

    module _ (t : Table) (one : is_one h.kind.0 ≡ true) (fits : table_fits t ≡ true) (room : ℕ) (enough : t.count ≤ room) where
      -- its reading is the payload's, behind its header
      pub read_is : message_of d (expected_of h) t room ≡ headed d (reading_of p t room)
      unfolding message_of headed_of
      read_is =
          rw (
            one,
            fits,
            le-ltb room t.count enough,
            le-ltb (length d) header_len (omega (arith, length_is)),
            fine,
            verdict_is,
            payload_is,
          )

    pub end_size : end_of d ≡ length m
    end_size = end_is ∙ sym size_is

    head_payload : payload_shown Accepted (end_of d) ≡ part header_len (length m - header_len)
    unfolding payload_shown
    head_payload = rw end_size

    pub head_rest : part (end_of d) (length d - end_of d) ≡ part (length m) (length x)
    head_rest =
        let z : length d - length m ≡ length x = omega (arith, length_is, size_is) in
        rw (end_size, z)

    shown_payload : part_of d (part header_len (length m - header_len)) ≡ body_of m
    shown_payload =
        let z : header_len + (length m - header_len) - header_len ≡ length p = omega (arith, size_is) in
        sym (cut_part d (part header_len (length m - header_len)) (omega (arith, size_is, length_is))) ∙ rw (z, cut, body_is)

    pub shown_rest : part_of d (part (length m) (length x)) ≡ x
    unfolding d
    shown_rest =
        let z : length m + length x - length m ≡ length x = omega arith in
        sym (cut_part (m ++ x) (part (length m) (length x)) (omega (arith, length-append m x)))
        ∙ rw (z, drop_at m x (length m) refl) (take-length x)

    module _ (rows : List Row) (t : Table) (buf : List ℕ) (b : Demand2 rows t buf p) (one : is_one h.kind.0 ≡ true) (fits : table_fits t ≡ true)
        (room : ℕ) (enough : t.count ≤ room) where
      verdict_back : (reading_of p t room).verdict ≡ Accepted
      verdict_back = (b.read_back room enough).verdict_is

      headed_back : MessageBack h rows t buf m x (headed d (reading_of p t room))
      unfolding head_at d
      headed_back = record {
        client_back = ap client_of d_is ∙ fields.client_back (p ++ x);
        session_back = ap session_of d_is ∙ fields.session_back (p ++ x);
        code_back = ap code_of d_is ∙ fields.code_back (p ++ x);
        payload_at = rw verdict_back head_payload;
        payload_is = rw (verdict_back, head_payload) shown_payload;
        rest_at = head_rest;
        rest_is = rw head_rest shown_rest;
        read_back = rw body_is (b.read_back room enough);
      }

      message_back : MessageBack h rows t buf m x (message_of d (expected_of h) t room)
      message_back = rw (read_is t one fits room enough) headed_back

      message_again : (space : ℕ) → length m ≤ space
          → sending_of h (message_of d (expected_of h) t room).reading.rows room t (body_of m) space ≡ done m
      message_again space s =
          rw (read_is t one fits room enough, body_is)
          (given_sending h (reading_of p t room).rows room t p space m
          (record {
            payload = p;
            kind_one = one;
            outcome = b.again room payload_most enough few;
            fits = omega (arith, size_is);
            message_is = m_is;
          }))

-- ---- every writing that is accepted

module _ (h : Header) (rows : List Row) (room : ℕ) (t : Table) (buf : List ℕ) (space : ℕ) (sent : List ℕ) (f : Fitting h) (a : Handed rows t buf)
    (g : Given h rows room t buf space sent) where
  p : List ℕ
  p = g.payload

  back : Demand2 rows t buf p
  unfolding p
  back = demand_2 rows room t buf payload_most g.payload a g.outcome

  fits : table_fits t ≡ true
  fits = ((done_exactly rows room t buf payload_most).done_meets g.payload g.outcome).0.table

  few : length p ≤ payload_most
  few = back.is_tree.size_fits

  holds : MessageDemand2 h rows t buf (message_bytes h p)
  unfolding d m
  holds = record {
    message_is = rw (body_is h f p few);
    is_tree = rw (body_is h f p few) back.is_tree;
    reads_back = λ x room2 enough. message_back h f p few x rows t buf back g.kind_one fits room2 enough;
    again = λ x room2 space2 enough s. message_again h f p few x rows t buf back g.kind_one fits room2 enough space2 s;
  }

  given_holds : MessageDemand2 h rows t buf sent
  unfolding p
  given_holds = rw g.message_is holds

pub message_demand_2 : MessageDemand2Holds
message_demand_2 h rows room t buf space sent f a e = given_holds h rows room t buf space sent f a (sending_given h rows room t buf space sent e)

-- by the writer's answer
pub message_demand_2_answered : MessageDemand2Answered
message_demand_2_answered h rows room t buf old f a v =
    message_demand_2 h rows room t buf (length old) _ f a (answer_sending h rows room t buf old v)
