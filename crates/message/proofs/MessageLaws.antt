-- The promises of a message's reading: each verdict exactly when, what is handed on, the parts, the rows, and what does not matter.
-- Assumes nothing.
use mathlib.Core.Path.{◌≡◌, refl, sym, ap, subst, ◌∙◌}
use Prim.Native.Nat.{ℕ, ◌+◌, ◌-◌, ◌≤◌, ◌<◌}
use native.Mathlib.Omega.{arith}
use mathlib.Core.Bool.{Bool, true, false}
use mathlib.Core.Logic.{inl, inr}
use mathlib.Core.List.{List, ◌++◌, append_assoc}
use lib.ListN.{length, take, drop, length-append, take-append-drop}
use lib.Seq.{slice, length-slice, take-append-le, take-length, take-take}
use lib.Dec.{leb, ltb, eqb}
use borrow.Author.Tests.{lt-ltb, le-ltb, ltb-true, ltb-false, ne_eqb, eqb-true, eqb-false, leb-true, le-leb, lt-leb}
use Rattle.wire.specs.Choose.{pick, and}
use Rattle.wire.specs.Verdict.{verdict_number}
use Rattle.wire.specs.Header.{header_len, protocol_version, field_at, service_of, method_of, length_of, version_of, interface_of, type_of, end_of}
use Rattle.wire.specs.Part.{part, part_of}
use Rattle.wire.proofs.ChooseLaws.{and_left, and_right, and_false}
use Rattle.wire.proofs.PartLaws.{part_inside}
use Rattle.wire.specs.declared.verdict.Verdict.{Verdict}
use Rattle.wire.specs.declared.verdict.Verdict.TheVariants.{
  Accepted,
  Table as NoTable,
  Room,
  Short,
  Length,
  Protocol,
  Service,
  Interface,
  Method,
  MessageType,
  Large,
  TagCut,
  Wire,
  Twice,
  FieldCut,
  Overrun,
  Array,
  Text,
  Missing,
  Value,
  Outside,
  Wide,
  Heavy,
}
use Rattle.payload.specs.declared.table.Table.{Table}
use Rattle.payload.specs.declared.read.Reading.{Reading}
use Rattle.payload.specs.Table.{in_range, table_fits}
use Rattle.payload.specs.Reading.{payload_most, untouched, cleared, reading_of}
use Rattle.payload.specs.Bounds.{ByWalk}
use Rattle.payload.specs.Outcome.{changes_none, Outcome, no_table, no_room, too_large, is_refused, is_accepted}
use Rattle.payload.proofs.Promises.{refusal_clears, rows_set, nothing_past, five_outcomes, few_rows, all_rows}
use Rattle.message.specs.declared.read.Expected.{Expected}
use Rattle.message.specs.declared.read.MessageReading.{MessageReading}
use Rattle.message.specs.MessageType.{is_one}
use Rattle.message.specs.Reading.{payload_of, payload_shown, head_at, unheaded, headed, length_fails, header_verdict, headed_of, message_of}
use Rattle.message.specs.Promises.{Asked, Whole, Matches, Exactly, GivenWhen, early, HandedOn, PartsLaw, RowsLaw, but_rest, TailIgnored, OneAnswer}
use Rattle.message.proofs.HeaderLaws.{
  true_false,
  length_fine,
  length_fails_by,
  length_by_fails,
  verdict_version,
  verdict_service,
  verdict_interface,
  verdict_method,
  verdict_type,
  verdict_none,
}

-- ---- the answer by its cases

module _ (d : List ℕ) (e : Expected) (t : Table) (room : ℕ) where
  answer_kind : is_one e.kind.0 ≡ false → message_of d e t room ≡ unheaded (untouched NoTable)
  unfolding message_of
  answer_kind k = rw k

  answer_table : table_fits t ≡ false → message_of d e t room ≡ unheaded (untouched NoTable)
  unfolding message_of
  answer_table f = rw (f, and_false (is_one e.kind.0))

  answer_room : is_one e.kind.0 ≡ true → table_fits t ≡ true → room < t.count → message_of d e t room ≡ unheaded (untouched Room)
  unfolding message_of
  answer_room k f h = rw (k, f, lt-ltb room t.count h)

  module _ (a : Asked e t room) where
    answer_short : length d < header_len → message_of d e t room ≡ unheaded (cleared t.count Short 0)
    unfolding message_of
    answer_short h = rw (a.kind_one, a.table_fits_lem, le-ltb room t.count a.room_fits, lt-ltb (length d) header_len h)

    answer_length : header_len ≤ length d → length_fails (length_of d) (length d) ≡ true
        → message_of d e t room ≡ unheaded (cleared t.count Length 0)
    unfolding message_of
    answer_length h l = rw (a.kind_one, a.table_fits_lem, le-ltb room t.count a.room_fits, le-ltb (length d) header_len h, l)

  -- a whole message: 1 and 2, then the header's
  answer_whole : Whole d
      → message_of d e t room
      ≡ pick (and (is_one e.kind.0) (table_fits t)) (pick (ltb room t.count) (unheaded (untouched Room)) (headed_of d e t room)) (unheaded (untouched NoTable))
  unfolding message_of length_fails
  answer_whole w =
      rw (
        le-ltb (length d) header_len w.header_in_lem,
        le-ltb (length_of d) 8 w.length_least,
        le-ltb (length d) (8 + length_of d) w.end_in,
      )

  module _ (a : Asked e t room) (w : Whole d) where
    answer_headed : message_of d e t room ≡ headed_of d e t room
    answer_headed = answer_whole w ∙ rw (a.kind_one, a.table_fits_lem, le-ltb room t.count a.room_fits)

    answer_refused : (v : Verdict) → header_verdict d e ≡ v → (verdict_number v ≡ 0 → ⊥) → message_of d e t room ≡ headed d (cleared t.count v 0)
    unfolding headed_of
    answer_refused v q n = answer_headed ∙ rw (q, ne_eqb (verdict_number v) 0 n)

    pub answer_read : Matches d e → message_of d e t room ≡ headed d (reading_of (payload_of d) t room)
    unfolding headed_of
    answer_read m =
        answer_headed ∙ rw (verdict_none d e m.version_is m.service_is m.interface_is m.method_is m.type_is)

-- The answers there are: none of the header, with a verdict before 12; or a whole message's, refused by its header or read.
data Result (d : List ℕ) (e : Expected) (t : Table) (room : ℕ) : MessageReading → Type 0 where
  bare : {v : Verdict} {filled : ℕ} → early v ≡ true → GivenWhen d e t room v → filled ≡ pick (changes_none v) 0 t.count → filled ≤ room → filled ≤ 64
      → Result d e t room (unheaded (cleared filled v 0))
  refused : {v : Verdict} → Asked e t room → Whole d → in_range 12 16 (verdict_number v) ≡ true → GivenWhen d e t room v
      → Result d e t room (headed d (cleared t.count v 0))
  read : Asked e t room → Whole d → Matches d e → Result d e t room (headed d (reading_of (payload_of d) t room))

module _ (d : List ℕ) (e : Expected) (t : Table) (room : ℕ) where
  abbrev Answer : Type 0
  Answer = Result d e t room (message_of d e t room)

  ask : {r : MessageReading} → message_of d e t room ≡ r → Result d e t room r → Answer
  ask q x = subst (Result d e t room) (sym q) x

  module _ (a : Asked e t room) where
    few : t.count ≤ 64
    few = few_rows t a.table_fits_lem

    result_headed : Whole d → Answer
    result_headed w = by_version (eqb (version_of d) protocol_version) refl
      where
        out : (v : Verdict) → header_verdict d e ≡ v → (verdict_number v ≡ 0 → ⊥) → in_range 12 16 (verdict_number v) ≡ true → GivenWhen d e t room v → Answer
        out v q n i g = ask (answer_refused d e t room a w v q n) (refused a w i g)

        by_type : version_of d ≡ protocol_version → service_of d ≡ e.service.0 → interface_of d ≡ e.interface → method_of d ≡ e.method.0
            → (b : Bool) → eqb (type_of d) e.kind.0 ≡ b → Answer
        by_type v s i m true q =
            let ms : Matches d e = record { version_is = v; service_is = s; interface_is = i; method_is = m; type_is = eqb-true (type_of d) e.kind.0 q } in
            ask (answer_read d e t room a w ms) (read a w ms)
        by_type v s i m false q =
            let n = eqb-false (type_of d) e.kind.0 q in
            out MessageType (verdict_type d e v s i m n) (λ z. omega arith) refl (a, w, v, s, i, m, n)

        by_method : version_of d ≡ protocol_version → service_of d ≡ e.service.0 → interface_of d ≡ e.interface
            → (b : Bool) → eqb (method_of d) e.method.0 ≡ b → Answer
        by_method v s i true q = by_type v s i (eqb-true (method_of d) e.method.0 q) (eqb (type_of d) e.kind.0) refl
        by_method v s i false q =
            let n = eqb-false (method_of d) e.method.0 q in
            out Method (verdict_method d e v s i n) (λ z. omega arith) refl (a, w, v, s, i, n)

        by_interface : version_of d ≡ protocol_version → service_of d ≡ e.service.0 → (b : Bool) → eqb (interface_of d) e.interface ≡ b → Answer
        by_interface v s true q = by_method v s (eqb-true (interface_of d) e.interface q) (eqb (method_of d) e.method.0) refl
        by_interface v s false q =
            let n = eqb-false (interface_of d) e.interface q in
            out Interface (verdict_interface d e v s n) (λ z. omega arith) refl (a, w, v, s, n)

        by_service : version_of d ≡ protocol_version → (b : Bool) → eqb (service_of d) e.service.0 ≡ b → Answer
        by_service v true q = by_interface v (eqb-true (service_of d) e.service.0 q) (eqb (interface_of d) e.interface) refl
        by_service v false q =
            let n = eqb-false (service_of d) e.service.0 q in
            out Service (verdict_service d e v n) (λ z. omega arith) refl (a, w, v, n)

        by_version : (b : Bool) → eqb (version_of d) protocol_version ≡ b → Answer
        by_version true q = by_service (eqb-true (version_of d) protocol_version q) (eqb (service_of d) e.service.0) refl
        by_version false q =
            let n = eqb-false (version_of d) protocol_version q in
            out Protocol (verdict_version d e n) (λ z. omega arith) refl (a, w, n)

    result_asked : (b c : Bool) → ltb (length d) header_len ≡ b → length_fails (length_of d) (length d) ≡ c → Answer
    result_asked true c eb ec =
        let h = ltb-true (length d) header_len eb in
        ask (answer_short d e t room a h) (bare refl (a, h) refl a.room_fits few)
    result_asked false true eb ec =
        let h = ltb-false (length d) header_len eb in
        ask (answer_length d e t room a h ec) (bare refl (a, h, length_fails_by (length_of d) (length d) ec) refl a.room_fits few)
    result_asked false false eb ec =
        let h = ltb-false (length d) header_len eb in
        let l = length_fine (length_of d) (length d) ec in
        result_headed (record { header_in_lem = h; length_least = l.0; end_in = l.1 })

  result : Answer
  result = go (is_one e.kind.0) (table_fits t) (ltb room t.count) refl refl refl
    where
      go : (k f b : Bool) → is_one e.kind.0 ≡ k → table_fits t ≡ f → ltb room t.count ≡ b → Answer
      go false f b ek ef eb = ask (answer_kind d e t room ek) (bare refl (inl ek) refl (omega arith) (omega arith))
      go true false b ek ef eb = ask (answer_table d e t room ef) (bare refl (inr ef) refl (omega arith) (omega arith))
      go true true true ek ef eb =
          let h = ltb-true room t.count eb in
          ask (answer_room d e t room ek ef h) (bare refl (ek, ef, h) refl (omega arith) (omega arith))
      go true true false ek ef eb =
          result_asked (record { kind_one = ek; table_fits_lem = ef; room_fits = ltb-false room t.count eb })
          (ltb (length d) header_len) (length_fails (length_of d) (length d)) refl refl

-- ---- each verdict exactly when

-- a payload has what the header's Length says
payload_length : (d : List ℕ) → Whole d → length (payload_of d) ≡ length_of d - 8
unfolding payload_of
payload_length d w = length-slice header_len (end_of d) d w.end_in ∙ omega arith

module _ (d : List ℕ) (e : Expected) (t : Table) (room : ℕ) where
  module _ (a : Asked e t room) (w : Whole d) (m : Matches d e) where
    -- a walk's verdict is the message's
    walk_given : (v : Verdict) → ByWalk v → (reading_of (payload_of d) t room).verdict ≡ v → GivenWhen d e t room v
    walk_given NoTable b q = absurd (true_false (sym b))
    walk_given Room b q = absurd (true_false (sym b))
    walk_given Short b q = absurd (true_false (sym b))
    walk_given Length b q = absurd (true_false (sym b))
    walk_given Protocol b q = absurd (true_false (sym b))
    walk_given Service b q = absurd (true_false (sym b))
    walk_given Interface b q = absurd (true_false (sym b))
    walk_given Method b q = absurd (true_false (sym b))
    walk_given MessageType b q = absurd (true_false (sym b))
    walk_given Large b q = absurd (true_false (sym b))
    walk_given Accepted b q = absurd (true_false (sym b))
    walk_given TagCut b q = (a, w, m, q)
    walk_given Wire b q = (a, w, m, q)
    walk_given Twice b q = (a, w, m, q)
    walk_given FieldCut b q = (a, w, m, q)
    walk_given Overrun b q = (a, w, m, q)
    walk_given Array b q = (a, w, m, q)
    walk_given Text b q = (a, w, m, q)
    walk_given Missing b q = (a, w, m, q)
    walk_given Value b q = absurd (true_false (sym b))
    walk_given Outside b q = absurd (true_false (sym b))
    walk_given Wide b q = absurd (true_false (sym b))
    walk_given Heavy b q = absurd (true_false (sym b))

    outcome_given : {r : Reading} → Outcome (payload_of d) t room r → reading_of (payload_of d) t room ≡ r → GivenWhen d e t room r.verdict
    outcome_given (no_table f) q = absurd (true_false (sym a.table_fits_lem ∙ f))
    outcome_given (no_room f h) q = absurd (omega (arith, a.room_fits))
    outcome_given (too_large f h l) q = (a, w, m, rw (payload_length d w) at l)
    outcome_given (is_refused {v = v} h x b p) q = walk_given v b (ap (λ (r : Reading). r.verdict) q)
    outcome_given (is_accepted h x s) q = (a, w, m, ap (λ (r : Reading). r.verdict) q)

    outcome_large : {r : Reading} → Outcome (payload_of d) t room r → payload_most < length_of d - 8 → r.verdict ≡ Large
    outcome_large (no_table f) l = absurd (true_false (sym a.table_fits_lem ∙ f))
    outcome_large (no_room f h) l = absurd (omega (arith, a.room_fits))
    outcome_large (too_large f h k) l = refl
    outcome_large (is_refused h x b p) l = absurd (omega (arith, payload_length d w, h.size_fits))
    outcome_large (is_accepted h x s) l = absurd (omega (arith, payload_length d w, h.size_fits))

  result_given : {r : MessageReading} → Result d e t room r → GivenWhen d e t room r.reading.verdict
  result_given (bare y g f h k) = g
  result_given (refused a w i g) = g
  result_given (read a w m) = outcome_given a w m (five_outcomes (payload_of d) t room) refl

  abbrev Gives : Verdict → Type 0
  Gives v = (message_of d e t room).reading.verdict ≡ v

  says : {r : MessageReading} → message_of d e t room ≡ r → Gives r.reading.verdict
  says q = ap (λ (r : MessageReading). r.reading.verdict) q

  out_of_header : (a : Asked e t room) (w : Whole d) (v : Verdict) → header_verdict d e ≡ v → (verdict_number v ≡ 0 → ⊥) → Gives v
  out_of_header a w v q n = says (answer_refused d e t room a w v q n)

  by_payload : {v : Verdict} → Asked e t room × Whole d × Matches d e × ((reading_of (payload_of d) t room).verdict ≡ v) → Gives v
  by_payload (a, w, m, q) = says (answer_read d e t room a w m) ∙ q

  when_gives : (v : Verdict) → GivenWhen d e t room v → Gives v
  when_gives NoTable (inl k) = says (answer_kind d e t room k)
  when_gives NoTable (inr f) = says (answer_table d e t room f)
  when_gives Room (k, f, h) = says (answer_room d e t room k f h)
  when_gives Short (a, h) = says (answer_short d e t room a h)
  when_gives Length (a, h, l) = says (answer_length d e t room a h (length_by_fails (length_of d) (length d) l))
  when_gives Protocol (a, w, n) = out_of_header a w Protocol (verdict_version d e n) (λ z. omega arith)
  when_gives Service (a, w, v, n) = out_of_header a w Service (verdict_service d e v n) (λ z. omega arith)
  when_gives Interface (a, w, v, s, n) = out_of_header a w Interface (verdict_interface d e v s n) (λ z. omega arith)
  when_gives Method (a, w, v, s, i, n) = out_of_header a w Method (verdict_method d e v s i n) (λ z. omega arith)
  when_gives MessageType (a, w, v, s, i, m, n) = out_of_header a w MessageType (verdict_type d e v s i m n) (λ z. omega arith)
  when_gives Large (a, w, m, l) = by_payload (a, w, m, outcome_large a w m (five_outcomes (payload_of d) t room) l)
  when_gives Accepted g = by_payload g
  when_gives TagCut g = by_payload g
  when_gives Wire g = by_payload g
  when_gives Twice g = by_payload g
  when_gives FieldCut g = by_payload g
  when_gives Overrun g = by_payload g
  when_gives Array g = by_payload g
  when_gives Text g = by_payload g
  when_gives Missing g = by_payload g
  when_gives Value g = absurd g
  when_gives Outside g = absurd g
  when_gives Wide g = absurd g
  when_gives Heavy g = absurd g

  -- Each verdict is given exactly when the table says so.
  pub verdict_law : (v : Verdict) → Exactly ((message_of d e t room).reading.verdict ≡ v) (GivenWhen d e t room v)
  verdict_law v = ((λ q. subst (GivenWhen d e t room) q (result_given (result d e t room))), when_gives v)

-- ---- what is handed on, and the parts

-- verdicts of 12 on are none of 1, 2, 10 and 11
late : (v : Verdict) → 12 ≤ verdict_number v → early v ≡ false
late v h = rw (lt-leb (verdict_number v) 11 (omega arith)) (and_false (leb 1 (verdict_number v)))

header_late : (v : Verdict) → in_range 12 16 (verdict_number v) ≡ true → early v ≡ false
header_late v i = late v (leb-true 12 (verdict_number v) (and_left (leb 12 (verdict_number v)) (leb (verdict_number v) 16) i))

walk_least : (v : Verdict) → ByWalk v → 20 ≤ verdict_number v
walk_least v b = leb-true 20 (verdict_number v) (and_left (leb 20 (verdict_number v)) (leb (verdict_number v) 27) b)

walk_late : (v : Verdict) → ByWalk v → early v ≡ false
walk_late v b = late v (omega (arith, walk_least v b))

-- a payload's own verdict is 0, 17 or a walk's: not before 12
outcome_late : (p : List ℕ) (t : Table) (room : ℕ) → table_fits t ≡ true → t.count ≤ room → {r : Reading} → Outcome p t room r → early r.verdict ≡ false
outcome_late p t room f h (no_table g) = absurd (true_false (sym f ∙ g))
outcome_late p t room f h (no_room g l) = absurd (omega arith)
outcome_late p t room f h (too_large g l k) = refl
outcome_late p t room f h (is_refused {v = v} x q b i) = walk_late v b
outcome_late p t room f h (is_accepted x q s) = refl

module _ (d : List ℕ) (e : Expected) (t : Table) (room : ℕ) where
  -- what a whole message's answer hands on
  handed_of : {r : MessageReading} → Result d e t room r → HandedOn d r
  unfolding head_at
  handed_of (bare {v = v} y g f h k) = record { client_on = rw y; session_on = rw y; code_on = rw y }
  handed_of (refused {v = v} a w i g) = let y = header_late v i in record { client_on = rw y; session_on = rw y; code_on = rw y }
  handed_of (read a w m) =
      let y = outcome_late (payload_of d) t room a.table_fits_lem a.room_fits (five_outcomes (payload_of d) t room) in
      record { client_on = rw y; session_on = rw y; code_on = rw y }

  -- Client ID, Session ID and Return Code are handed on as found, all 0 after 1, 2, 10 and 11.
  pub handed_on : HandedOn d (message_of d e t room)
  handed_on = handed_of (result d e t room)

-- a verdict that is none of 1 to 17 is none of 1 to 11, and none of 12 to 17
early_in : (v : Verdict) → early v ≡ true → in_range 1 17 (verdict_number v) ≡ false → ⊥
early_in v y none =
    let n = verdict_number v in
    let most = leb-true n 11 (and_right (leb 1 n) (leb n 11) y) in
    let in17 : in_range 1 17 n ≡ true = rw (and_left (leb 1 n) (leb n 11) y, le-leb n 17 (omega arith)) in
    true_false (sym in17 ∙ none)

none_between : (n : ℕ) → in_range 1 17 n ≡ false → in_range 12 17 n ≡ false
none_between n h = go (leb 12 n) (leb n 17) refl refl
  where
    go : (a b : Bool) → leb 12 n ≡ a → leb n 17 ≡ b → and a b ≡ false
    go false b ea eb = refl
    go true false ea eb = refl
    go true true ea eb = absurd (true_false (sym (rw (le-leb 1 n (omega (arith, leb-true 12 n ea)), eb)) ∙ h))

module _ (d : List ℕ) (w : Whole d) where
  rest_is : part_of d (part (end_of d) (length d - end_of d)) ≡ drop (end_of d) d
  rest_is =
      let s : end_of d + (length d - end_of d) ≡ length d = omega (arith, w.end_in) in
      part_inside d (part (end_of d) (length d - end_of d)) (omega (arith, w.end_in)) ∙ rw (s, take-length d)

  payload_is : part_of d (part header_len (end_of d - header_len)) ≡ payload_of d
  unfolding payload_of
  payload_is =
      let s : header_len + (end_of d - header_len) ≡ end_of d = omega (arith, w.length_least) in
      part_inside d (part header_len (end_of d - header_len)) (omega (arith, w.length_least, w.end_in)) ∙ rw s

  all_is : d ≡ take header_len d ++ (payload_of d ++ drop (end_of d) d)
  unfolding payload_of
  all_is =
      sym (take-append-drop (end_of d) d)
      ∙ ap (λ (l : List ℕ). l ++ drop (end_of d) d) (sym (take-append-drop header_len (take (end_of d) d)))
      ∙ (rw (take-take header_len (end_of d) d (omega (arith, w.length_least)), append_assoc (take header_len d) (slice header_len (end_of d) d) (drop (end_of d) d)))

  headed_parts : (r : Reading) → early r.verdict ≡ false → PartsLaw d (headed d r)
  unfolding head_at payload_shown
  headed_parts r y =
      record {
        none_given = λ n. absurd (true_false (sym n ∙ y));
        rest_given = λ n. rest_is;
        payload_none = λ i. rw i;
        both_given = λ n.
            let i = none_between (verdict_number r.verdict) n in
            let s : end_of d - header_len ≡ length_of d - 8 = omega arith in
            (rw (i, s), rw i payload_is);
        whole_datagram = λ n. rw (none_between (verdict_number r.verdict) n, payload_is, rest_is) all_is;
      }

module _ (d : List ℕ) (e : Expected) (t : Table) (room : ℕ) where
  parts_of_lem : {r : MessageReading} → Result d e t room r → PartsLaw d r
  parts_of_lem (bare {v = v} y g f h k) =
      record {
        none_given = λ n. (refl, refl);
        rest_given = λ n. absurd (true_false (sym y ∙ n));
        payload_none = λ i. refl;
        both_given = λ n. absurd (early_in v y n);
        whole_datagram = λ n. absurd (early_in v y n);
      }
  parts_of_lem (refused {v = v} a w i g) = headed_parts d w (cleared t.count v 0) (header_late v i)
  parts_of_lem (read a w m) =
      headed_parts d w (reading_of (payload_of d) t room)
      (outcome_late (payload_of d) t room a.table_fits_lem a.room_fits (five_outcomes (payload_of d) t room))

  -- The parts that each verdict gives; after 0 and 20 to 27 the datagram is header, payload and the part after the message.
  pub parts_law : PartsLaw d (message_of d e t room)
  parts_law = parts_of_lem (result d e t room)

-- ---- the rows and the place

-- verdicts of 12 on set rows
some_set : (v : Verdict) → 12 ≤ verdict_number v → changes_none v ≡ false
some_set v h = rw (ne_eqb (verdict_number v) 1 (λ z. omega arith), ne_eqb (verdict_number v) 2 (λ z. omega arith))

-- none or as many as the table has are no more than what the table's are within
at_most : (c : Bool) (filled count most : ℕ) → filled ≡ pick c 0 count → count ≤ most → filled ≤ most
at_most true filled count most e h = omega arith
at_most false filled count most e h = omega arith

module _ (d : List ℕ) (e : Expected) (t : Table) (room : ℕ) where
  rows_of : {r : MessageReading} → Result d e t room r → RowsLaw t room r
  rows_of (bare y g f h k) =
      record {
        set_rows = f;
        refused_rows = λ x. (refl, refl);
        placed = λ x. refl;
        all_rows = refl;
        within_room = h;
        within_rows = k;
      }
  rows_of (refused {v = v} a w i g) =
      record {
        set_rows = rw (some_set v (leb-true 12 (verdict_number v) (and_left (leb 12 (verdict_number v)) (leb (verdict_number v) 16) i)));
        refused_rows = λ x. (refl, refl);
        placed = λ x. refl;
        all_rows = refl;
        within_room = a.room_fits;
        within_rows = few_rows t a.table_fits_lem;
      }
  rows_of (read a w m) =
      let p = payload_of d in
      let set = rows_set p t room in
      record {
        set_rows = set;
        refused_rows = refusal_clears p t room;
        placed = λ x. (nothing_past p t room).only_walk (λ b. true_false (sym b ∙ x));
        all_rows = all_rows p t room;
        within_room = at_most (changes_none (reading_of p t room).verdict) _ _ _ set a.room_fits;
        within_rows = at_most (changes_none (reading_of p t room).verdict) _ _ _ set (few_rows t a.table_fits_lem);
      }

  -- The rows, how many are set, the count and the place.
  pub rows_law : RowsLaw t room (message_of d e t room)
  rows_law = rows_of (result d e t room)

-- ---- bytes behind the message

module _ (m x : List ℕ) (long : header_len ≤ length m) (ends : length m ≡ end_of m) where
  field_front : (at w : ℕ) → at + w ≤ header_len → field_at at w (m ++ x) ≡ field_at at w m
  unfolding field_at
  field_front at w k = rw (take-append-le (at + w) m x (omega arith))

  front_whole : Whole (m ++ x)
  front_whole =
      record {
        header_in_lem = rw (length-append m x) (omega arith);
        length_least = rw (field_front 4 4 (omega arith)) (omega (arith, ends));
        end_in = rw (field_front 4 4 (omega arith), length-append m x) (omega (arith, ends));
      }

  payload_front : payload_of (m ++ x) ≡ payload_of m
  unfolding payload_of
  payload_front = rw (field_front 4 4 (omega arith), take-append-le (end_of m) m x (omega (arith, ends)))

  verdict_front : (e : Expected) → header_verdict (m ++ x) e ≡ header_verdict m e
  unfolding header_verdict
  verdict_front e =
      rw (
        field_front 12 1 (omega arith),
        field_front 0 2 (omega arith),
        field_front 13 1 (omega arith),
        field_front 2 2 (omega arith),
        field_front 14 1 (omega arith),
      )

  headed_front : (r : Reading) → but_rest (headed (m ++ x) r) ≡ but_rest (headed m r)
  unfolding head_at
  headed_front r =
      rw (field_front 8 2 (omega arith), field_front 10 2 (omega arith), field_front 15 1 (omega arith), field_front 4 4 (omega arith))

  reading_front : (e : Expected) (t : Table) (room : ℕ) → but_rest (headed_of (m ++ x) e t room) ≡ but_rest (headed_of m e t room)
  unfolding headed_of
  reading_front e t room = rw (verdict_front e, payload_front) (headed_front _)

  message_front : (e : Expected) (t : Table) (room : ℕ)
      → but_rest (message_of (m ++ x) e t room)
      ≡ pick (and (is_one e.kind.0) (table_fits t))
      (pick (ltb room t.count) (but_rest (unheaded (untouched Room))) (but_rest (headed_of m e t room)))
      (but_rest (unheaded (untouched NoTable)))
  message_front e t room =
      ap but_rest (answer_whole (m ++ x) e t room front_whole) ∙ go (and (is_one e.kind.0) (table_fits t)) (ltb room t.count)
    where
      go : (a b : Bool)
          → but_rest (pick a (pick b (unheaded (untouched Room)) (headed_of (m ++ x) e t room)) (unheaded (untouched NoTable)))
          ≡ pick a (pick b (but_rest (unheaded (untouched Room))) (but_rest (headed_of m e t room))) (but_rest (unheaded (untouched NoTable)))
      go false b = refl
      go true true = refl
      go true false = reading_front e t room

-- Bytes behind a message change nothing but the length of the part after it.
pub tail_law : TailIgnored
tail_law m long ends x y e t room = message_front m x long ends e t room ∙ sym (message_front m y long ends e t room)

-- Any two answers that meet the reader's contract are equal.
pub one_answer : OneAnswer
one_answer d e t room r s p q = p ∙ sym q
