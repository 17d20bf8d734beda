-- The answer to a message, from the tests in their order.
-- Assumes nothing.
use Rattle.std.specs.Prelude.{Ok, Err}
use mathlib.Core.Path.{◌≡◌, refl, sym, ap, ◌∙◌}
use Prim.Native.Nat.{ℕ, ◌+◌, ◌-◌, ◌≤◌, ◌<◌}
use native.Mathlib.Omega.{arith}
use mathlib.Core.Bool.{Bool, true, false}
use mathlib.Core.List.{List}
use lib.ListN.{length, take, drop}
use lib.Seq.{slice}
use lib.Dec.{ltb, eqb}
use borrow.Author.Tests.{lt-ltb, le-ltb, ne_eqb, eqb-true, eqb-false}
use Rattle.wire.specs.Choose.{pick}
use Rattle.wire.specs.Verdict.{verdict_number}
use Rattle.wire.proofs.PartLaws.{cut_slice}
use Rattle.wire.specs.Header.{header_len, length_of, end_of}
use Rattle.wire.specs.declared.verdict.Verdict.{Verdict}
use Rattle.wire.specs.declared.verdict.Verdict.TheVariants.{Table as NoTable, Room, Short, Length}
use Rattle.payload.specs.declared.table.Table.{Table}
use Rattle.payload.specs.declared.table.CheckedTable.{CheckedTable}
use Rattle.payload.specs.Table.{table_fits}
use Rattle.payload.specs.declared.read.Reading.{Reading}
use Rattle.payload.specs.Cells.{table_in, Checked}
use Rattle.payload.specs.Reading.{cleared, checked_of}
use Rattle.payload.proofs.Promises.{checked_reads}
use Rattle.message.specs.declared.read.Expected.{Expected}
use Rattle.message.specs.declared.read.Head.{Head}
use Rattle.message.specs.MessageType.{is_one}
use Rattle.message.specs.Reading.{payload_of, head_at, unheaded, length_fails, header_verdict, headed_of, message_of}
use Rattle.message.specs.Opening.{header_is, end_in, headed_in}

-- ---- where a message ends

module _ (d : List ℕ) where
  pub end_short : length d < header_len → Err Short ≡ end_in d
  end_short h = rw (lt-ltb (length d) header_len h)

  module _ (s : header_len ≤ length d) (len : ℕ) (le : len ≡ length_of d) (bad : Bool) (be : bad ≡ length_fails len (length d)) where
    fails_is : length_fails (length_of d) (length d) ≡ bad
    fails_is = ap (λ (n : ℕ). length_fails n (length d)) (sym le) ∙ sym be

    pub end_length : bad ≡ true → Err Length ≡ end_in d
    end_length b = rw (le-ltb (length d) header_len s, fails_is ∙ b)

    pub end_fits : bad ≡ false → Ok (len + 8) ≡ end_in d
    end_fits b = let z : len + 8 ≡ end_of d = rw le (omega arith) in rw (le-ltb (length d) header_len s, fails_is ∙ b, z)

-- ---- the tests before the header's

module _ (d : List ℕ) (e : Expected) (t : Table) (room : ℕ) where
  pub no_kind : is_one e.kind.0 ≡ false → unheaded (cleared 0 NoTable 0) ≡ message_of d e t room
  unfolding message_of
  no_kind k = rw k

  module _ (k : is_one e.kind.0 ≡ true) where
    pub no_table : table_fits t ≡ false → unheaded (cleared 0 NoTable 0) ≡ message_of d e t room
    unfolding message_of
    no_table f = rw (k, f)

    module _ (c : CheckedTable) (m : (c.count ≡ t.count) × (c.width ≡ t.width) × Checked t c.cells true) where
      pub no_room : room < c.count → unheaded (cleared 0 Room 0) ≡ message_of d e t room
      unfolding message_of
      no_room h = rw (k, sym m.2.answer, lt-ltb room t.count (omega (arith, m.0)))

      module _ (h : c.count ≤ room) where
        enough : t.count ≤ room
        enough = omega (arith, m.0)

        pub no_end : (why : Verdict) → end_in d ≡ Err why → unheaded (cleared c.count why 0) ≡ message_of d e t room
        unfolding message_of
        no_end why x = rw (k, sym m.2.answer, le-ltb room t.count enough, m.0) (go (ltb (length d) header_len) (length_fails (length_of d) (length d)) x)
          where
            go : (a b : Bool) → pick a (Err Short) (pick b (Err Length) (Ok (end_of d))) ≡ Err why
                → unheaded (cleared t.count why 0)
                ≡ pick a (unheaded (cleared t.count Short 0)) (pick b (unheaded (cleared t.count Length 0)) (headed_of d e t room))
            go true b z = let q : Short ≡ why = cc in rw q
            go false true z = let q : Length ≡ why = cc in rw q
            go false false z = let q : ◌≡◌ {A = ℕ} 0 1 = cc in absurd (omega arith)

        read_is : (end : ℕ) → end_of d ≡ end → headed_in d e c end ≡ headed_of d e t room
        unfolding headed_of payload_of
        read_is end z =
            rw (← z, m.0, m.1, checked_reads (payload_of d) t room c.cells true m.2 refl enough)

        pub an_end : (end : ℕ) → end_in d ≡ Ok end → headed_in d e c end ≡ message_of d e t room
        unfolding message_of
        an_end end x = sym (rw (k, sym m.2.answer, le-ltb room t.count enough) (sym (go (ltb (length d) header_len) (length_fails (length_of d) (length d)) x)))
          where
            go : (a b : Bool) → pick a (Err Short) (pick b (Err Length) (Ok (end_of d))) ≡ Ok end
                → headed_in d e c end
                ≡ pick a (unheaded (cleared t.count Short 0)) (pick b (unheaded (cleared t.count Length 0)) (headed_of d e t room))
            go true b z = let q : ◌≡◌ {A = ℕ} 0 1 = cc in absurd (omega arith)
            go false true z = let q : ◌≡◌ {A = ℕ} 0 1 = cc in absurd (omega arith)
            go false false z = let q : end_of d ≡ end = cc in read_is end q

-- ---- the header's verdict, then the payload's

pub header_err : (v why : Verdict) → Err why ≡ header_is v → (why ≡ v) × (verdict_number v ≡ 0 → ⊥)
header_err v why e = go (eqb (verdict_number v) 0) refl e
  where
    go : (b : Bool) → eqb (verdict_number v) 0 ≡ b → Err why ≡ pick b (Ok (tt {0})) (Err v) → (why ≡ v) × (verdict_number v ≡ 0 → ⊥)
    go true eb e = absurd (cc)
    go false eb e = (cc, eqb-false (verdict_number v) 0 eb)

pub header_ok : (v : Verdict) (u : Unit {0}) → Ok u ≡ header_is v → verdict_number v ≡ 0
header_ok v u e = go (eqb (verdict_number v) 0) refl e
  where
    go : (b : Bool) → eqb (verdict_number v) 0 ≡ b → Ok u ≡ pick b (Ok (tt {0})) (Err v) → verdict_number v ≡ 0
    go true eb e = eqb-true (verdict_number v) 0 eb
    go false eb e = absurd (cc)

module _ (d : List ℕ) (e : Expected) (c : CheckedTable) (end : ℕ) (reading : Reading) (head : Head) where
  pub headed_read : head ≡ head_at d end reading.verdict → header_len ≤ end → (u : Unit {0}) → Ok u ≡ header_is (header_verdict d e)
      → reading ≡ checked_of (take (end - header_len) (drop header_len d)) (table_in c.count c.cells) c.count c.width
      → record { head = head; reading = reading } ≡ headed_in d e c end
  headed_read eh large u v er =
      let z : reading ≡ checked_of (slice header_len end d) (table_in c.count c.cells) c.count c.width = er ∙ rw (cut_slice header_len end d large) in
      rw (eh, z, header_ok (header_verdict d e) u v)

  pub headed_refused : (why : Verdict) → head ≡ head_at d end why → Err why ≡ header_is (header_verdict d e) → reading ≡ cleared c.count why 0
      → record { head = head; reading = reading } ≡ headed_in d e c end
  headed_refused why eh v er =
      let h = header_err (header_verdict d e) why v in
      rw (eh, er, h.0, ne_eqb (verdict_number (header_verdict d e)) 0 h.1)
