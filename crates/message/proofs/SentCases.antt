-- The rows of case a, written with document 01's header, are the message that it shows, by computing; and so they are read back, by demand 2.
-- The rows of the payload's instance of demand 3 are sent, by computing, and read by demand 3.
-- Assumes nothing.
use mathlib.Core.Path.{◌≡◌, refl, ap, ◌∙◌}
use native.Mathlib.Omega.{arith}
use Prim.Native.Nat.{ℕ, ◌≤◌}
use mathlib.Core.Bool.{Bool}
use mathlib.Core.List.{List, [], ◌++◌}
use Rattle.wire.specs.Number.{number_bytes, twos_of}
use Rattle.wire.proofs.NumberLaws.{bytes_nil}
use Rattle.payload.specs.Table.{row_fits, rows_fit, later, find, idents_differ, table_fits}
use Rattle.payload.specs.Row.{is_absent}
use Rattle.payload.specs.Reading.{full, reading_of}
use Rattle.payload.specs.Tree.{field_bytes, member_bytes, bytes_of}
use Rattle.payload.specs.Judging.{unsigned_fits, signed_fits, row_fine, up_after, judged_from, judged_of}
use Rattle.payload.specs.Writing.{run_wire, tag_for, put_of, parts_of, placed, nested, tree_of, some_wide, done, sized_of, if_fine, outcome_of}
use Rattle.payload.specs.Cases.{table_w, values_a}
use Rattle.payload.specs.Demand2.{Handed}
use Rattle.payload.specs.Demand3Cases.{writer_table, reader_table, written_rows, other_order, other_bytes}
use Rattle.payload.proofs.Promises.{demand3_shown}
use Rattle.message.specs.MessageType.{is_one}
use Rattle.message.specs.Header.{header_bytes, Fitting}
use Rattle.message.specs.Writing.{message_bytes, framed, sending_of}
use Rattle.message.specs.Reading.{message_of}
use Rattle.message.specs.Demand2.{expected_of, header_w, message_a, CaseASent}
use Rattle.message.specs.Demand3.{MessageSent, message_of_members, MessageDemand3Shown}
use Rattle.message.proofs.Demand2.{message_demand_2}
use Rattle.message.proofs.Demand3 as orders

case_a : sending_of header_w (full values_a) 5 table_w [] 27 ≡ done message_a
unfolding number_bytes twos_of row_fits rows_fit later find idents_differ table_fits is_absent field_bytes member_bytes bytes_of unsigned_fits signed_fits row_fine up_after judged_from judged_of run_wire tag_for put_of parts_of placed nested tree_of some_wide sized_of if_fine outcome_of table_w is_one header_bytes message_bytes framed sending_of header_w message_a
case_a = refl

fitting_w : Fitting header_w
unfolding header_w
fitting_w = record {
  service_in = omega arith;
  method_in = omega arith;
  client_in = omega arith;
  session_in_lem = omega arith;
  interface_in = omega arith;
  kind_in_lem = omega arith;
  code_in = omega arith;
}

handed_a : Handed (full values_a) table_w []
unfolding table_w
handed_a = record { types_array = refl; rows_array = refl; buf_bytes = bytes_nil }

pub case_a_sent : CaseASent
case_a_sent = record { sends = case_a; back = message_demand_2 header_w (full values_a) 5 table_w [] 27 message_a fitting_w handed_a case_a }

-- ---- demand 3

unfoldable made_of : List ℕ
made_of = message_bytes header_w (bytes_of 1 (tree_of writer_table [] written_rows))

made : sending_of header_w written_rows 6 writer_table [] 33 ≡ done made_of
unfolding number_bytes twos_of row_fits rows_fit later find idents_differ table_fits is_absent field_bytes member_bytes bytes_of unsigned_fits signed_fits row_fine up_after judged_from judged_of run_wire tag_for put_of parts_of placed nested tree_of some_wide sized_of if_fine outcome_of writer_table written_rows is_one header_bytes message_bytes framed sending_of header_w made_of
made = refl

shown_sent : (required : Bool) → MessageSent header_w writer_table (reader_table required) written_rows [] other_order
shown_sent required =
    let s = demand3_shown.sent required in
    record {
      room = 6;
      space = 33;
      message = made_of;
      fitting = fitting_w;
      handed = s.handed;
      makes = made;
      two_tables = s.two_tables;
      reordered = s.reordered;
    }

width_one : writer_table.width ≡ 1
unfolding writer_table
width_one = refl

six : (required : Bool) → (reader_table required).count ≤ 6
unfolding reader_table
six required = omega arith

shown_reads : (required : Bool) (x : List ℕ)
    → (message_of (message_of_members header_w writer_table.width other_order ++ x) (expected_of header_w) (reader_table required) 6).reading
    ≡ reading_of other_bytes (reader_table required) 6
shown_reads required x =
    ap (λ r. r.reading) (orders.read_is header_w writer_table (reader_table required) written_rows [] other_order x 6 (shown_sent required) (six required))
    ∙ ap (λ w. reading_of (bytes_of w other_order) (reader_table required) 6) width_one
    ∙ ap (λ p. reading_of p (reader_table required) 6) demand3_shown.bytes_are

pub message_demand_3_shown : MessageDemand3Shown
message_demand_3_shown = record { sent = shown_sent; reads = shown_reads }
