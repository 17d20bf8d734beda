-- The writer accepts the rows of cases a, c and m, by computing; and so they are read back, by demand 2.
-- Assumes nothing.
use mathlib.Core.Path.{◌≡◌, refl}
use Prim.Native.Nat.{ℕ}
use mathlib.Core.List.{[]}
use lib.ListN.{length, take}
use Rattle.wire.specs.Number.{number_bytes, twos_of}
use Rattle.wire.specs.Text.{following, follows, text_from, string_bytes}
use Rattle.wire.proofs.NumberLaws.{bytes_nil}
use Rattle.payload.specs.Table.{row_fits, rows_fit, later, find, idents_differ, table_fits}
use Rattle.payload.specs.Row.{is_absent}
use Rattle.payload.specs.Tree.{field_bytes, member_bytes, bytes_of}
use Rattle.payload.specs.Judging.{unsigned_fits, signed_fits, float_fits, run_fits, row_fine, up_after, judged_from, judged_of}
use Rattle.payload.specs.Writing.{run_wire, tag_for, put_of, parts_of, placed, nested, tree_of, some_wide, sized_of, if_fine, outcome_of}
use Rattle.payload.specs.Cases.{table_w, cases}
use Rattle.payload.specs.Demand2.{Handed, rows_of, payload_of, CasesWritten, CasesBack}
use Rattle.payload.proofs.Round.Demand2.{demand_2}

pub cases_written : CasesWritten
unfolding number_bytes twos_of following follows text_from string_bytes row_fits rows_fit later find idents_differ table_fits is_absent field_bytes member_bytes bytes_of unsigned_fits signed_fits float_fits run_fits row_fine up_after judged_from judged_of run_wire tag_for put_of parts_of placed nested tree_of some_wide sized_of if_fine outcome_of table_w cases
cases_written = record { case_a = refl; case_c = refl; case_m = refl }

handed_case : (n : ℕ) → length (rows_of n) ≡ 64 → Handed (rows_of n) table_w []
unfolding table_w
handed_case n e = record { types_array = refl; rows_array = e; buf_bytes = bytes_nil }

pub cases_back : CasesBack
unfolding cases
cases_back = record {
  back_a = demand_2 (rows_of 0) 5 table_w [] 11 (take 11 (payload_of 0)) (handed_case 0 refl) cases_written.case_a;
  back_c = demand_2 (rows_of 2) 5 table_w [] 4 (payload_of 2) (handed_case 2 refl) cases_written.case_c;
}
