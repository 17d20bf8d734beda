-- Cases a to n hold, by computing.
-- Assumes nothing.
use mathlib.Core.Path.{refl}
use Rattle.wire.specs.Number.{number_of, signed_of}
use Rattle.wire.specs.Text.{following, follows, text_from, string_fits}
use Rattle.payload.specs.Table.{row_fits, rows_fit, later, find, idents_differ, table_fits}
use Rattle.payload.specs.Row.{is_absent, number_row, shown_of}
use Rattle.payload.specs.Reading.{
  content_of,
  lengthed_of,
  body_of,
  unknown,
  content_fits,
  known,
  met,
  step_of,
  behind,
  member_by,
  lacks,
  end_of,
  level_by,
  walk,
  walked_of,
  answer_of,
  checked_of,
  reading_of,
}
use Rattle.payload.specs.Cases.{table_w, cases, CasesHold}

pub cases_hold : CasesHold
unfolding number_of signed_of following follows text_from string_fits row_fits rows_fit later find idents_differ table_fits is_absent number_row shown_of content_of lengthed_of body_of unknown content_fits known met step_of behind member_by lacks end_of level_by walk walked_of answer_of checked_of reading_of table_w cases
cases_hold = refl
