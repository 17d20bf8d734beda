-- The closed instances hold, by computing.
-- Assumes nothing.
use mathlib.Core.Path.{refl}
use Rattle.wire.specs.Number.{number_of, number_bytes}
use Rattle.wire.specs.Header.{field_at}
use Rattle.wire.specs.Part.{part_of}
use Rattle.archive.specs.Form.{message_fits, record_bytes, records_bytes, entry_bytes, index_bytes, trailer_bytes, closing_bytes, file_of}
use Rattle.archive.specs.Records.{record_fits, cut_all, messages_to}
use Rattle.archive.specs.Adding.{is_full, adding, closing}
use Rattle.archive.specs.Added.{add_all}
use Rattle.archive.specs.Opening.{same, outgrows, archive_of}
use Rattle.archive.specs.Finding.{first_of}
use Rattle.archive.specs.Cases.{message_a, message_b, message_c, three_file, ThreeHold, add_cases, open_cases, CasesHold}

three_hold : ThreeHold
unfolding number_of number_bytes field_at part_of message_fits record_bytes records_bytes entry_bytes index_bytes trailer_bytes closing_bytes file_of
    record_fits cut_all messages_to is_full adding closing add_all same outgrows archive_of first_of message_a message_b message_c three_file
three_hold = record {
  added = refl;
  closed = (refl, refl);
  file_of_lem = refl;
  opened = (refl, refl);
  read = refl;
  shown = refl;
  finds = refl;
  again = (refl, refl);
}

pub cases_hold : CasesHold
unfolding number_of number_bytes field_at message_fits record_bytes records_bytes entry_bytes index_bytes trailer_bytes closing_bytes file_of
    record_fits cut_all messages_to is_full adding closing same outgrows archive_of first_of message_a add_cases open_cases
cases_hold = record {
  three_hold = three_hold;
  adds_hold = refl;
  opens_hold = refl;
  closes_hold = refl;
  no_room = refl;
  refuses_hold = refl;
}
