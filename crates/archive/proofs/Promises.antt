-- The promises of specs/Promises.antt, each by the law that shows it.
-- Assumes nothing.
use mathlib.Core.Path.{◌≡◌, refl, sym, ap, ◌∙◌}
use mathlib.Core.Option.{some-injective}
use Rattle.archive.specs.Form.{file_of}
use Rattle.archive.specs.Records.{messages_in}
use Rattle.archive.specs.Opening.{holds, archive_of}
use Rattle.archive.specs.Promises.{
  VerdictNumbers,
  VerdictsDiffer,
  MessageExactly,
  SessionByByte,
  TrailerByByte,
  WholeRecords,
  RecordsDiffer,
  FilesDiffer,
  AcceptedExactly,
  OpenVerdicts,
  OpenAnswers,
  HeldByByte,
  AddVerdicts,
  CloseVerdicts,
  AddWrites,
  CloseWrites,
  AddChanges,
  CloseChanges,
  AddedOpens,
  AddedMore,
  OpenedMore,
  ClosedAgain,
  ReadsNth,
  FindsFirst,
  RefusesAsOpening,
  OneAdding,
  OneClosing,
  OneOpening,
  OneReading,
  OneFinding,
  OnePart,
}
use Rattle.archive.specs.Cases.{CasesHold}
use Rattle.archive.proofs.VerdictLaws.{verdict_one}
use Rattle.archive.proofs.RecordLaws.{cut_back, cut_messages, cut_is}
use Rattle.archive.proofs.FileLaws.{file_holds}
use Rattle.archive.proofs.ByteLaws as bytes
use Rattle.archive.proofs.AcceptLaws as accept
use Rattle.archive.proofs.KeepLaws as keep
use Rattle.archive.proofs.ShowLaws as show
use Rattle.archive.proofs.AddedLaws as added
use Rattle.archive.proofs.Cases as cases

pub verdict_numbers : VerdictNumbers
verdict_numbers = refl

pub verdicts_differ : VerdictsDiffer
verdicts_differ = verdict_one

pub message_exactly : MessageExactly
message_exactly = bytes.message_exactly

pub session_by_byte : SessionByByte
session_by_byte = bytes.session_by_byte

pub trailer_by_byte : TrailerByByte
trailer_by_byte = bytes.trailer_by_byte

pub whole_records : WholeRecords
whole_records bytes ms b = (λ e. (cut_is bytes ms e b, cut_messages bytes ms e), λ (is, are). rw is (cut_back ms are))

pub records_differ : RecordsDiffer
records_differ ms ns a b e = some-injective ms ns (sym (cut_back ms a) ∙ ap messages_in e ∙ cut_back ns b)

pub files_differ : FilesDiffer
files_differ f ms ns a b few e =
    let h : archive_of (file_of f ms) ≡ holds f ms = file_holds f ms a few in
    let k : archive_of (file_of f ns) ≡ holds f ns = file_holds f ns b (rw (← e) few) in
    cc

pub accepted_exactly : AcceptedExactly
accepted_exactly = accept.accepted_exactly

pub open_verdicts : OpenVerdicts
open_verdicts = accept.open_verdicts

pub open_answers : OpenAnswers
open_answers = accept.open_answers

pub held_by_byte : HeldByByte
held_by_byte = bytes.held_by_byte

pub add_verdicts : AddVerdicts
add_verdicts = keep.add_verdicts

pub close_verdicts : CloseVerdicts
close_verdicts = keep.close_verdicts

pub add_writes : AddWrites
add_writes = keep.add_writes

pub close_writes : CloseWrites
close_writes = keep.close_writes

pub add_changes : AddChanges
add_changes = keep.add_changes

pub close_changes : CloseChanges
close_changes = keep.close_changes

pub added_opens : AddedOpens
added_opens = added.added_opens_all

pub added_more : AddedMore
added_more = added.added_more

pub opened_more : OpenedMore
opened_more = added.opened_more

pub closed_again : ClosedAgain
closed_again = added.closed_again

pub reads_nth : ReadsNth
reads_nth = show.reads_nth

pub finds_first : FindsFirst
finds_first = show.finds_first

pub refuses_as_opening : RefusesAsOpening
refuses_as_opening = show.refuses_as_opening

pub one_adding : OneAdding
one_adding file told m r s x y (a, b) (c, d) = (a ∙ sym c, b ∙ sym d)

pub one_closing : OneClosing
one_closing file told r s x y (a, b) (c, d) = (a ∙ sym c, b ∙ sym d)

pub one_opening : OneOpening
one_opening file r s d e = d ∙ sym e

pub one_reading : OneReading
one_reading file n r s d e = d ∙ sym e

pub one_finding : OneFinding
one_finding file session r s d e = d ∙ sym e

pub one_part : OnePart
one_part file found r s d e = d ∙ sym e

pub cases_hold : CasesHold
cases_hold = cases.cases_hold
