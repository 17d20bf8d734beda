-- The promises of specs/Promises.antt, each by the law that shows it.
-- Assumes nothing.
use mathlib.Core.Path.{sym, ◌∙◌}
use lib.ListN.{length}
use Rattle.message.specs.Rows.{lent_rows}
use Rattle.message.specs.Promises.{
  OneOfFive,
  FieldsByByte,
  HeaderReadBack,
  VerdictsExactly,
  HandsOn,
  GivesParts,
  SetsRows,
  TailIgnored,
  OneAnswer,
  ChangesRows,
  OldRowsIgnored,
  OneLent,
  LentWritten,
  OneLentSending,
  OnePart,
}
use Rattle.message.proofs.FieldLaws as field
use Rattle.message.proofs.MessageLaws as message
use Rattle.message.proofs.RowLaws as rows
use Rattle.message.specs.Sent.{SentSettled, OneSending}
use Rattle.message.specs.SentWhen.{SentVerdicts}
use Rattle.message.specs.Demand2.{MessageDemand2Holds, MessageDemand2Answered, CaseASent}
use Rattle.message.proofs.SentLaws as sent
use Rattle.message.proofs.SentWhen as when
use Rattle.message.specs.Demand3.{MessageDemand3Holds, AbsentArrives, MessageDemand3Shown}
use Rattle.message.proofs.Demand2 as demands
use Rattle.message.proofs.Demand3 as orders
use Rattle.message.proofs.SentCases as cases

pub one_of_five : OneOfFive
one_of_five = field.one_law

pub fields_by_byte : FieldsByByte
fields_by_byte = field.field_law

pub header_read_back : HeaderReadBack
header_read_back = field.header_law

pub verdicts_exactly : VerdictsExactly
verdicts_exactly = message.verdict_law

pub hands_on : HandsOn
hands_on = message.handed_on

pub gives_parts : GivesParts
gives_parts = message.parts_law

pub sets_rows : SetsRows
sets_rows = message.rows_law

pub tail_ignored : TailIgnored
tail_ignored = message.tail_law

pub one_answer : OneAnswer
one_answer = message.one_answer

pub changes_rows : ChangesRows
changes_rows = rows.lent_law

pub old_rows_ignored : OldRowsIgnored
old_rows_ignored = rows.old_law

pub one_lent : OneLent
one_lent = rows.one_lent

pub sent_settled : SentSettled
sent_settled = sent.sent_settled

pub one_sending : OneSending
one_sending = sent.one_sending

pub sent_verdicts : SentVerdicts
sent_verdicts = when.sent_verdicts

pub message_demand_2 : MessageDemand2Holds
message_demand_2 = demands.message_demand_2

pub message_demand_2_answered : MessageDemand2Answered
message_demand_2_answered = demands.message_demand_2_answered

pub message_demand_3 : MessageDemand3Holds
message_demand_3 = orders.message_demand_3

pub absent_arrives : AbsentArrives
absent_arrives = orders.absent_arrives

pub case_a_sent : CaseASent
case_a_sent = cases.case_a_sent

pub message_demand_3_shown : MessageDemand3Shown
message_demand_3_shown = cases.message_demand_3_shown

pub lent_written : LentWritten
lent_written = rows.lent_written

pub one_lent_sending : OneLentSending
one_lent_sending h lent = sent.one_sending h (lent_rows lent) (length lent)

pub one_part : OnePart
one_part d p r s e f = e ∙ sym f
