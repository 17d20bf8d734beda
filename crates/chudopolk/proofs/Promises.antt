-- The promises of specs/Promises.antt, each by the law that shows it.
-- Assumes nothing.
use mathlib.Core.Path.{sym, ◌∙◌}
use Rattle.chudopolk.specs.Promises.{TablesKept, WildUnfit, HandsRows, HandsValues, ShownBack, OneRead, OneWrite, OneCheck}
use Rattle.chudopolk.proofs.Kept as table
use Rattle.chudopolk.proofs.ValueLaws as value
use Rattle.chudopolk.proofs.HeadLaws as head
use Rattle.chudopolk.proofs.Back as row

pub tables_kept : TablesKept
tables_kept = table.tables_kept

pub wild_unfit : WildUnfit
wild_unfit = value.wild_unfit

pub hands_rows : HandsRows
hands_rows = value.hands_rows

pub hands_values : HandsValues
hands_values = head.hands_values

pub shown_back : ShownBack
shown_back = row.shown_back

pub one_read : OneRead
one_read = head.one_read

pub one_write : OneWrite
one_write = head.one_write

pub one_check : OneCheck
one_check form types r s d e = d ∙ sym e
