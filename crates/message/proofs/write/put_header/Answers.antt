-- `message::write::put_header` meets its contract: its nine stores are one run, the header's bytes.
use Rattle.message.proofs.SendLaws.{header_stores}
use Rattle.message.proofs.write.put_header.Goals as goal

pub returns : goal.returns
returns c =
    header_stores _ _ _ _ _ _ _ _ _ _ _ _ (rw c.from.ensures at c.write_number.ensures) (rw c.from-2.ensures at c.write_number-2.ensures)
    c.write_number-3.ensures (rw c.from-3.ensures at c.write_number-4.ensures) (rw c.from-4.ensures at c.write_number-5.ensures)
    (rw c.from-5.ensures at c.write_number-6.ensures) (rw c.from-6.ensures at c.write_number-7.ensures)
    (rw c.from-7.ensures at c.write_number-8.ensures) (rw c.from-8.ensures at c.write_number-9.ensures)
