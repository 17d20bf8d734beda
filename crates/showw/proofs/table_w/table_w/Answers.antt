-- `showw::table_w::table_w` meets its contract: the stores into 64 empty rows make the definition's list, by computing.
use Rattle.payload.specs.Cases.{table_w}
use Rattle.showw.proofs.table_w.table_w.Goals as goal

pub returns : goal.returns
unfolding table_w
returns c =
    rw (
      c.row-5.ensures,
      c.row-4.ensures,
      c.row-3.ensures,
      c.row-2.ensures,
      c.row.ensures,
      c.row-rows.ensures,
    )
