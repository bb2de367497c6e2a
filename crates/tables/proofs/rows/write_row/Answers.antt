use Rattle.tables.proofs.RowChanges.{row_stored}
use Rattle.tables.proofs.rows.write_row.Goals as goal

pub returns : goal.returns
returns c = row_stored c.args.ws.now c.args.at c.args.row c.requires c.copy_from_slice.ensures.after
