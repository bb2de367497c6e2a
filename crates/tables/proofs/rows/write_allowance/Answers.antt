use Rattle.tables.proofs.RowChanges.{allowance_become}
use Rattle.tables.proofs.rows.write_allowance.Goals as goal

pub returns : goal.returns
returns c = allowance_become c.args.ws.now c.args.n c.args.a.next c.args.a.credit c.requires.0 c.requires.1 c.requires.2
