use Rattle.words.proofs.TableReads.{connection_at_lem, allowance_at}
use Rattle.tables.proofs.rows.read_row.Goals as goal

pub returns : goal.returns
returns c =
    let ws = c.args.ws.now in
    let n = c.args.n in
    rw c.row_at.ensures
    (connection_at_lem ws n c.requires.1 c.requires.2, allowance_at ws n c.requires.1 c.requires.2)
