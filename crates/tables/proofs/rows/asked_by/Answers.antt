use Rattle.std.proofs.Common.{sym, ◌∙◌}
use Rattle.words.proofs.TableReads.{connection_at_lem}
use Rattle.tables.proofs.rows.asked_by.Goals as goal

pub returns : goal.returns
returns c = c.connection_at.ensures ∙ sym (connection_at_lem c.args.ws.now c.args.n c.requires.2 c.requires.3)
