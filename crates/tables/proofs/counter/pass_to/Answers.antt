use Rattle.tables.proofs.PassedTo.{pass_become}
use Rattle.tables.proofs.counter.pass_to.Goals as goal

pub returns : goal.returns
returns c = pass_become _ _ c.requires.0 c.requires.1
