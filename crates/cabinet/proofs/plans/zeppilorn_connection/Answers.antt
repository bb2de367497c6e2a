-- `cabinet::plans::zeppilorn_connection` meets its contract.
use Rattle.std.proofs.Common.{refl, ap}
use Rattle.meaning.specs.Plan.{connection_words}
use Rattle.cabinet.proofs.plans.zeppilorn_connection.Goals as goal

pub returns : goal.returns
unfolding connection_words
returns c = (refl, ap connection_words c.connection-c.ensures)
