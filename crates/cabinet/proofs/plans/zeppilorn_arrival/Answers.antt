-- `cabinet::plans::zeppilorn_arrival` meets its contract.
use Rattle.std.proofs.Common.{refl, ap}
use Rattle.meaning.specs.Plan.{arrival_words}
use Rattle.cabinet.proofs.plans.zeppilorn_arrival.Goals as goal

pub returns : goal.returns
unfolding arrival_words
returns c = (refl, ap arrival_words c.arrival-a.ensures)
