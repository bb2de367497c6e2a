-- `cabinet::plans::zeppilorn_read_plan` meets its contract.
use Rattle.meaning.specs.Answers.{plan_read}
use Rattle.cabinet.proofs.Sizes.{read_fits}
use Rattle.cabinet.proofs.Tells.{tells, read_told}
use Rattle.cabinet.proofs.plans.zeppilorn_read_plan.Goals as goal

pub tell_read-requires : goal.tell_read-requires
tell_read-requires c = read_fits c.args.plan.now c.read.result c.read.ensures

pub returns : goal.returns
returns c = tells plan_read c.read.ensures (read_told _ c.tell_read.ensures)
