-- `cabinet::plans::zeppilorn_write_plan` meets its contract.
use Rattle.plan_writer.specs.Written.{lent}
use Rattle.meaning.specs.Answers.{plan_written}
use Rattle.cabinet.proofs.Sizes.{write_fits}
use Rattle.cabinet.proofs.Tells.{tells, written_told}
use Rattle.cabinet.proofs.plans.zeppilorn_write_plan.Goals as goal

pub tell_written-requires : goal.tell_written-requires
tell_written-requires c =
    let a = c.args in
    write_fits (lent a.interval a.cycle a.factors.now a.connections.now a.arrivals.now) a.plan.now c.write.result c.write.ensures.answer

pub returns : goal.returns
returns c =
    let w = c.write.ensures in
    (tells plan_written w.answer (written_told _ c.tell_written.ensures.plan), w.bytes)
