-- `cabinet::runs::zeppilorn_run_plan` meets its contract.
use Rattle.std.proofs.Common.{length}
use Rattle.meaning.specs.Answers.{printed}
use Rattle.cabinet.proofs.Sizes.{run_fits_word}
use Rattle.cabinet.proofs.Tells.{tells, printed_told}
use Rattle.cabinet.proofs.runs.zeppilorn_run_plan.Goals as goal

pub tell_written-requires : goal.tell_written-requires
tell_written-requires c = run_fits_word c.args.plan.now (length c.args.text.now) c.run_plan.result c.run_plan.ensures.0

pub returns : goal.returns
returns c =
    let r = c.run_plan.ensures in
    (tells printed r.0 (printed_told _ c.tell_written.ensures.text), r.1)
