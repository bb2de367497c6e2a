-- `cabinet::boxes::zeppilorn_step` meets its contract.
use Rattle.meaning.specs.Answers.{stepped}
use Rattle.cabinet.proofs.Tells.{tells, stepped_told}
use Rattle.cabinet.proofs.boxes.zeppilorn_step.Goals as goal

pub returns : goal.returns
returns c =
    let a = c.step.ensures in
    (tells stepped a.0 (stepped_told _ c.tell_stepped.ensures), a.1)
