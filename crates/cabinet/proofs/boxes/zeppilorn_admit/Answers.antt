-- `cabinet::boxes::zeppilorn_admit` meets its contract.
use Rattle.meaning.specs.Answers.{admitted}
use Rattle.cabinet.proofs.Tells.{tells, admitted_told}
use Rattle.cabinet.proofs.boxes.zeppilorn_admit.Goals as goal

pub returns : goal.returns
returns c =
    let a = c.admit.ensures in
    (tells admitted a.0 (admitted_told _ c.tell_admitted.ensures), a.1)
