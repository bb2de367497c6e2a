-- `cabinet::boxes::zeppilorn_open` meets its contract.
use Rattle.std.proofs.Common.{ap}
use Rattle.meaning.specs.Answers.{opened}
use Rattle.cabinet.proofs.Tells.{tells, opened_told}
use Rattle.cabinet.proofs.boxes.zeppilorn_open.Goals as goal

pub returns : goal.returns
returns c =
    let a = c.open.ensures in
    (tells opened (ap (λ p. p.0) a) (opened_told _ c.tell_opened.ensures), ap (λ p. p.1) a)
