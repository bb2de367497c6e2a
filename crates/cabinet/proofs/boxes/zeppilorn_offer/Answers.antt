-- `cabinet::boxes::zeppilorn_offer` meets its contract.
use Rattle.meaning.specs.Answers.{offered}
use Rattle.cabinet.proofs.Tells.{tells, offered_told}
use Rattle.cabinet.proofs.boxes.zeppilorn_offer.Goals as goal

pub returns : goal.returns
returns c =
    let a = c.offer.ensures in
    (tells offered a.0 (offered_told _ c.tell_offered.ensures), a.1)
