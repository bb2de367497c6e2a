use Rattle.meaning.specs.Answers.{plan_written}
use Rattle.answers.proofs.Tells.{fits}
use Rattle.answers.proofs.tell_written.Goals as goal

pub map-requires : goal.map-requires
unfolding plan_written
map-requires c = λ size e _ _. fits (λ a. (plan_written a).fields) e c.requires 0
