use Rattle.words.specs.Contents.{contents}
use Rattle.whole_run.proofs.Offering.{Offering}
use Rattle.whole_run.proofs.offers.offer_all.Given as goal

abbrev pub invariant-loop-i : goal.invariant-loop-i
invariant-loop-i l = Offering l.numbers l.due l.from (contents l.initial.state.words.now) l.i l.state.words.now l.initial.out l.out l.start l.at
