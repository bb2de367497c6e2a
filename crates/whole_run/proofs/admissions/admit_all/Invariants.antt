use Rattle.words.specs.Contents.{contents}
use Rattle.whole_run.proofs.Admitting.{Admitting}
use Rattle.whole_run.proofs.admissions.admit_all.Given as goal

abbrev pub invariant-loop-i : goal.invariant-loop-i
invariant-loop-i l = Admitting l.table (contents l.initial.state.words.now) l.i l.state.words.now l.numbers l.initial.out l.out l.at
